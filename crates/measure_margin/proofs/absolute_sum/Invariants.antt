use mathlib.Core.Path.{◌≡◌}
use Prim.Native.Nat.{◌*◌, ◌≤◌}
use lib.IntN.{nat_abs}
use Rattle.base_algebra.specs.Sum.{sumℕ}
use Rattle.measure_table.specs.Measure.{element}
use Rattle.measure_margin.proofs.absolute_sum.Given as goal

abbrev pub invariant-loop-w : goal.invariant-loop-w
invariant-loop-w l = (l.total ≡ sumℕ (λ j. nat_abs (element l.y j)) l.w-index) × (l.total ≤ 1024 * l.w-index)
