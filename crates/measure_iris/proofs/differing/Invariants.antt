use mathlib.Core.Path.{◌≡◌}
use Prim.Native.Nat.{◌*◌, ◌≤◌}
use Rattle.base_algebra.specs.Sum.{sumℕ}
use Rattle.measure_iris.specs.Laws.{ones_at}
use Rattle.measure_iris.proofs.differing.Given as goal

abbrev pub invariant-loop-i : goal.invariant-loop-i
invariant-loop-i l = (l.n ≡ sumℕ (ones_at l.a l.b) (4 * l.i)) × (l.n ≤ 32 * l.i)
