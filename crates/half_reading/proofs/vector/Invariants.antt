use mathlib.Core.Path.{◌≡◌}
use mathlib.Core.List.{◌++◌}
use Prim.Native.Nat.{◌*◌}
use lib.ListN.{drop}
use Rattle.base_words.specs.List.{tab}
use Rattle.base_words.specs.Bytes.{word_at}
use Rattle.half_reading.proofs.vector.Given as goal

abbrev pub invariant-loop-i : goal.invariant-loop-i
invariant-loop-i l = l.w ≡ tab (λ k. word_at l.f (4 * k)) l.i ++ drop l.i l.initial.w
