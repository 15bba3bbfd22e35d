use mathlib.Core.Path.{◌≡◌}
use Prim.Native.Nat.{◌*◌}
use lib.ListN.{length}
use Rattle.base_words.specs.List.{over, tab}
use lib.ListN.{get_or}
use Rattle.measure_iris.specs.Iris.{from_bits}
use Rattle.measure_iris.proofs.gather.Given as goal

abbrev pub invariant-loop-j : goal.invariant-loop-j
invariant-loop-j l =
    (l.out ≡ over 0 (tab (λ m. from_bits (λ i. get_or l.v i 0) (8 * m) 8) l.j) l.initial.out)
    × (length l.out ≡ length l.initial.out)
