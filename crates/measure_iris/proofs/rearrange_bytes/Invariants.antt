use mathlib.Core.Path.{◌≡◌}
use Prim.Native.Nat.{◌*◌}
use lib.ListN.{length}
use Rattle.base_words.specs.List.{over, tab}
use Rattle.measure_iris.specs.Iris.{bit, from_bits}
use Rattle.measure_iris.specs.Laws.{place_for}
use Rattle.measure_iris.proofs.rearrange_bytes.Given as goal

abbrev pub invariant-loop-j : goal.invariant-loop-j
invariant-loop-j l =
    (l.out
    ≡ over 0 (tab (λ m. from_bits (λ i. bit l.code (place_for l.stored i)) (8 * m) 8) l.j) l.initial.out)
    × (length l.out ≡ length l.initial.out)
