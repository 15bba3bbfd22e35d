use mathlib.Core.Path.{◌≡◌}
use Prim.Native.Nat.{◌+◌, ◌*◌, ◌-◌, ◌<◌}
use Rattle.measure_iris.specs.Iris.{bit, from_bits}
use Rattle.measure_iris.specs.Laws.{place_for}
use Rattle.measure_iris.proofs.rearranged_byte.Given as goal

abbrev pub invariant-loop-k : goal.invariant-loop-k
invariant-loop-k l =
    (l.byte ≡ from_bits (λ i. bit l.code (place_for l.stored i)) (8 * l.j + l.k) (8 - l.k))
    × (l.byte < 256)
