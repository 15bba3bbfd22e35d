use mathlib.Core.Path.{◌≡◌}
use Prim.Native.Nat.{◌+◌, ◌*◌, ◌-◌, ◌<◌}
use lib.ListN.{get_or}
use Rattle.measure_iris.specs.Iris.{from_bits}
use Rattle.measure_iris.proofs.packed_byte.Given as goal

abbrev pub invariant-loop-k : goal.invariant-loop-k
invariant-loop-k l = (l.byte ≡ from_bits (λ i. get_or l.v i 0) (8 * l.j + l.k) (8 - l.k)) × (l.byte < 256)
