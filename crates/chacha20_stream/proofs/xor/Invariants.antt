use mathlib.Core.Path.{◌≡◌}
use Prim.Native.Nat.{◌+◌, ◌-◌, ◌<◌}
use lib.ListN.{length}
use Rattle.chacha20_stream.proofs.Turns.{Xored}
use Rattle.chacha20_stream.proofs.xor.Given as goal

abbrev pub invariant-loop-at : goal.invariant-loop-at
invariant-loop-at l = Xored l.key l.counter l.nonce l.initial.bytes l.bytes l.at l.n × (length l.b ≡ 512)
    × (length l.key ≡ 8) × (length l.nonce ≡ 3) × (l.at < length l.initial.bytes + 512)

abbrev pub decreases-loop-at : goal.decreases-loop-at
decreases-loop-at l = length l.bytes - l.at
