use Rattle.std.proofs.Common.{◌≡◌, ◌*◌, length}
use Rattle.chacha20_stream.proofs.Turns.{Filled}
use Rattle.chacha20_stream.proofs.stream.Given as goal

abbrev pub invariant-loop-turn : goal.invariant-loop-turn
invariant-loop-turn l =
    Filled l.key l.nonce l.initial.out l.out (128 * l.turn) l.n × (length l.key ≡ 8) × (length l.nonce ≡ 3)
