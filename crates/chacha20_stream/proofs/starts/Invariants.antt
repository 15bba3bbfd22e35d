use Rattle.std.proofs.Common.{◌≡◌, ◌/◌}
use Rattle.base_algebra.specs.Word.{add}
use Rattle.chacha20_lanes.specs.Lanes.{rows, up_to}
use Rattle.chacha20_stream.specs.Keystream.{starts}
use Rattle.chacha20_stream.proofs.starts.Given as goal

abbrev pub invariant-loop-l : goal.invariant-loop-l
invariant-loop-l g l =
    let m = g.row.W / 16 in
    (l.n ≡ add l.counter l.l) × (rows m l.x ≡ up_to l.l (starts m l.key l.counter l.nonce) (rows m l.initial.x))
