use Rattle.std.proofs.Common.{◌≡◌, ◌/◌, map}
use Rattle.chacha20_rounds.specs.Rounds.{double_round}
use Rattle.chacha20_lanes.specs.Lanes.{rows, up_to}
use Rattle.chacha20_wide.proofs.double_rounds.Given as goal

abbrev pub invariant-loop-l : goal.invariant-loop-l
invariant-loop-l g l =
    let n = g.row.W / 16 in
    rows n l.x ≡ up_to l.l (map double_round (rows n l.initial.x)) (rows n l.initial.x)
