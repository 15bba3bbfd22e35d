use Rattle.std.proofs.Common.{◌≡◌, ◌/◌, map}
use Rattle.chacha20_rounds.specs.Rounds.{rounds}
use Rattle.chacha20_lanes.specs.Lanes.{rows}
use Rattle.chacha20_wide.proofs.blocks.Given as goal

abbrev pub invariant-loop : goal.invariant-loop
invariant-loop g l = rows (g.row.W / 16) l.y ≡ map (rounds l.counter) (rows (g.row.W / 16) l.x)
