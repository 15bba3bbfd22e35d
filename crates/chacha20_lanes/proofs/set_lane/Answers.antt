use Rattle.std.proofs.Common.{◌/◌, arith, rules}
use Rattle.chacha20_lanes.proofs.Rows.{write_row}
use Rattle.chacha20_lanes.proofs.set_lane.Goals as goal

pub returns : goal.returns
returns g c =
    write_row (g.row.W / 16) c.args.x.now _ _ _ _ c.args.l c.args.t (omega arith) (search rules)
    c.set_four.ensures c.set_four-2.ensures c.set_four-3.ensures c.set_four-4.ensures
