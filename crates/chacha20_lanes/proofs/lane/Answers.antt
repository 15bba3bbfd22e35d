use Rattle.std.proofs.Common.{◌/◌, rules}
use Rattle.chacha20_lanes.proofs.Rows.{read_row}
use Rattle.chacha20_lanes.proofs.lane.Goals as goal

pub returns : goal.returns
returns g c =
    read_row (g.row.W / 16) c.args.x.now c.args.l _ _ _ _ (search rules)
    c.four-p.ensures c.four-q.ensures c.four-r.ensures c.four-s.ensures
