use Rattle.poly1305_x4.proofs.Lanes.{read_lane}
use Rattle.poly1305_x4.proofs.lane.Goals as goal

pub returns : goal.returns
returns c = read_lane c.args.x.now c.args.l c.requires.l_bound c.requires.held
