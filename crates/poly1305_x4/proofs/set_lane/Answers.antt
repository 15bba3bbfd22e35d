use Rattle.poly1305_x4.proofs.Lanes.{write_lane}
use Rattle.std.proofs.Common.{rules}
use Rattle.poly1305_x4.proofs.set_lane.Goals as goal

pub returns : goal.returns
returns c = write_lane c.args.x.now c.args.l c.args.h (search rules) c.requires
