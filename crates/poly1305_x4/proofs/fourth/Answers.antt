use Rattle.poly1305_x4.proofs.Lanes.{power_is}
use Rattle.poly1305_x4.proofs.fourth.Goals as goal

pub returns : goal.returns
returns c = power_is _ c.multiply-d.ensures.fact c.reduce-r2.ensures c.multiply-e.ensures.fact c.reduce.ensures
