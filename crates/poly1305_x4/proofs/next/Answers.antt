use Rattle.poly1305_x4.proofs.Lanes.{next_is}
use Rattle.poly1305_x4.proofs.next.Goals as goal

pub returns-clause-fact : goal.returns-clause-fact
returns-clause-fact c = next_is _ _ _ c.multiply-d.ensures.fact c.reduce-e.ensures c.plus.ensures.result_value
