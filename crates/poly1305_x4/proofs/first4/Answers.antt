use Rattle.poly1305_x4.proofs.Lanes.{first_is}
use Rattle.poly1305_x4.proofs.first4.Goals as goal

pub returns : goal.returns
returns c =
    first_is _ _ _ _ _ _ _ _ c.side_by_side.ensures c.plus-a.ensures.adds c.plus-a.ensures.result_value
    c.block-b0.result.in_range c.block-b1.result.in_range c.block-b2.result.in_range c.block-b3.result.in_range
    c.block-b0.ensures c.block-b1.ensures c.block-b2.ensures c.block-b3.ensures
