use Rattle.poly1305_mac.proofs.Pieces.{step_is}
use Rattle.poly1305_mac.proofs.step.Goals as goal

pub returns : goal.returns
returns c =
    step_is _ _ c.block-c.ensures c.plus-e.ensures.result_value c.multiply-d.ensures.fact c.reduce.ensures
