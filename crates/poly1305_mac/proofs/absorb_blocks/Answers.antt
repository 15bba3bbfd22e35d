use Rattle.poly1305_mac.proofs.Pieces.{blocks_none, blocks_more}
use Rattle.poly1305_mac.proofs.absorb_blocks.Goals as goal

pub loop-i-init : goal.loop-i-init
loop-i-init c = blocks_none _ _ _ _

pub loop-i-preserved : goal.loop-i-preserved
loop-i-preserved c = blocks_more _ _ _ _ _ c.loop-i.invariant c.step-a.ensures
