use Rattle.poly1305_mac.proofs.Pieces.{absorb_none, absorb_left}
use Rattle.poly1305_mac.proofs.absorb.Goals as goal

pub returns-then-n-eq0 : goal.returns-then-n-eq0
returns-then-n-eq0 c = absorb_none _ _ _ c.absorb_blocks-a.ensures c.if-n-eq0.true

pub returns : goal.returns
returns c = absorb_left _ _ _ c.absorb_blocks-a.ensures _ c.if-n-eq0.false c.rest-b.ensures c.absorb_blocks.ensures
