use Rattle.poly1305_mac.proofs.Pieces.{padded_none, padded_left}
use Rattle.poly1305_mac.proofs.absorb_padded.Goals as goal

pub returns-then-m-eq0 : goal.returns-then-m-eq0
returns-then-m-eq0 c = padded_none _ _ _ c.absorb_blocks-a.ensures c.if-m-eq0.true

pub returns : goal.returns
returns c = padded_left _ _ _ c.absorb_blocks-a.ensures _ c.if-m-eq0.false c.rest-b.ensures c.absorb_blocks.ensures
