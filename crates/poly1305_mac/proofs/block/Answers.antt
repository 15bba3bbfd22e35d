use Rattle.poly1305_limbs.specs.Limbs.{words4}
use Rattle.poly1305_mac.proofs.Bytes.{block_is}
use Rattle.poly1305_mac.proofs.block.Goals as goal

pub returns : goal.returns
unfolding words4
returns c =
    block_is _ _ _ c.requires.at_in_bounds c.split.ensures
    c.load-w0.ensures c.load-w1.ensures c.load-w2.ensures c.load-w3.ensures
