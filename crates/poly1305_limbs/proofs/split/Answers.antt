use Rattle.poly1305_limbs.specs.Limbs.{value, words4}
use Rattle.poly1305_limbs.proofs.Limbs.{split_value}
use Rattle.poly1305_limbs.proofs.split.Goals as goal

pub returns : goal.returns
unfolding value words4
returns c =
    rw (c.from-w0.ensures, c.from-w1.ensures, c.from-w2.ensures, c.from-w3.ensures)
    (split_value _ _ _ _ c.args.top)
