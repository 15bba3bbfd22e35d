use Rattle.poly1305_mac.specs.Laws.{mac_law, value_zero}
use Rattle.poly1305_mac.proofs.mac.Goals as goal

pub returns : goal.returns
returns c =
    mac_law _ _ c.key-halves.ensures.r_value c.key-halves.ensures.s_value
    (rw value_zero at c.absorb-a.ensures) c.tag.ensures
