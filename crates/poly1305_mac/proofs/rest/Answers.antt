use mathlib.Core.Path.{◌∙◌, refl}
use Rattle.poly1305_mac.proofs.Pieces.{rest_is}
use Rattle.poly1305_mac.proofs.rest.Goals as goal

pub returns : goal.returns
returns c = c.copy.ensures ∙ rest_is _ _ refl
