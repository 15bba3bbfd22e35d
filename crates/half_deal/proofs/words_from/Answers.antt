use mathlib.Core.Path.{refl}
use Rattle.half_deal.proofs.Laws.{words_law}
use Rattle.half_deal.proofs.words_from.Goals as goal

pub returns : goal.returns
returns c =
    words_law _ _ _ _ _ refl c.requires.0
    c.requires.1 c.copy_from_slice.ensures.after
