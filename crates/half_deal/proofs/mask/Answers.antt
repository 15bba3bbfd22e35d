use mathlib.Core.Path.{refl}
use Rattle.half_deal.proofs.Laws.{mask_law}
use Rattle.half_deal.proofs.mask.Goals as goal

pub returns : goal.returns
returns c =
    let args = c.args in
    mask_law args.w.now _ _ args.at args.n refl c.requires.0
    c.requires.1 c.add_vectors.ensures
