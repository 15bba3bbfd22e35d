use mathlib.Core.Path.{◌∙◌, ap}
use Rattle.base_algebra.specs.Word.{sub, mul}
use Rattle.share_vectors.specs.Share.{other_r}
use Rattle.share_vectors.proofs.other_r.Goals as goal

pub returns : goal.returns
unfolding other_r
returns c =
    let args = c.args in
    c.sub-2.ensures
    ∙ ap (λ x. sub x args.r0) (c.sub.ensures
    ∙ ap (sub args.r) (c.mul.ensures ∙ ap (λ g. mul g args.t) c.sign.ensures))
