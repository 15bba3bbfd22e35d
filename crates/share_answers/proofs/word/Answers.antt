use mathlib.Core.Path.{◌∙◌, ap, ap₂}
use Rattle.base_algebra.specs.Word.{add, mul}
use Rattle.share_vectors.specs.Share.{box_word}
use Rattle.share_answers.proofs.word.Goals as goal

pub returns : goal.returns
unfolding box_word
returns c =
    let args = c.args in
    let product = c.mul.ensures ∙ ap (λ k. mul k args.share) c.k.ensures in
    let part = c.add-part.ensures ∙ ap (λ p. add p args.own) product in
    c.add.ensures
    ∙ ap (λ w. add w args.r) (c.mul-2.ensures ∙ ap₂ mul c.sign.ensures part)
