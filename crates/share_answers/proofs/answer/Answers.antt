use mathlib.Core.Path.{◌∙◌, ap, ap₂}
use Rattle.base_algebra.specs.Word.{add, sub}
use Rattle.base_algebra.specs.Bit.{only, less, odd}
use Rattle.dcf_node.specs.Node.{value_at}
use Rattle.share_vectors.specs.Share.{answer}
use Rattle.share_answers.proofs.answer.Goals as goal

pub returns : goal.returns
unfolding answer
returns c =
    let args = c.args in
    let place = c.sub.ensures ∙ ap (sub args.z) c.add-end.ensures in
    let first = c.values-first.ensures.first_value ∙ ap (value_at args.party args.key args.seed) place in
    let one = c.below.ensures ∙ ap (less args.z) c.add-end.ensures in
    c.add.ensures
    ∙ ap₂ add
    (c.sub-difference.ensures ∙ ap₂ sub first c.values-first.ensures.second_value)
    (c.only.ensures ∙ ap (only (odd args.party)) one)
