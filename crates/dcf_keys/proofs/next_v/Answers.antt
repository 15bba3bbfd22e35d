use mathlib.Core.Path.{◌∙◌, ap, ap₂}
use Rattle.base_algebra.specs.Word.{add}
use Rattle.dcf_keys.proofs.next_v.Goals as goal

pub returns : goal.returns
returns c =
    c.add-2.ensures
    ∙ ap₂ add (c.add.ensures ∙ ap (λ y. add y c.args.v0) c.sub.ensures)
    c.by_sign.ensures
