use mathlib.Core.Path.{◌∙◌, ap, ap₂}
use Rattle.base_algebra.specs.Word.{add, sub}
use Rattle.base_algebra.specs.Bit.{only, odd}
use Rattle.dcf_function.specs.Dcf.{by_sign}
use Rattle.dcf_keys.proofs.word_correction.Goals as goal

pub returns : goal.returns
returns c =
    c.add.ensures
    ∙ ap₂ add (c.by_sign-2.ensures ∙ ap (by_sign (odd c.args.t1))
    (c.sub-difference.ensures ∙ ap (λ y. sub y c.args.v) c.sub.ensures))
    (c.only-one.ensures ∙ ap (only (odd c.args.b)) c.by_sign.ensures)
