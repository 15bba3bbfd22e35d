use mathlib.Core.Path.{◌∙◌, ap}
use Rattle.base_algebra.specs.Word.{sub}
use Rattle.base_algebra.specs.Bit.{odd}
use Rattle.dcf_function.specs.Dcf.{by_sign}
use Rattle.dcf_node.specs.Node.{first}
use Rattle.dcf_keys.proofs.final_word.Goals as goal

pub returns : goal.returns
unfolding first
returns c =
    c.by_sign.ensures
    ∙ ap (by_sign (odd c.args.g.t1))
    (c.sub-2.ensures ∙ ap (λ y. sub y c.args.g.v) c.sub.ensures)
