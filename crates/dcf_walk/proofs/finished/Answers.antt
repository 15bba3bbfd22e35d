use mathlib.Core.Path.{◌∙◌, ap, ap₂}
use Rattle.base_algebra.specs.Word.{add}
use Rattle.base_algebra.specs.Bit.{odd}
use Rattle.dcf_function.specs.Dcf.{by_sign, total}
use Rattle.dcf_node.specs.Node.{first, as_walk}
use Rattle.dcf_walk.proofs.finished.Goals as goal

pub returns : goal.returns
unfolding total first as_walk
returns c =
    c.by_sign.ensures
    ∙ ap (by_sign (odd c.args.party))
    (c.add-total.ensures ∙ ap₂ add c.add.ensures c.only.ensures)
