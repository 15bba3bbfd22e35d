use mathlib.Core.Path.{◌∙◌}
use Rattle.half_open.proofs.Laws.{load_law}
use Rattle.half_open.proofs.load_number.Goals as goal

pub returns : goal.returns
returns c =
    c.joined.ensures
    ∙ load_law _ _ _ c.requires c.load.ensures c.load-2.ensures
