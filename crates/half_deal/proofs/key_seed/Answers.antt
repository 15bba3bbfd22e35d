use mathlib.Core.Path.{◌∙◌}
use Rattle.half_deal.specs.Dealing.{key_seed}
use Rattle.half_deal.proofs.Laws.{part_as_range}
use Rattle.half_deal.proofs.key_seed.Goals as goal

pub returns : goal.returns
unfolding key_seed
returns c = c.copy_from_slice.ensures.after ∙ part_as_range _ _ 8
