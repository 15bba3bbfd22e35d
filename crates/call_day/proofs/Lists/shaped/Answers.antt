use mathlib.Core.Path.{refl}
use Rattle.call_day.specs.Table.{shaped}
use Rattle.call_day.proofs.Lists.shaped.Goals as goal

pub returns : goal.returns
unfolding shaped
returns c = refl
