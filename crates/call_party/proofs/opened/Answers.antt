use mathlib.Core.Path.{refl}
use Rattle.call_party.specs.Party.{opened}
use Rattle.call_party.proofs.opened.Goals as goal

pub returns : goal.returns
unfolding opened
returns c = refl
