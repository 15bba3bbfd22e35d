use Rattle.std.proofs.Common.{refl}
use Rattle.chacha20_rounds.specs.Rounds.{store}
use Rattle.chacha20_x2.proofs.set_four.Goals as goal

pub returns : goal.returns
unfolding store
returns c = refl
