use mathlib.Core.Path.{refl}
use Rattle.half_content.specs.Content.{no_correction}
use Rattle.half_content.proofs.no_correction.Goals as goal

pub returns : goal.returns
unfolding no_correction
returns c = refl
