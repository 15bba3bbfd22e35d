use mathlib.Core.Path.{◌≡◌, refl}
use mathlib.Core.Bool.{Bool, true, false}
use lib.Dec.{ltb}
use mir.Val.{bool_byte}
use Rattle.base_algebra.specs.Bit.{less, only}
use Rattle.share_answers.proofs.below.Goals as goal

byte_only : (b : Bool) → bool_byte b ≡ only b 1
unfolding only
byte_only true = refl
byte_only false = refl

pub returns : goal.returns
unfolding less
returns c = byte_only (ltb c.args.z c.args.end)
