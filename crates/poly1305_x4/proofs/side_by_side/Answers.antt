use mathlib.Core.Path.{refl}
use Rattle.poly1305_x4.specs.Poly4.{rows}
use Rattle.poly1305_x4.proofs.side_by_side.Goals as goal

pub returns : goal.returns
unfolding rows
returns c = refl
