use mathlib.Core.Path.{refl}
use Rattle.base_messages.specs.Laws.{taken, refused}
use Rattle.call_dealer.proofs.place_told.Goals as goal

pub returns-then-why-ne0 : goal.returns-then-why-ne0
returns-then-why-ne0 c = refused _ _ refl c.if-why-ne0.true

pub returns : goal.returns
returns c = taken _ _ refl c.if-why-ne0.false
