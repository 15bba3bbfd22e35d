use native.Mathlib.Omega.{arith}
use Rattle.measure_iris.specs.Laws.{place_sent, place_stored}
use Rattle.measure_iris.proofs.place.Goals as goal

pub returns-then-stored : goal.returns-then-stored
returns-then-stored c = (place_sent _ _ c.if-stored.true, omega arith)

pub returns-else-stored : goal.returns-else-stored
returns-else-stored c = (place_stored _ _ c.if-stored.false, omega arith)
