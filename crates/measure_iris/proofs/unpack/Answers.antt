use mathlib.Core.Path.{refl}
use Rattle.base_messages.specs.Refusals.{not_0}
use Rattle.measure_iris.specs.Laws.{stays, written}
use Rattle.measure_iris.proofs.unpack.Goals as goal

pub returns-in-Ok-clause-out_after : goal.returns-in-Ok-clause-out_after
returns-in-Ok-clause-out_after c =
    let same = c.in-Ok.ensures.taken.0 in
    written _ _ _ c.in-Ok.ensures.why refl (rw same at c.spread.ensures)

pub returns-in-Err-clause-out_after : goal.returns-in-Err-clause-out_after
returns-in-Err-clause-out_after c = stays _ _ _ c.in-Err.ensures.why (not_0 c.in-Err.refusal)
