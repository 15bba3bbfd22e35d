use mathlib.Core.Path.{refl}
use Rattle.base_messages.specs.Refusals.{not_0}
use Rattle.measure_iris.specs.Laws.{stays, written}
use Rattle.measure_iris.proofs.rearrange.Goals as goal

pub returns-in_err-code-clause-out_after : goal.returns-in_err-code-clause-out_after
returns-in_err-code-clause-out_after c =
    stays _ _ _ c.in_err-code.ensures.why (not_0 c.in_err-code.field-0.0)

pub returns-clause-out_after : goal.returns-clause-out_after
returns-clause-out_after c =
    let same = c.in_ok-code.ensures.taken.0 in
    written _ _ _ c.in_ok-code.ensures.why refl (rw same at c.rearrange_bytes.ensures)
