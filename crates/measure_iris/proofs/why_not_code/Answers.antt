use Rattle.std.proofs.Common.{refl, eq-eqb, ne_eqb}
use Rattle.std.proofs.lemmas.Result.{err_from_is_err_and}
use Rattle.base_messages.specs.Laws.{unless_false, unless_true}
use Rattle.measure_iris.proofs.Refused.{failed, held}
use Rattle.measure_iris.specs.Iris.{why_not_code}
use Rattle.measure_iris.proofs.why_not_code.Goals as goal

-- A code of another length is refused for it,
-- and for nothing else:
-- its other tests are not made.
pub returns-in_default-clause-why : goal.returns-in_default-clause-why
unfolding why_not_code
returns-in_default-clause-why c = unless_false _ _ _ (ne_eqb _ _ c.in_default.ensures.cases)

pub returns-in_err-require-clause-why : goal.returns-in_err-require-clause-why
unfolding why_not_code
returns-in_err-require-clause-why c =
    let p = err_from_is_err_and c.from_residual.result c.from_residual.ensures.1 in
    rw (p.1, p.2)
    (unless_true _ _ _ (eq-eqb _ _ (c.in-Some.ensures.variant.0 refl))
    (failed _ _ _ _ c.require.ensures c.in_err-require.was))

pub returns-clause-why : goal.returns-clause-why
unfolding why_not_code
returns-clause-why c =
    unless_true _ _ _ (eq-eqb _ _ (c.in-Some.ensures.variant.0 refl))
    (unless_true _ _ _ (held _ _ c.require.ensures c.in_ok-require.was) refl)
