use Rattle.std.proofs.Common.{refl, sym, ap, ◌∙◌, Bool, rules, eq-eqb, ne_eqb}
use Rattle.std.proofs.lemmas.Result.{err_from_is_err_and}
use Rattle.base_messages.specs.Messages.{unless, out_of_range}
use Rattle.base_messages.specs.Laws.{unless_false, unless_true}
use Rattle.measure_table.specs.Measure.{all_in_range}
use Rattle.measure_iris.proofs.Refused.{failed, held}
use Rattle.measure_iris.specs.Iris.{iris_terms, why_not_vector}
use Rattle.measure_iris.specs.Laws.{vector_fits}
use Rattle.measure_iris.proofs.why_not_vector.Goals as goal

-- A vector of another length is refused for it,
-- and for nothing else:
-- its other tests are not made.
pub returns-in_default-clause-why : goal.returns-in_default-clause-why
unfolding why_not_vector
returns-in_default-clause-why c = unless_false _ _ _ (ne_eqb _ _ c.in_default.ensures.cases)

pub returns-in_err-require-clause-why : goal.returns-in_err-require-clause-why
unfolding why_not_vector
returns-in_err-require-clause-why c =
    let p = err_from_is_err_and c.from_residual.result c.from_residual.ensures.1 in
    rw (p.1, p.2)
    (unless_true _ _ _ (eq-eqb _ _ (c.in-Some.ensures.variant.0 refl))
    (failed _ _ _ _ c.require.ensures c.in_err-require.was))

pub returns-in_err-require-2-clause-why : goal.returns-in_err-require-2-clause-why
unfolding why_not_vector
returns-in_err-require-2-clause-why c =
    let p = err_from_is_err_and c.from_residual-in_err-require-2.result c.from_residual-in_err-require-2.ensures.1 in
    let tested = c.all_in_range.ensures ∙ ap (all_in_range iris_terms) c.in-Some.ensures.cases.same in
    rw (p.1, p.2)
    (unless_true _ _ _ (eq-eqb _ _ (c.in-Some.ensures.variant.0 refl))
    (unless_true _ _ _ (held _ _ c.require.ensures c.in_ok-require.was)
    (failed _ _ _ 0 c.require-2.ensures c.in_err-require-2.was ∙ ap (λ (b : Bool). unless b out_of_range 0) tested)))

pub returns-clause-why : goal.returns-clause-why
unfolding why_not_vector
returns-clause-why c =
    let tested = c.all_in_range.ensures ∙ ap (all_in_range iris_terms) c.in-Some.ensures.cases.same in
    let enough = held _ _ c.require.ensures c.in_ok-require.was in
    let small = held _ _ c.require-2.ensures c.in_ok-require-2.was in
    unless_true _ _ _ (eq-eqb _ _ (c.in-Some.ensures.variant.0 refl))
    (unless_true _ _ _ enough (unless_true _ _ _ (sym tested ∙ small) refl))

pub returns-clause-taken : goal.returns-clause-taken
returns-clause-taken c =
    (c.in-Some.ensures.cases.same, vector_fits _ _ (λ i. search rules) (sym (returns-clause-why c)))
