use mathlib.Core.Path.{refl, sym, ◌∙◌}
use native.Mathlib.Omega.{arith}
use Rattle.base_messages.specs.Refusals.{not_0}
use Rattle.measure_margin.specs.Laws.{refused_answer}
use Rattle.measure_margin.proofs.Laws.{same_length, not_above, absolute_most, reached_answer, missed_answer}
use Rattle.std.proofs.Common.{rules}
use Rattle.measure_margin.proofs.margin.Goals as goal

pub returns-in-Err : goal.returns-in-Err
returns-in-Err c =
    refused_answer _ _ _ _ (c.number.ensures ∙ c.in-Err.ensures)
    (λ e. not_0 c.in-Err.refusal (sym c.number.ensures ∙ e))

pub inner-requires : goal.inner-requires
inner-requires c =
    let same = same_length _ _ _ _ c.in_default.ensures refl in
    (search rules, omega (arith, same))

pub absolute_sum-s-requires : goal.absolute_sum-s-requires
absolute_sum-s-requires c = (
  not_above _ _ _ _ c.in_default.ensures refl,
  absolute_most _ _ _ _ c.in_default.ensures refl,
)

pub returns-then-over-lt-LOWEST : goal.returns-then-over-lt-LOWEST
returns-then-over-lt-LOWEST c =
    reached_answer _ _ _ _ c.in_default.ensures refl _ _ _ _ c.inner.ensures
    c.sub-over.ensures c.absolute_sum-s.ensures (search rules) c.quotient.ensures

pub returns-else-over-lt-LOWEST : goal.returns-else-over-lt-LOWEST
returns-else-over-lt-LOWEST c =
    missed_answer _ _ _ _ c.in_default.ensures refl _ _ _ _ c.inner.ensures
    c.sub-over.ensures c.absolute_sum-s.ensures (search rules) (search rules) _ c.sub.ensures
    c.quotient-else-over-lt-LOWEST.ensures
