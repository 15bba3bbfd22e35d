use mathlib.Core.Path.{refl, ap, ◌∙◌}
use Rattle.base_messages.specs.Refusals.{why_of, or_unless}
use Rattle.call_lock.proofs.Laws.{why_is}
use Rattle.call_lock.proofs.why_not_join.Goals as goal

pub returns : goal.returns
returns c =
    ap why_of c.first_refusal.ensures
    ∙ (or_unless _ _ _ (or_unless _ _ _ (or_unless _ _ _ (or_unless _ _ _ refl)))
    ∙ why_is _ _ _ _ _ _ _ _ _ _ c.expected-first.ensures c.expected-second.ensures c.add-sum.ensures)
