use mathlib.Core.Path.{refl, ◌∙◌}
use Rattle.base_messages.specs.Refusals.{not_0}
use Rattle.call_lock.specs.Laws.{join_refused, joined}
use Rattle.call_lock.proofs.Lock.join.Goals as goal

pub returns-in-Err : goal.returns-in-Err
returns-in-Err c =
    c.refused.ensures ∙ join_refused _ _ _ _ _ _ _ _ c.in-Err.ensures (not_0 c.in-Err.refusal)

pub returns : goal.returns
returns c = joined _ _ _ _ _ _ _ _ _ c.in_default.ensures refl c.add.ensures
