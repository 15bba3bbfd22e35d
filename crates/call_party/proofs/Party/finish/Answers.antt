use mathlib.Core.Path.{refl, ◌∙◌}
use Rattle.base_messages.specs.Refusals.{not_0}
use Rattle.call_party.proofs.Calls.{finish_refused, finish_taken}
use Rattle.call_party.proofs.Party.finish.Goals as goal

pub returns-in-Err : goal.returns-in-Err
returns-in-Err c =
    c.refused.ensures
    ∙ finish_refused _ _ c.in_turn-turn.ensures _ _ _ _ c.in-Err.ensures (not_0 c.in-Err.refusal)

pub returns : goal.returns
returns c =
    finish_taken _ _ c.in_turn-turn.ensures _ _ _ _ c.in_default.ensures _ _ _ refl
    c.closed-next.ensures c.add-z.ensures c.answer-answer.ensures
