use mathlib.Core.Path.{refl, ap, ◌∙◌}
use Rattle.base_messages.specs.Refusals.{why_of, or_unless}
use Rattle.call_party.proofs.Laws.{message_law}
use Rattle.call_party.proofs.why_not_message.Goals as goal

pub returns : goal.returns
returns c =
    ap why_of c.first_refusal.ensures
    ∙ (or_unless _ _ _ (or_unless _ _ _ (or_unless _ _ _ (or_unless _ _ _ refl)))
    ∙ message_law _ _ _ _ _ _ _ _ c.other.ensures c.expected-fits.ensures)
