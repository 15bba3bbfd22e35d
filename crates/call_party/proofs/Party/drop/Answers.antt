use mathlib.Core.Path.{ap}
use mathlib.Core.Bool.{not}
use mathlib.Core.Path.{◌∙◌}
use Rattle.call_party.proofs.Calls.{drop_refused, drop_taken}
use Rattle.call_party.proofs.Party.drop.Goals as goal

pub returns-then-not-phase-sound : goal.returns-then-not-phase-sound
returns-then-not-phase-sound c =
    c.refused.ensures ∙ drop_refused _ _ c.sound-sound.ensures (ap not c.if-not-phase-sound.true)

pub returns : goal.returns
returns c =
    drop_taken _ _ c.sound-sound.ensures _ (ap not c.if-not-phase-sound.false) c.closed.ensures
