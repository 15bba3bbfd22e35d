use mathlib.Core.Path.{refl, ap}
use mathlib.Core.Bool.{not}
use Rattle.call_party.proofs.Calls.{trial_3, trial_refused, trial_taken}
use Rattle.half_open.proofs.Whole.{refuses}
use Rattle.call_party.proofs.Party.trial.Goals as goal

pub returns-then-not-load_turn : goal.returns-then-not-load_turn
returns-then-not-load_turn c =
    trial_3 _ _ c.load_turn.ensures _ _ (ap not c.if-not-load_turn.true) c.not_taken.ensures

pub returns-in-Err : goal.returns-in-Err
returns-in-Err c =
    trial_refused _ _ c.load_turn.ensures _ (ap not c.if-not-load_turn.false) _ c.high_water-above.ensures _
    c.in-Err.ensures _ (refuses c.in-Err.refusal) c.not_taken-in-Err.ensures

pub returns-in-Ok : goal.returns-in-Ok
returns-in-Ok c =
    trial_taken _ _ c.load_turn.ensures _ (ap not c.if-not-load_turn.false) _ c.high_water-above.ensures _
    c.in-Ok.ensures refl
