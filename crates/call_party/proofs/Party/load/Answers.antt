use Rattle.call_party.proofs.Calls.{load_3, load_refused, load_opens, load_waits}
use Rattle.half_open.proofs.Whole.{refuses}
use mathlib.Core.Path.{refl}
use Rattle.call_party.proofs.Party.load.Goals as goal

-- the half is taken, and its set opened
pub returns-then-phase-eq-IDLE : goal.returns-then-phase-eq-IDLE
returns-then-phase-eq-IDLE c =
    load_opens _ _ c.load_turn-turn.ensures _ c.if-turn.true _ c.high_water-above.ensures _
    c.in-Ok.ensures _ _ refl c.if-phase-eq-IDLE.true c.opened-next.ensures
    c.no_set-next.ensures

-- the half is taken, and its set waits
pub returns-else-phase-eq-IDLE : goal.returns-else-phase-eq-IDLE
returns-else-phase-eq-IDLE c =
    load_waits _ _ c.load_turn-turn.ensures _ c.if-turn.true _ c.high_water-above.ensures _
    c.in-Ok.ensures refl c.if-phase-eq-IDLE.false

-- it is turned down
pub returns-in-Err : goal.returns-in-Err
returns-in-Err c =
    rw c.number-why.ensures
    (load_refused _ _ c.load_turn-turn.ensures _ c.if-turn.true _ c.high_water-above.ensures _
    c.in-Err.ensures (refuses c.in-Err.refusal))

-- out of turn
pub returns-else-turn : goal.returns-else-turn
returns-else-turn c =
    rw c.number-out_of_turn.ensures (load_3 _ _ c.load_turn-turn.ensures _ c.if-turn.false)
