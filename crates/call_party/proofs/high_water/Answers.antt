use Rattle.call_party.proofs.Laws.{above_open, above_last}
use Rattle.call_party.proofs.high_water.Goals as goal

pub returns-then-phase-last : goal.returns-then-phase-last
returns-then-phase-last c = above_open _ _ _ c.if-phase-last.true

pub returns-else-phase-last : goal.returns-else-phase-last
returns-else-phase-last c = above_last _ _ _ c.if-phase-last.false
