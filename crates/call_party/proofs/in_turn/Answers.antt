use Rattle.call_party.proofs.Laws.{turn_law}
use Rattle.call_party.proofs.in_turn.Goals as goal

pub returns : goal.returns
returns c = turn_law _ _ _ c.sound.ensures
