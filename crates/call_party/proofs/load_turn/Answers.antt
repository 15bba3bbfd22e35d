use Rattle.call_party.proofs.Laws.{load_turn_law}
use Rattle.call_party.proofs.load_turn.Goals as goal

pub returns : goal.returns
returns c = load_turn_law _ _ c.sound.ensures
