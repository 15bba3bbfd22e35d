use Rattle.call_party.proofs.Laws.{sound_law}
use Rattle.call_party.proofs.sound.Goals as goal

pub returns : goal.returns
returns c = sound_law _ _ _ c.state_fits.ensures c.waiting_fits.ensures
