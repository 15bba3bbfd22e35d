use Rattle.call_party.proofs.Laws.{idle_law}
use Rattle.call_party.proofs.idle.Goals as goal

pub returns : goal.returns
returns c = idle_law _ _ _ _ c.no_set.ensures c.no_check.ensures
