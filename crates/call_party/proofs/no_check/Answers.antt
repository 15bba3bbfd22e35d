use Rattle.call_party.proofs.Laws.{no_check_law}
use Rattle.call_party.proofs.no_check.Goals as goal

pub returns : goal.returns
returns c = no_check_law _ c.no_set.ensures
