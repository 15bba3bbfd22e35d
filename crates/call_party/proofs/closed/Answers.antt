use Rattle.call_party.proofs.Laws.{closed_law}
use Rattle.call_party.proofs.closed.Goals as goal

pub returns : goal.returns
returns c = closed_law _ _ _ _ c.no_set.ensures _ c.next_check.ensures
