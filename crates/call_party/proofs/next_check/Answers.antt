use Rattle.call_party.proofs.Laws.{none_next, opened_next}
use Rattle.call_party.proofs.next_check.Goals as goal

pub returns-then-waiting-eq0 : goal.returns-then-waiting-eq0
returns-then-waiting-eq0 c = none_next _ _ c.if-waiting-eq0.true c.no_check.ensures

pub returns : goal.returns
returns c = opened_next _ _ c.if-waiting-eq0.false c.opened.ensures
