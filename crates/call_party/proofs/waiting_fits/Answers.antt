use Rattle.call_party.proofs.Laws.{none_waits, one_waits}
use Rattle.call_party.proofs.waiting_fits.Goals as goal

pub returns-then-terms-eq0 : goal.returns-then-terms-eq0
returns-then-terms-eq0 c = none_waits _ _ _ _ c.if-terms-eq0.true

pub returns : goal.returns
returns c = one_waits _ _ _ _ c.if-terms-eq0.false _ _ c.is_code.ensures c.length_fits.ensures
