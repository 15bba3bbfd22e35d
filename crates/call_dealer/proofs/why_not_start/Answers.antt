use Rattle.call_dealer.proofs.Laws.{bad_name_lem, bad_key, one_key, start_taken}
use Rattle.call_dealer.proofs.why_not_start.Goals as goal

pub returns-then-not-name_fits : goal.returns-then-not-name_fits
returns-then-not-name_fits c = bad_name_lem _ _ _ _ c.name_fits.ensures c.if-not-name_fits.true

pub returns-then-not-key0-key1 : goal.returns-then-not-key0-key1
returns-then-not-key0-key1 c = bad_key _ _ _ _ c.name_fits.ensures c.if-not-name_fits.false c.if-not-key0-key1.true

pub returns-then-equal : goal.returns-then-equal
returns-then-equal c =
    one_key _ _ _ _ c.name_fits.ensures c.if-not-name_fits.false
    c.if-not-key0-key1.false _ c.equal.ensures c.if-equal.true

pub returns : goal.returns
returns c =
    start_taken _ _ _ _ c.name_fits.ensures c.if-not-name_fits.false
    c.if-not-key0-key1.false _ c.equal.ensures c.if-equal.false
