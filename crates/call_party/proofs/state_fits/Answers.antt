use mathlib.Core.Path.{ap}
use mathlib.Core.Bool.{not}
use borrow.Author.Tests.{le-leb, lt-leb}
use Rattle.call_party.proofs.Laws.{no_party_lem, with_none, with_set}
use Rattle.call_party.proofs.state_fits.Goals as goal

pub returns-then-not-party : goal.returns-then-not-party
returns-then-not-party c = no_party_lem _ _ _ (ap not (lt-leb _ _ c.if-not-party.true))

pub returns-then-phase-eq-IDLE : goal.returns-then-phase-eq-IDLE
returns-then-phase-eq-IDLE c = with_none _ _ _ (ap not (le-leb _ _ c.if-not-party.false)) c.if-phase-eq-IDLE.true

pub returns : goal.returns
returns c =
    with_set _ _ _ (ap not (le-leb _ _ c.if-not-party.false)) c.if-phase-eq-IDLE.false _ _
    c.is_code.ensures c.length_fits.ensures
