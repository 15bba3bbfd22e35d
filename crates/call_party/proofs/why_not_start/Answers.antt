use Rattle.base_messages.specs.Messages.{is_key}
use Rattle.call_party.specs.Party.{why_not_party}
use mathlib.Core.Path.{refl}
use Rattle.base_messages.specs.Laws.{unless_false, unless_true}
use borrow.Author.Tests.{le-leb, lt-leb, eq-eqb, ne_eqb}
use Rattle.call_party.proofs.why_not_start.Goals as goal

pub returns-then-not-name_fits : goal.returns-then-not-name_fits
unfolding why_not_party is_key
returns-then-not-name_fits c = unless_false _ _ _ (rw c.name_fits.ensures at c.if-not-name_fits.true)

pub returns-then-not-party : goal.returns-then-not-party
unfolding why_not_party is_key
returns-then-not-party c =
    unless_true _ _ _ (rw c.name_fits.ensures at c.if-not-name_fits.false)
    (unless_false _ _ _ (lt-leb _ _ c.if-not-party.true))

pub returns-then-not-key : goal.returns-then-not-key
unfolding why_not_party is_key
returns-then-not-key c =
    unless_true _ _ _ (rw c.name_fits.ensures at c.if-not-name_fits.false)
    (unless_true _ _ _ (le-leb _ _ c.if-not-party.false) (unless_false _ _ _ (ne_eqb _ _ c.if-not-key.true)))

pub returns : goal.returns
unfolding why_not_party is_key
returns c =
    unless_true _ _ _ (rw c.name_fits.ensures at c.if-not-name_fits.false)
    (unless_true _ _ _ (le-leb _ _ c.if-not-party.false) (unless_true _ _ _ (eq-eqb _ _ c.if-not-key.false) (refl)))
