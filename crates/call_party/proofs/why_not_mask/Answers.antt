use mathlib.Core.Path.{refl}
use Rattle.base_messages.specs.Laws.{unless_false, unless_true}
use borrow.Author.Tests.{le-leb, lt-leb, eq-eqb, ne_eqb}
use Rattle.call_party.proofs.why_not_mask.Goals as goal

pub returns-then-not-turn : goal.returns-then-not-turn
returns-then-not-turn c = unless_false _ _ _ c.if-not-turn.true

pub returns-then-not-v-terms : goal.returns-then-not-v-terms
returns-then-not-v-terms c =
    unless_true _ _ _ c.if-not-turn.false (unless_false _ _ _ (ne_eqb _ _ c.if-not-v-terms.true))

pub returns-then-not-terms-room : goal.returns-then-not-terms-room
returns-then-not-terms-room c =
    unless_true _ _ _ c.if-not-turn.false
    (unless_true _ _ _ (eq-eqb _ _ c.if-not-v-terms.false)
    (unless_false _ _ _ (lt-leb _ _ c.if-not-terms-room.true)))

pub returns-then-not-all_in_range : goal.returns-then-not-all_in_range
returns-then-not-all_in_range c =
    let range = c.all_in_range.ensures in
    unless_true _ _ _ c.if-not-turn.false
    (unless_true _ _ _ (eq-eqb _ _ c.if-not-v-terms.false)
    (unless_true _ _ _ (le-leb _ _ c.if-not-terms-room.false)
    (unless_false _ _ _ (rw range at c.if-not-all_in_range.true))))

pub returns : goal.returns
returns c =
    let range = c.all_in_range.ensures in
    unless_true _ _ _ c.if-not-turn.false
    (unless_true _ _ _ (eq-eqb _ _ c.if-not-v-terms.false)
    (unless_true _ _ _ (le-leb _ _ c.if-not-terms-room.false)
    (unless_true _ _ _ (rw range at c.if-not-all_in_range.false) refl)))
