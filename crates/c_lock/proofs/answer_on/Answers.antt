use mathlib.Core.Path.{◌≡◌, ap, ◌∙◌}
use mathlib.Core.List.{List}
use Prim.Native.Nat.{ℕ}
use lib.ListN.{length}
use Rattle.base_messages.specs.declared.Label.{Label}
use Rattle.base_messages.specs.Messages.{padded}
use Rattle.base_messages.specs.Laws.{padded_whole}
use Rattle.call_lock.specs.Lock.{join}
use Rattle.call_lock.specs.declared.LockAnswer.{LockAnswer}
use Rattle.c_lock.specs.Host.{answer_on}
use Rattle.c_lock.specs.Claims.{on_lock_lem, off_lock}
use Rattle.c_lock.proofs.answer_on.Goals as goal

-- the join on the padded name, where the name has 16 bytes
on-padded : (name : List ℕ) (last : ℕ) (l0 : Label) (name0 : List ℕ) (answer0 : ℕ)
    (l1 : Label) (name1 : List ℕ) (answer1 : ℕ) {p : List ℕ} {r : LockAnswer}
    → length name ≡ 16 → p ≡ padded name → r ≡ join (record { name = p; last = last }) l0 name0 answer0 l1 name1 answer1
    → r ≡ answer_on name last l0 name0 answer0 l1 name1 answer1
on-padded name last l0 name0 answer0 l1 name1 answer1 h ep er =
    er ∙ ap (λ (n : List ℕ). join (record { name = n; last = last }) l0 name0 answer0 l1 name1 answer1)
    (ep ∙ padded_whole name h) ∙ on_lock_lem name last l0 name0 answer0 l1 name1 answer1 h

pub returns-then-name-ne-NAME : goal.returns-then-name-ne-NAME
returns-then-name-ne-NAME c =
    rw c.number.ensures (off_lock _ _ _ _ _ _ _ _ c.if-name-ne-NAME.true)

pub returns : goal.returns
returns c = on-padded _ _ _ _ _ _ _ _ c.if-name-ne-NAME.false c.padded.ensures c.join.ensures
