-- The C functions agree with the lock's join on the same name and number, and the number moves with a 0 or 1 and with
-- nothing else. Assumes nothing.
use Rattle.std.specs.Prelude.{◌≡◌, ◌⊎◌, Bool, List, ℕ, ◌+◌, ◌≤◌, ◌<◌, length, replicate}
use Rattle.std.proofs.Math.Path.{refl, sym, ap}
use Rattle.std.proofs.Common.{◌∙◌}
use Rattle.std.proofs.Math.Logic.{inl, inr}
use Rattle.std.proofs.Math.Bool.{true, false}
use native.Mathlib.Omega.{arith}
use Rattle.std.proofs.Math.Dec.{eqb}
use borrow.Author.Tests.{eq-eqb, ne_eqb, eqb-true, eqb-false, leb-true}
use Rattle.base_algebra.specs.Word.{add}
use Rattle.base_messages.specs.declared.Label.{Label}
use Rattle.base_messages.specs.Messages.{if_taken, is_name}
use Rattle.base_messages.specs.Laws.{refused}
use Rattle.call_lock.specs.declared.LockAnswer.{LockAnswer}
use Rattle.call_lock.specs.Lock.{why_not_join, join}
use Rattle.call_lock.specs.Laws.{most, accepted, joined, join_refused}
use Rattle.c_lock.specs.Host.{answer_on, c_join, c_last}

module _ (name : List ℕ) (last : ℕ) (l0 : Label) (name0 : List ℕ)
    (answer0 : ℕ) (l1 : Label) (name1 : List ℕ) (answer1 : ℕ) where
  -- a name of 16 bytes: the lock's join
  pub on_lock_lem : length name ≡ 16
      → join (record { name = name; last = last }) l0 name0 answer0 l1 name1 answer1
      ≡ answer_on name last l0 name0 answer0 l1 name1 answer1
  unfolding answer_on is_name
  on_lock_lem h = rw (eq-eqb (length name) 16 h) refl

  -- any other is refused
  pub off_lock : (length name ≡ 16 → ⊥)
      → record { why = 4; lock = record { name = replicate 16 0; last = last }; bit = 0 }
      ≡ answer_on name last l0 name0 answer0 l1 name1 answer1
  unfolding answer_on is_name
  off_lock h = rw (ne_eqb (length name) 16 h) refl

  -- what the host gets of an answer
  pub hands_on : (a : LockAnswer) → a ≡ answer_on name last l0 name0 answer0 l1 name1 answer1
      → (if_taken a.why a.bit (100 + a.why) ≡ c_join name last l0 name0 answer0 l1 name1 answer1)
      × (a.lock.last ≡ c_last name last l0 name0 answer0 l1 name1 answer1)
  unfolding c_join c_last
  hands_on a e =
      (ap (λ (a : LockAnswer). if_taken a.why a.bit (100 + a.why)) e, ap (λ (a : LockAnswer). a.lock.last) e)

  -- the C functions and the lock's join
  pub agrees : length name ≡ 16
      → (if_taken (join (record { name = name; last = last }) l0 name0 answer0 l1 name1 answer1).why
      (join (record { name = name; last = last }) l0 name0 answer0 l1 name1 answer1).bit
      (100 + (join (record { name = name; last = last }) l0 name0 answer0 l1 name1 answer1).why)
      ≡ c_join name last l0 name0 answer0 l1 name1 answer1)
      × ((join (record { name = name; last = last }) l0 name0 answer0 l1 name1 answer1).lock.last
      ≡ c_last name last l0 name0 answer0 l1 name1 answer1)
  agrees h = hands_on (join (record { name = name; last = last }) l0 name0 answer0 l1 name1 answer1) (on_lock_lem h)

  -- no refusal's number is above 12
  pub why_most : (a : LockAnswer) → a ≡ answer_on name last l0 name0 answer0 l1 name1 answer1 → a.why ≤ 12
  unfolding join
  why_most a ea = rw ea (go (eqb (length name) 16) refl)
    where
      go : (b : Bool) → eqb (length name) 16 ≡ b → (answer_on name last l0 name0 answer0 l1 name1 answer1).why ≤ 12
      go true e =
          rw (← on_lock_lem (eqb-true _ _ e))
          (most (record { name = name; last = last }) l0 name0 answer0 l1 name1 answer1)
      go false e = rw (← off_lock (eqb-false _ _ e)) (omega arith)

  -- "it gets 0 or 1, or 100 plus the refusal number, and after a 0 or 1 the joined number is the last one"
  -- [SPEC 21.2 to 21.4]
  pub told : ((c_join name last l0 name0 answer0 l1 name1 answer1 ≤ 1)
      × (c_last name last l0 name0 answer0 l1 name1 answer1 ≡ l0.number))
      ⊎ ((100 < c_join name last l0 name0 answer0 l1 name1 answer1)
      × (c_last name last l0 name0 answer0 l1 name1 answer1 ≡ last))
  unfolding if_taken
  told =
      go (eqb (length name) 16)
      (eqb (why_not_join (record { name = name; last = last }) l0 name0 answer0 l1 name1 answer1) 0) refl refl
    where
      go : (b w : Bool) → eqb (length name) 16 ≡ b
          → eqb (why_not_join (record { name = name; last = last }) l0 name0 answer0 l1 name1 answer1) 0 ≡ w
          → ((c_join name last l0 name0 answer0 l1 name1 answer1 ≤ 1)
          × (c_last name last l0 name0 answer0 l1 name1 answer1 ≡ l0.number))
          ⊎ ((100 < c_join name last l0 name0 answer0 l1 name1 answer1)
          × (c_last name last l0 name0 answer0 l1 name1 answer1 ≡ last))
      go true true e h =
          let none = eqb-true _ _ h in
          let got = hands_on _ (joined (record { name = name; last = last }) l0 name0 answer0 l1 name1 answer1 0 _
          (sym none) refl refl ∙ on_lock_lem (eqb-true _ _ e)) in
          inl (
            omega (
              arith,
              got.0,
              leb-true (add answer0 answer1) 1
                  (accepted (record { name = name; last = last }) l0 name0 answer0 l1 name1 answer1 none).3,
            ),
            sym got.1,
          )
      go true false e h =
          let some = eqb-false _ _ h in
          let got =
          hands_on _ (join_refused (record { name = name; last = last }) l0 name0 answer0 l1 name1 answer1 _ refl some
          ∙ on_lock_lem (eqb-true _ _ e)) in
          let number = refused _ _ refl some ∙ got.0 in
          inr (omega (arith, number, some), sym got.1)
      go false w e h = let got = hands_on _ (off_lock (eqb-false _ _ e)) in inr (omega (arith, got.0), sym got.1)
