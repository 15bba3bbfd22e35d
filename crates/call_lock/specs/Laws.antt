-- What a join's number tells: no refusal of it is above 12, and where there is none every test holds; and the answer in
-- each of the two cases. Assumes nothing.
use Rattle.std.specs.Prelude.{◌≡◌, true, ◌&&◌, List, ℕ, ◌≤◌, eqb, leb, ltb}
use Rattle.std.proofs.Common.{◌∙◌, arith}
use Rattle.base_algebra.specs.Word.{add}
use Rattle.base_messages.specs.declared.Label.{Label}
use Rattle.base_messages.specs.Messages.{is_name, expected}
use Rattle.base_messages.specs.Laws.{passed, unless_most, taken, refused}
use Rattle.call_lock.specs.Lock.{why_not_join, join}
use Rattle.call_lock.specs.declared.Lock.{Lock}
use Rattle.call_lock.specs.declared.LockAnswer.{LockAnswer}

pub alike : {w w' : ℕ} {s s' : Lock} {b b' : ℕ} → w ≡ w' → s ≡ s' → b ≡ b'
    → ◌≡◌ {A = LockAnswer} (record { why = w; lock = s; bit = b }) (record { why = w'; lock = s'; bit = b' })
alike p q r = λ i. record { why = p i; lock = q i; bit = r i }

module _ (s : Lock) (l0 : Label) (name0 : List ℕ) (answer0 : ℕ) (l1 : Label) (name1 : List ℕ) (answer1 : ℕ) where
  pub most : why_not_join s l0 name0 answer0 l1 name1 answer1 ≤ 12
  unfolding why_not_join
  most =
      unless_most _ 4 _ 12 (omega arith) (unless_most _ 6 _ 12 (omega arith)
      (unless_most _ 7 _ 12 (omega arith) (unless_most _ 12 _ 12 (omega arith) (omega arith))))

  pub accepted : why_not_join s l0 name0 answer0 l1 name1 answer1 ≡ 0
      → (is_name name0 && is_name name1 ≡ true)
      × (expected 2 s.name 0 l0 name0 && expected 2 s.name 1 l1 name1 ≡ true)
      × (ltb s.last l0.number && eqb l1.number l0.number ≡ true)
      × (leb (add answer0 answer1) 1 ≡ true)
  unfolding why_not_join
  accepted h =
      let a = passed _ h in
      let b = passed _ a.1 in
      let c = passed _ b.1 in
      let d = passed _ c.1 in
      (a.0, b.0, c.0, d.0)

  -- refused: the state stays
  pub join_refused : (why : ℕ) → why ≡ why_not_join s l0 name0 answer0 l1 name1 answer1 → (why ≡ 0 → ⊥)
      → record { why = why; lock = s; bit = 0 } ≡ join s l0 name0 answer0 l1 name1 answer1
  unfolding join
  join_refused why e h = alike e (refused _ _ e h) (refused _ _ e h)

  -- accepted: the number moves
  pub joined : (why t : ℕ) → why ≡ why_not_join s l0 name0 answer0 l1 name1 answer1 → why ≡ 0 → t ≡ add answer0 answer1
      → record { why = why; lock = record { name = s.name; last = l0.number }; bit = t }
      ≡ join s l0 name0 answer0 l1 name1 answer1
  unfolding join
  joined why t e h et = alike e (taken _ _ e h) (et ∙ taken _ _ e h)
