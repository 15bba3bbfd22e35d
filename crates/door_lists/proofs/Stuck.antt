-- A run in the right order is never stuck: it is whole, or one of its own calls may come next. Assumes nothing.
use mathlib.Core.Path.{◌≡◌, refl, sym, ap, ◌∙◌}
use mathlib.Core.Bool.{Bool, true, false, true≢false}
use mathlib.Core.List.{List, [], ◌∷◌}
use mathlib.Core.Logic.{◌⊎◌, inl, inr}
use Prim.Native.Nat.{ℕ, zero, suc, ◌<◌, ◌≤◌}
use native.Mathlib.Decide.{dec_le}
use native.Mathlib.Nat.{lt_of_not-le}
use native.Mathlib.Omega.{arith}
use lib.ListN.{length, replicate, length-replicate}
use Rattle.half_deal.specs.Dealing.{Deal}
use Rattle.call_dealer.specs.Dealer.{half_size}
use Rattle.door_lists.specs.Lists.{Box, camera, office, party_of, other, World, Starts, Message, Call, deal, load}
use Rattle.door_lists.specs.Lists.{mask, take, finish, join, Event, dealt, loaded, sent, vector, word, answer}
use Rattle.door_lists.specs.Lists.{events, In, here, there, deal_by_clock, trial, drop}
use Rattle.door_lists.specs.Demand.{Progress, nothing_made, made_one, onward, Ready, Run, start, own, aside, turned}
use Rattle.door_lists.specs.Demand.{InRange, Whole}
use Rattle.door_lists.proofs.Boxes.{each, put_all}
use Rattle.door_lists.proofs.Dealt.{mask_of, word_by, answer_by}
use Rattle.door_lists.proofs.History.{door, half_of}
use Rattle.door_lists.proofs.Made.{said}
use Rattle.door_lists.proofs.Runs.{At, run_goes}

-- a buffer of just the right length
pub room : (n : ℕ) → n ≤ length {A = ℕ} (replicate n 0)
room n = omega (arith, length-replicate {A = ℕ} n 0)

module _ (S : Starts) (d : Deal) (v : Box → List ℕ) where
  -- what box b sent, handed on
  abbrev pub message : {A : Type 0} → ℕ → Box → A → Message A
  message kind b a =
      record { label = record { kind = kind; sender = party_of b; number = d.number }; name = door S; content = a }

  abbrev pub mask_from : Box → Message (List ℕ)
  mask_from b = message 0 b (mask_of d b (v b))

  abbrev pub word_from : Box → Message ℕ
  word_from b = message 1 b (word_by d v b)

  abbrev pub answer_from : Box → Message ℕ
  answer_from b = message 2 b (answer_by d v b)

  -- ---- what a run's calls left is there

  -- what a box's own call left, where k were made before it
  abbrev pub left : Box → ℕ → Event
  left b zero = loaded b d.number
  left b (suc zero) = sent b d.number (vector (v b) (mask_of d b (v b)))
  left b (suc (suc zero)) = sent b d.number (word (word_by d v b))
  left b (suc (suc (suc k))) = sent b d.number (answer (answer_by d v b))

  -- the deal is there where it was made, and what each of a box's calls left
  pub record Has (g : Progress) (h : List Event) : Type 0 where
    pub few : (b : Box) → g.made b ≤ 4
    pub has_deal : g.begun ≡ true → In (dealt d (half_of S d)) h
    pub has_left : (b : Box) (k : ℕ) → k < g.made b → In (left b k) h

  pub has_later : (g : Progress) (h : List Event) (e : Event) → Has g h → Has g (e ∷ h)
  has_later g h e H =
      record { few = H.few; has_deal = λ t. there (H.has_deal t); has_left = λ b k l. there (H.has_left b k l) }

  has_box : (g : Progress) (h : List Event) (b : Box) (k : ℕ) (e : Event) → Has g h → g.made b ≡ k → k < 4
      → e ≡ left b k → Has (made_one g b) (e ∷ h)
  has_box g h b k e H m l q =
      record {
        few = put_all (λ c n. n ≤ 4) g.made b (suc (g.made b)) (omega (arith, m, l)) (H.few (other b));
        has_deal = λ t. there (H.has_deal t);
        has_left = put_all (λ c n. (j : ℕ) → j < n → In (left c j) (e ∷ h)) g.made b (suc (g.made b)) mine
            (λ j i. there (H.has_left (other b) j i));
      }
    where
      mine : (j : ℕ) → j < suc (g.made b) → In (left b j) (e ∷ h)
      mine j i =
          elim (dec_le (g.made b) j) as (λ z. In (left b j) (e ∷ h)) [
            | yes p ↦ here (ap (left b) {x = j} {y = k} (omega (arith, m, i, p)) ∙ sym q)
            | no p ↦ there (H.has_left b j (lt_of_not-le p))
          ]

  pub has_next : (g : Progress) (h : List Event) → Has g h → (c : Call) → Ready (door S) d v g h c → (e : Event)
      → e ≡ said S d v c → Has (onward g c) (e ∷ h)
  has_next g h H (deal x out0 out1) r e q =
      record { few = H.few; has_deal = λ t. here (sym q); has_left = λ b k l. there (H.has_left b k l) }
  has_next g h H (deal_by_clock x out0 out1) r e q =
      record { few = H.few; has_deal = λ t. here (sym q); has_left = λ b k l. there (H.has_left b k l) }
  has_next g h H (load b x) r e q = has_box g h b 0 e H r.0 (omega arith) q
  has_next g h H (mask b x out) r e q = has_box g h b 1 e H r.0 (omega arith) q
  has_next g h H (take b m) r e q = has_box g h b 2 e H r.0 (omega arith) q
  has_next g h H (finish b m) r e q = has_box g h b 3 e H r.0 (omega arith) q
  has_next g h H (trial b x) r e q = elim r [ ]
  has_next g h H (drop b) r e q = elim r [ ]
  has_next g h H (join m n) r e q =
      record { few = H.few; has_deal = λ t. there (H.has_deal t); has_left = λ b k l. there (H.has_left b k l) }

  -- ---- its next call

  abbrev pub Next : Progress → List Event → Type 0
  Next g h = (c : Call) × Ready (door S) d v g h c

  module _ (g : Progress) (h : List Event) (H : Has g h) where
    -- of the box that is not ahead of the other
    box_next : g.begun ≡ true → (b : Box) (k : ℕ) → g.made b ≡ k → k < 4 → k ≤ g.made (other b) → Next g h
    box_next t b zero m l o = (load b (half_of S d b), (m, half_of S d, H.has_deal t, refl))
    box_next t b (suc zero) m l o = (mask b (v b) (replicate d.terms.n 0), (m, refl, room d.terms.n))
    box_next t b (suc (suc zero)) m l o =
        (take b (mask_from (other b)), (m, (refl, refl), (v (other b), H.has_left (other b) 1 (omega (arith, o)))))
    box_next t b (suc (suc (suc zero))) m l o =
        (finish b (word_from (other b)), (m, (refl, refl), H.has_left (other b) 2 (omega (arith, o))))
    box_next t b (suc (suc (suc (suc k)))) m l o = absurd (omega (arith, l))

    -- where both boxes made all of theirs
    join_next : g.begun ≡ true → ((b : Box) → 4 ≤ g.made b) → (x : Bool) → g.ended ≡ x → Whole g ⊎ Next g h
    join_next t m true e = inl (t, (λ b. omega (arith, m b, H.few b)), e)
    join_next t m false e =
        let sends : (b : Box) → In (left b 3) h = λ b. H.has_left b 3 (omega (arith, m b)) in
        inr (
          join (answer_from camera) (answer_from office),
          (e, (refl, refl), sends camera, (refl, refl), sends office),
        )

    behind : g.begun ≡ true → (b : Box) → g.made b ≤ g.made (other b) → Whole g ⊎ Next g h
    behind t b o =
        elim (dec_le 4 (g.made b)) as (λ z. Whole g ⊎ Next g h) [
          | yes p ↦ join_next t (each (λ c. 4 ≤ g.made c) b p (omega (arith, p, o))) g.ended refl
          | no p ↦ inr (box_next t b (g.made b) refl (lt_of_not-le p) o)
        ]

    pub goes_on : (x : Bool) → g.begun ≡ x → Whole g ⊎ Next g h
    goes_on false e =
        let out : List ℕ = replicate (half_size d.terms.n) 0 in
        inr (deal d out out, (e, refl, room (half_size d.terms.n), room (half_size d.terms.n)))
    goes_on true e =
        elim (dec_le (g.made camera) (g.made office)) as (λ z. Whole g ⊎ Next g h) [
          | yes p ↦ behind e camera p
          | no p ↦ behind e office (omega (arith, lt_of_not-le p))
        ]

  module _ (long : length (door S) ≡ 16) (R : InRange d v) (w : World) (A : At S d v w nothing_made []) where
    run_has : {cs : List Call} {g : Progress} → Run (door S) d v w cs g → Has g (events w cs)
    run_has start =
        record {
          few = λ b. omega arith;
          has_deal = λ t. absurd (true≢false (sym t));
          has_left = λ b k l. absurd (omega (arith, l));
        }
    run_has (own {cs} {g} r c q) = has_next g (events w cs) (run_has r) c q _ (run_goes S d v long R w A cs g r c q)
    run_has (aside {cs} {g} r c q) = has_later g (events w cs) _ (run_has r)
    run_has (turned {cs} {g} r c why q) = has_later g (events w cs) _ (run_has r)

    pub never : (cs : List Call) (g : Progress) → Run (door S) d v w cs g → Whole g ⊎ Next g (events w cs)
    never cs g r = goes_on g (events w cs) (run_has r) g.begun refl
