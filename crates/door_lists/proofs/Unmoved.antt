-- A call that changes no state was refused, or was a trial. Assumes nothing.
use mathlib.Core.Path.{◌≡◌, refl, sym, ap, ◌∙◌, subst}
use mathlib.Core.Bool.{Bool, true, false, cond}
use mathlib.Core.List.{List}
use Prim.Native.Nat.{ℕ}
use native.Mathlib.Omega.{arith}
use lib.Dec.{eqb}
use lib.ListN.{length}
use Rattle.measure_table.specs.declared.Terms.{Terms}
use Rattle.base_messages.specs.Laws.{refused as stays}
use Rattle.base_messages.specs.Messages.{if_taken}
use Rattle.half_content.specs.declared.Set.{Set}
use Rattle.half_content.specs.Content.{set_in, no_set}
use Rattle.half_seal.specs.Half.{opened_set}
use Rattle.call_dealer.specs.declared.Dealer.{Dealer}
use Rattle.call_dealer.specs.Dealer as DealerCalls
use Rattle.call_dealer.specs.Laws.{deal_tells}
use Rattle.call_dealer.specs.Clock as ClockCalls
use Rattle.call_dealer.specs.Clock.{deal_at}
use Rattle.call_dealer.proofs.ClockLaws.{clock_tells}
use Rattle.call_party.specs.declared.Party.{Party}
use Rattle.call_party.specs.declared.PartyAnswer.{PartyAnswer}
use Rattle.call_party.specs.declared.TrialAnswer.{TrialAnswer}
use Rattle.call_party.specs.Party as BoxCalls
use Rattle.call_party.specs.Laws.{load_tells}
use Rattle.call_lock.specs.declared.Lock.{Lock}
use Rattle.call_lock.specs.Lock as LockCalls
use Rattle.door_lists.specs.Lists.{Box, World, Call, deal, load, trial, mask, take, finish, drop, join, Event}
use Rattle.door_lists.specs.Lists.{tried, refused, event_of, on_box, step, deal_by_clock}
use Rattle.door_lists.proofs.Accepted.{mask_tells, take_tells, finish_tells, drop_tells, join_tells}
use Rattle.door_lists.proofs.Boxes.{put_own}
use Rattle.door_lists.proofs.Written.{new}

-- the events of such calls, and what holds of all of them
pub data Still (e : Event) : Type 0 where
  was_refused : (why : ℕ) → e ≡ refused why → Still e
  was_tried : (b : Box) (name : List ℕ) (t : Terms) → e ≡ tried b name t → Still e

pub of_still : (Q : Event → Type 0) → ((why : ℕ) → Q (refused why))
    → ((b : Box) (name : List ℕ) (t : Terms) → Q (tried b name t)) → (e : Event) → Still e → Q e
of_still Q f g e (was_refused why p) = subst Q (sym p) (f why)
of_still Q f g e (was_tried b name t p) = subst Q (sym p) (g b name t)

no_event : (why : ℕ) (e : Event) → (why ≡ 0 → ⊥) → Still (event_of why e)
no_event why e f = was_refused why (sym (stays e (refused why) refl f))

-- a trial's event is one of them either way
tried_still : (why : ℕ) (b : Box) (name : List ℕ) (t : Terms) → Still (event_of why (tried b name t))
unfolding if_taken
tried_still why b name t = go (eqb why 0)
  where
    go : (x : Bool) → Still (cond x (tried b name t) (refused why))
    go true = was_tried b name t refl
    go false = was_refused why refl

-- an accepted deal, load or join moves a number, calls 2 and 3 the phase, and call 4 and drop end a set
no_box : (w : World) (b : Box) (a : PartyAnswer) (e : Event) (s : Party)
    → a.party ≡ if_taken a.why s (w.box b) → (a.why ≡ 0 → s ≡ w.box b → ⊥)
    → (on_box w b a e).world ≡ w → Still (on_box w b a e).event
no_box w b a e s p f q =
    no_event a.why e (λ z. f z
    (sym (p ∙ new a.why s (w.box b) z) ∙ sym (put_own w.box b a.party) ∙ ap (λ y. y.box b) q))

-- a box with another phase is another
phases : {s t : Party} → s ≡ t → s.check.phase ≡ t.check.phase
phases e = ap (λ (s : Party). s.check.phase) e

none_next : (BoxCalls.next_check no_set).phase ≡ 0
unfolding BoxCalls.next_check no_set BoxCalls.no_check
none_next = refl

-- an open box is not what call 4 and drop leave: nothing waits there, and so it would have been idle
not_closed : (s : Party) → (s.check.phase ≡ 0 → ⊥) → BoxCalls.closed s ≡ s → ⊥
unfolding BoxCalls.closed
not_closed s some e =
    let none : no_set ≡ s.waiting = ap (λ (p : Party). p.waiting) e in
    some (sym (phases e) ∙ ap (λ (t : Set). (BoxCalls.next_check t).phase) (sym none) ∙ none_next)

pub unmoved : (w : World) (c : Call) → (step w c).world ≡ w → Still (step w c).event
unfolding DealerCalls.deal ClockCalls.deal_by_clock BoxCalls.load BoxCalls.mask BoxCalls.take_vector BoxCalls.finish
    BoxCalls.drop_set LockCalls.join BoxCalls.loaded opened_set set_in BoxCalls.masked BoxCalls.worded
unmoved w (deal d out0 out1) q =
    no_event _ _ (λ z. omega (
      arith,
      (deal_tells w.dealer d (length out0) (length out1) z).above,
      ap (λ (s : Dealer). s.last) (sym (new _ _ w.dealer z) ∙ ap (λ y. y.dealer) q),
    ))
unmoved w (deal_by_clock k out0 out1) q =
    no_event _ _ (λ z. omega (
      arith,
      (deal_tells w.dealer (deal_at k) (length out0) (length out1)
          (clock_tells w.dealer k (length out0) (length out1) z).deal_taken).above,
      ap (λ (s : Dealer). s.last) (sym (new _ _ w.dealer z) ∙ ap (λ y. y.dealer) q),
    ))
unmoved w (load b x) q =
    no_box w b (BoxCalls.load (w.box b) x) _ _ refl
    (λ z f. omega (arith, (load_tells (w.box b) x z).above, ap (λ (s : Party). s.last) f)) q
unmoved w (trial b x) q =
    let a : TrialAnswer = BoxCalls.trial (w.box b) x in
    tried_still a.why b a.name a.terms
unmoved w (mask b v out) q =
    no_box w b (BoxCalls.mask (w.box b) v (length out)) _ _ refl
    (λ z f. omega (arith, (mask_tells (w.box b) v (length out) z).turn, phases f)) q
unmoved w (take b m) q =
    no_box w b (BoxCalls.take_vector (w.box b) m.label m.name m.content) _ _ refl
    (λ z f. omega (arith, (take_tells (w.box b) m.label m.name m.content z).turn, phases f)) q
unmoved w (finish b m) q =
    no_box w b (BoxCalls.finish (w.box b) m.label m.name m.content) _ _ refl
    (λ z f. not_closed (w.box b)
    (λ e. omega (arith, (finish_tells (w.box b) m.label m.name z).turn, e)) f) q
unmoved w (drop b) q = no_box w b (BoxCalls.drop_set (w.box b)) _ _ refl
    (λ z f. not_closed (w.box b) (drop_tells (w.box b) z) f) q
unmoved w (join m n) q =
    no_event _ _
    (λ z. omega (
      arith,
      (join_tells w.lock m.label m.name m.content n.label n.name n.content z).above,
      ap (λ (s : Lock). s.last) (sym (new _ _ w.lock z) ∙ ap (λ y. y.lock) q),
    ))
