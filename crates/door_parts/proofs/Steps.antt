-- A call on a part, its next state put back, is the list's step: for a box once, over what the box answers and what the
-- call would say where it is accepted; then for each call. Assumes nothing.
use mathlib.Core.Path.{◌≡◌, refl, ap, ◌∙◌}
use mathlib.Core.Bool.{Bool, true, false, cond}
use mathlib.Core.List.{List}
use Prim.Native.Nat.{ℕ}
use lib.Dec.{eqb}
use lib.ListN.{length}
use Rattle.base_messages.specs.Messages.{if_taken}
use Rattle.half_seal.specs.Half.{set_number}
use Rattle.half_deal.specs.Dealing.{Deal}
use Rattle.call_dealer.specs.declared.DealerAnswer.{DealerAnswer}
use Rattle.call_dealer.specs.declared.ClockAnswer.{ClockAnswer}
use Rattle.call_dealer.specs.Dealer as DealerCalls
use Rattle.call_dealer.specs.Clock as ClockCalls
use Rattle.call_dealer.specs.Clock.{ClockDeal, deal_at}
use Rattle.call_party.specs.declared.Party.{Party}
use Rattle.call_party.specs.declared.PartyAnswer.{PartyAnswer}
use Rattle.call_party.specs.declared.TrialAnswer.{TrialAnswer}
use Rattle.call_party.specs.Party as BoxCalls
use Rattle.call_lock.specs.declared.LockAnswer.{LockAnswer}
use Rattle.call_lock.specs.Lock as LockCalls
use Rattle.door_lists.specs.Lists.{Message, deal, load, mask, take, finish, drop, join, on_box, written}
use Rattle.door_lists.specs.Lists.{written_by_clock, masked_by, vector, word, answer, Event, dealt, loaded, tried, sent}
use Rattle.door_lists.specs.Lists.{dropped, joined}
use Rattle.door_parts.specs.declared.Side.{Side}
use Rattle.door_parts.specs.declared.Side.TheVariants.{Camera, Office}
use Rattle.door_parts.specs.declared.Door.{Door}
use Rattle.door_parts.specs.declared.DoorAnswer.{DoorAnswer}
use Rattle.door_parts.specs.declared.PlacedAnswer.{PlacedAnswer}
use Rattle.door_parts.specs.declared.TriedAnswer.{TriedAnswer}
use Rattle.door_parts.specs.Door.{box_of, boxes, world, back, with_box, box_answer, event_why, event_word, step_answer}
use Rattle.door_parts.specs.Door.{call, clock_call, trial_call}
use Rattle.door_parts.specs.Laws.{why_said, word_said}

-- ---- answers

-- what a refused call leaves out once it leaves out again
pub once : (why w : ℕ) → if_taken why w 0 ≡ if_taken why (if_taken why w 0) 0
unfolding if_taken
once why w = go (eqb why 0)
  where
    go : (t : Bool) → cond t w 0 ≡ cond t (cond t w 0) 0
    go true = refl
    go false = refl

pub alike : {w w' s s' : ℕ} {d d' : Door} → w ≡ w' → s ≡ s' → d ≡ d'
    → ◌≡◌ {A = DoorAnswer} (record { why = w; word = s; door = d }) (record { why = w'; word = s'; door = d' })
alike p q r = λ i. record { why = p i; word = q i; door = r i }

-- ---- a box's call

pub put_back : (d : Door) (side : Side) (a : PartyAnswer) (e : Event)
    → with_box d side a.party ≡ back (on_box (world d) (box_of side) a e).world
put_back d Camera a e = refl
put_back d Office a e = refl

pub on_box_lem : (d : Door) (side : Side) (a : PartyAnswer) (e : Event)
    → event_why e ≡ 0 → a.word ≡ if_taken a.why (event_word e) 0
    → box_answer d side a ≡ step_answer (on_box (world d) (box_of side) a e)
on_box_lem d side a e none said =
    alike (why_said a.why e none) (said ∙ word_said a.why e) (put_back d side a e)

-- Box p of the door answers a, and r is the door's answer with it. `f` is what the call answers at a state, `e` what it
-- says there if it is accepted.
module _ (d : Door) (side : Side) {p : Party} {a : PartyAnswer} {r : DoorAnswer} (own : p ≡ boxes d (box_of side)) where
  box_step : (f : Party → PartyAnswer) (e : Party → Event)
      → ((s : Party) → event_why (e s) ≡ 0)
      → ((s : Party) → (f s).word ≡ if_taken (f s).why (event_word (e s)) 0)
      → a ≡ f p → r ≡ box_answer d side a
      → r ≡ step_answer (on_box (world d) (box_of side) (f (boxes d (box_of side))) (e (boxes d (box_of side))))
  box_step f e none said answers put =
      put ∙ ap (box_answer d side) (answers ∙ ap f own)
      ∙ on_box_lem d side (f (boxes d (box_of side))) (e (boxes d (box_of side))) (none _) (said _)

  pub load_step : (h : List ℕ) → a ≡ BoxCalls.load p h → r ≡ box_answer d side a → r ≡ call d (load (box_of side) h)
  unfolding call BoxCalls.load
  load_step h = box_step (λ s. BoxCalls.load s h) (λ s. loaded (box_of side) (set_number h)) (λ s. refl) (λ s. refl)

  pub mask_step : (v out : List ℕ)
      → a ≡ BoxCalls.mask p v (length out) → r ≡ box_answer d side a → r ≡ call d (mask (box_of side) v out)
  unfolding call BoxCalls.mask
  mask_step v out =
      box_step (λ s. BoxCalls.mask s v (length out))
      (λ s. sent (box_of side) s.check.set.number (vector v (masked_by s v out)))
      (λ s. refl) (λ s. refl)

  pub take_step : (m : Message (List ℕ))
      → a ≡ BoxCalls.take_vector p m.label m.name m.content → r ≡ box_answer d side a
      → r ≡ call d (take (box_of side) m)
  unfolding call BoxCalls.take_vector
  take_step m =
      let f : Party → PartyAnswer = λ s. BoxCalls.take_vector s m.label m.name m.content in
      box_step f (λ s. sent (box_of side) s.check.set.number (word (f s).word)) (λ s. refl) (λ s. once _ _)

  pub finish_step : (m : Message ℕ)
      → a ≡ BoxCalls.finish p m.label m.name m.content → r ≡ box_answer d side a
      → r ≡ call d (finish (box_of side) m)
  unfolding call BoxCalls.finish
  finish_step m =
      let f : Party → PartyAnswer = λ s. BoxCalls.finish s m.label m.name m.content in
      box_step f (λ s. sent (box_of side) s.check.set.number (answer (f s).word)) (λ s. refl) (λ s. once _ _)

  pub drop_step : a ≡ BoxCalls.drop_set p → r ≡ box_answer d side a → r ≡ call d (drop (box_of side))
  unfolding call BoxCalls.drop_set
  drop_step = box_step BoxCalls.drop_set (λ s. dropped (box_of side)) (λ s. refl) (λ s. refl)

-- ---- a trial, whose answer has no state

pub trial_step : (d : Door) (side : Side) {p : Party} → p ≡ boxes d (box_of side) → (h : List ℕ)
    {t : TrialAnswer} → t ≡ BoxCalls.trial p h
    → ◌≡◌ {A = TriedAnswer} (record { why = t.why; name = t.name; terms = t.terms; door = d }) (trial_call d side h)
unfolding trial_call call
trial_step d side own h answers =
    let told : TrialAnswer = BoxCalls.trial (boxes d (box_of side)) h in
    let is = answers ∙ ap (λ (s : Party). BoxCalls.trial s h) own in
    let why =
    ap (λ (x : TrialAnswer). x.why) is ∙ why_said _ (tried (box_of side) told.name told.terms) refl in
    λ i. record { why = why i; name = (is i).name; terms = (is i).terms; door = d }

-- ---- a deal and a join

nothing : (why : ℕ) → ◌≡◌ {A = ℕ} 0 (if_taken why 0 0)
unfolding if_taken
nothing why = go (eqb why 0)
  where
    go : (t : Bool) → ◌≡◌ {A = ℕ} 0 (cond t 0 0)
    go true = refl
    go false = refl

module _ (d : Door) where
  abbrev pub dealer_answer : DealerAnswer → DoorAnswer
  dealer_answer a =
      record {
        why = a.why;
        word = 0;
        door = record { dealer = a.dealer; camera = d.camera; office = d.office; lock = d.lock };
      }

  pub deal_step : (x : Deal) (out0 out1 : List ℕ) {a : DealerAnswer}
      → a ≡ DealerCalls.deal d.dealer x (length out0) (length out1) → dealer_answer a ≡ call d (deal x out0 out1)
  unfolding call
  deal_step x out0 out1 answers =
      let e : Event = dealt x (written d.dealer x out0 out1) in
      ap dealer_answer answers ∙ alike (why_said _ e refl) (nothing _ ∙ word_said _ e) refl

  pub clock_step : (k : ClockDeal) (out0 out1 : List ℕ) {a : ClockAnswer}
      → a ≡ ClockCalls.deal_by_clock d.dealer k (length out0) (length out1)
      → ◌≡◌ {A = PlacedAnswer} (record {
        why = a.why;
        place = a.place;
        door = record { dealer = a.dealer; camera = d.camera; office = d.office; lock = d.lock };
      }) (clock_call d k out0 out1)
  unfolding clock_call call
  clock_step k out0 out1 {a} answers =
      let e : Event = dealt (deal_at k) (written_by_clock d.dealer k out0 out1) in
      let why = ap (λ (a : ClockAnswer). a.why) answers ∙ why_said _ e refl in
      λ i. record {
        why = why i;
        place = (answers i).place;
        door = record { dealer = (answers i).dealer; camera = d.camera; office = d.office; lock = d.lock };
      }

  abbrev pub lock_answer : LockAnswer → DoorAnswer
  lock_answer a =
      record {
        why = a.why;
        word = a.bit;
        door = record { dealer = d.dealer; camera = d.camera; office = d.office; lock = a.lock };
      }

  pub join_step : (m n : Message ℕ) {a : LockAnswer}
      → a ≡ LockCalls.join d.lock m.label m.name m.content n.label n.name n.content
      → lock_answer a ≡ call d (join m n)
  unfolding call LockCalls.join
  join_step m n answers =
      let a = LockCalls.join d.lock m.label m.name m.content n.label n.name n.content in
      let e : Event = joined m.label.number a.bit in
      ap lock_answer answers ∙ alike (why_said _ e refl) (once _ _ ∙ word_said _ e) refl
