-- A refusal changes nothing: one lemma over any call, and for each call that its part keeps what was there. Assumes
-- nothing.
use mathlib.Core.Path.{◌≡◌, refl, sym, ap, subst, ◌∙◌}
use mathlib.Core.Bool.{Bool, true, false, cond, not, ◌&&◌}
use mathlib.Core.List.{List, ◌∷◌}
use Prim.Native.Nat.{ℕ, suc, ◌<◌}
use native.Mathlib.Omega.{arith}
use borrow.Author.Tests.{eqb-false}
use lib.Dec.{eqb}
use lib.ListN.{length}
use Rattle.base_messages.specs.Messages.{bad_rows, unless, if_taken}
use Rattle.base_messages.specs.Laws as Laws
use Rattle.call_dealer.specs.declared.Dealer.{Dealer}
use Rattle.call_dealer.specs.Dealer as DealerCalls
use Rattle.call_dealer.specs.Clock as ClockCalls
use Rattle.call_dealer.proofs.ClockLaws.{place_low}
use Rattle.half_content.specs.Content.{no_terms}
use Rattle.half_seal.specs.Half.{opened_set, opened_name}
use Rattle.call_party.specs.declared.Party.{Party}
use Rattle.call_party.specs.Party as BoxCalls
use Rattle.call_lock.specs.declared.Lock.{Lock}
use Rattle.call_lock.specs.Lock as LockCalls
use Rattle.door_lists.specs.Lists.{Box, put, World, Call, deal, deal_by_clock, load, trial, mask, take, finish}
use Rattle.door_lists.specs.Lists.{drop, join, Event, dealt, loaded, tried, sent, dropped, joined, refused}
use Rattle.door_lists.specs.Lists.{event_of, step}
use Rattle.door_lists.specs.Refusals.{lent, lent_after, said, placed, none_told, told, NothingChanges}
use Rattle.door_lists.specs.Refusals.{RefusalsChangeNothing, UnsoundRefused}
use Rattle.door_lists.proofs.Boxes.{put_same}

-- ---- which events are refusals

-- 0 for an accepted call, else one more than why it was refused
abbrev refusal : Event → ℕ
refusal (dealt d f) = 0
refusal (loaded b n) = 0
refusal (tried b name t) = 0
refusal (sent b n x) = 0
refusal (dropped b) = 0
refusal (joined n bit) = 0
refusal (refused why) = suc why

-- a call that says refused was, and says why
says_why : (why k : ℕ) (e : Event) → refusal e ≡ 0 → event_of why e ≡ refused k → (why ≡ k) × (why ≡ 0 → ⊥)
unfolding if_taken
says_why why k e n p = go (eqb why 0) refl p
  where
    go : (t : Bool) → eqb why 0 ≡ t → cond t e (refused why) ≡ refused k → (why ≡ k) × (why ≡ 0 → ⊥)
    go true q p = absurd (omega (arith, ap refusal p, n))
    go false q p = (omega (arith, ap refusal p), eqb-false why 0 q)

-- ---- what was there

old : {A : Type 0} (why : ℕ) (a b : A) → (why ≡ 0 → ⊥) → if_taken why a b ≡ b
old why a b h = sym (Laws.refused a b refl h)

same_dealer : (w : World) (s : Dealer) → s ≡ w.dealer → record { dealer = s; box = w.box; lock = w.lock } ≡ w
same_dealer w s p = λ i. record { dealer = p i; box = w.box; lock = w.lock }

put_back : {A : Type 0} (f : Box → A) (b : Box) (a : A) → a ≡ f b → (c : Box) → put f b a c ≡ f c
put_back f b a p c = ap (λ x. put f b x c) p ∙ put_same f b c

same_box_lem : (w : World) (b : Box) (s : Party) → s ≡ w.box b
    → record { dealer = w.dealer; box = put w.box b s; lock = w.lock } ≡ w
same_box_lem w b s p = λ i. record { dealer = w.dealer; box = λ c. put_back w.box b s p c i; lock = w.lock }

same_lock : (w : World) (s : Lock) → s ≡ w.lock → record { dealer = w.dealer; box = w.box; lock = s } ≡ w
same_lock w s p = λ i. record { dealer = w.dealer; box = w.box; lock = p i }

buffers : {a b : List ℕ} {l m : List (List ℕ)} → a ≡ b → l ≡ m → a ∷ l ≡ b ∷ m
buffers p q = λ i. p i ∷ q i

-- ---- calls

-- a call whose event is e where `why` is 0, and which leaves all as it was where it is not
alone : (w : World) (c : Call) (k why : ℕ) (e : Event) → refusal e ≡ 0 → (step w c).event ≡ event_of why e
    → ((why ≡ 0 → ⊥) → ((step w c).world ≡ w) × (lent_after w c ≡ lent c) × (said w c ≡ 0)
    × (why < bad_rows → placed w c ≡ 0)) → ((why ≡ 0 → ⊥) → told w c ≡ none_told) → (step w c).event ≡ refused k
    → NothingChanges w c k
alone w c k why e n q f g p =
    let was = says_why why k e n (sym q ∙ p) in
    let left = f was.1 in
    record {
      a_number = λ z. was.1 (was.0 ∙ z);
      same_states = left.0;
      same_bytes = left.1;
      nothing_said = left.2;
      no_place = λ l. left.3 (subst (λ n. n < bad_rows) (sym was.0) l);
      nothing_told = g was.1;
    }

pub refusals_change_nothing : RefusalsChangeNothing
unfolding RefusalsChangeNothing DealerCalls.deal DealerCalls.deal_out ClockCalls.deal_by_clock ClockCalls.clock_out
    BoxCalls.load BoxCalls.trial BoxCalls.mask BoxCalls.mask_out BoxCalls.take_vector BoxCalls.finish BoxCalls.drop_set
    LockCalls.join
refusals_change_nothing w (deal d out0 out1) k =
    alone w _ k _ _ refl refl
    (λ z. (same_dealer w _ (old _ _ _ z), buffers (old _ _ out0 z) (buffers (old _ _ out1 z) refl), refl, λ l. refl))
    (λ z. refl)
refusals_change_nothing w (deal_by_clock d out0 out1) k =
    alone w _ k _ _ refl refl
    (λ z. (
      same_dealer w _ (old _ _ _ z),
      buffers (old _ _ out0 z) (buffers (old _ _ out1 z) refl),
      refl,
      place_low w.dealer d (length out0) (length out1) z,
    )) (λ z. refl)
refusals_change_nothing w (load b h) k =
    alone w _ k _ _ refl refl (λ z. (same_box_lem w b _ (old _ _ _ z), refl, old _ _ _ z, λ l. refl)) (λ z. refl)
refusals_change_nothing w (trial b h) k =
    let s : Party = w.box b in
    alone w _ k _ _ refl refl (λ z. (refl, refl, refl, λ l. refl))
    (λ z. let n = old _ (opened_name s.who.key h) BoxCalls.no_name z in
    let t = old _ (opened_set s.who.key h).terms no_terms z in
    (λ i. (t i).code ∷ (t i).n ∷ n i))
refusals_change_nothing w (mask b v out) k =
    alone w _ k _ _ refl refl
    (λ z. (same_box_lem w b _ (old _ _ _ z), buffers (old _ _ out z) refl, old _ _ _ z, λ l. refl)) (λ z. refl)
refusals_change_nothing w (take b m) k =
    alone w _ k _ _ refl refl (λ z. (same_box_lem w b _ (old _ _ _ z), refl, old _ _ _ z, λ l. refl)) (λ z. refl)
refusals_change_nothing w (finish b m) k =
    alone w _ k _ _ refl refl (λ z. (same_box_lem w b _ (old _ _ _ z), refl, old _ _ _ z, λ l. refl)) (λ z. refl)
refusals_change_nothing w (drop b) k =
    alone w _ k _ _ refl refl (λ z. (same_box_lem w b _ (old _ _ _ z), refl, old _ _ _ z, λ l. refl)) (λ z. refl)
refusals_change_nothing w (join m n) k =
    alone w _ k _ _ refl refl (λ z. (same_lock w _ (old _ _ _ z), refl, old _ _ _ z, λ l. refl)) (λ z. refl)

pub refused_still : (w : World) (c : Call) (why : ℕ) → (step w c).event ≡ refused why → (step w c).world ≡ w
unfolding RefusalsChangeNothing
refused_still w c why q = (refusals_change_nothing w c why q).same_states

-- ---- a state that no call leaves

neither : (a : Bool) → a && false ≡ false
neither true = refl
neither false = refl

pub unsound_refused : UnsoundRefused
unfolding UnsoundRefused BoxCalls.load BoxCalls.trial BoxCalls.mask BoxCalls.take_vector BoxCalls.finish
    BoxCalls.drop_set BoxCalls.why_not_load BoxCalls.why_not_mask BoxCalls.why_not_take BoxCalls.why_not_finish
    BoxCalls.why_not_message BoxCalls.why_not_drop BoxCalls.in_turn unless if_taken
unsound_refused w b e =
    let phase : ℕ = (w.box b).check.phase in
    record {
      no_load = λ h. rw (e, neither (not (BoxCalls.waits (w.box b)))) refl;
      no_trial = λ h. rw (e, neither (not (BoxCalls.waits (w.box b)))) refl;
      no_mask = λ v out. rw (e, neither (eqb phase 1)) refl;
      no_take = λ m. rw (e, neither (eqb phase 2)) refl;
      no_finish = λ m. rw (e, neither (eqb phase 3)) refl;
      no_drop = rw (e, neither (BoxCalls.is_open (w.box b))) refl;
    }
