-- What a set has brought into a box's state stays there until call 4 or drop ends it: what each accepted call brings
-- comes at a phase at which it was not there. Assumes nothing.
use mathlib.Core.Path.{◌≡◌, refl, ap, ◌∙◌}
use mathlib.Core.Bool.{Bool, true, false, cond, not}
use mathlib.Core.List.{List, [], ◌∷◌}
use Prim.Native.Nat.{ℕ, ◌≤◌}
use native.Mathlib.Omega.{arith}
use borrow.Author.Tests.{eqb-true, eqb-false, ne_eqb, not-true}
use lib.Dec.{eqb}
use lib.ListN.{length}
use Rattle.base_messages.specs.Messages.{if_taken}
use Rattle.half_content.specs.declared.Set.{Set}
use Rattle.half_seal.specs.Half.{opened_set}
use Rattle.call_party.specs.declared.Check.{Check}
use Rattle.call_party.specs.declared.Party.{Party}
use Rattle.call_party.specs.Party as BoxCalls
use Rattle.call_party.specs.Party.{masked, worded}
use Rattle.call_party.specs.Laws.{load_tells}
use Rattle.door_lists.specs.Lists.{Box, other, put, World, Call, deal, load, trial, mask, take, finish, drop}
use Rattle.door_lists.specs.Lists.{join, Event, refused, event_of, step, after, here, there, deal_by_clock}
use Rattle.door_lists.specs.States.{Ends, by_call_4, by_drop, Stays, StaysUntilEnded}
use Rattle.door_lists.proofs.Accepted.{mask_tells, take_tells}
use Rattle.door_lists.proofs.Boxes.{put_all}

-- ---- no call, and one after another

still : (s : Party) → Stays s s
still s =
    record {
      not_back = omega arith;
      same_set = refl;
      same_masked = λ h. refl;
      same_own = λ h. refl;
      same_word = λ h. refl;
      same_waiting = λ h. refl;
    }

and_then : (s t u : Party) → Stays s t → Stays t u → Stays s u
and_then s t u p q =
    let up = p.not_back in
    record {
      not_back = omega (arith, up, q.not_back);
      same_set = q.same_set ∙ p.same_set;
      same_masked = λ h. q.same_masked (omega (arith, h, up)) ∙ p.same_masked h;
      same_own = λ h. q.same_own (omega (arith, h, up)) ∙ p.same_own h;
      same_word = λ h. q.same_word (omega (arith, h, up)) ∙ p.same_word h;
      same_waiting = λ h. q.same_waiting (ap (λ (x : Set). not (eqb x.terms.n 0)) (p.same_waiting h) ∙ h)
          ∙ p.same_waiting h;
    }

-- ---- one call

-- what holds of box b's state s, of the state t that a call hands back, and of the call's event
abbrev pub Spares : Box → Party → Event → Party → Type 0
Spares b s e t = 1 ≤ s.check.phase → (Ends b e → ⊥) → Stays s t

-- a refused call keeps all
either : (b : Box) (why : ℕ) (new s : Party) (e : Event) → (why ≡ 0 → Spares b s e new)
    → Spares b s (event_of why e) (if_taken why new s)
unfolding if_taken
either b why new s e f = go (eqb why 0) refl
  where
    go : (t : Bool) → eqb why 0 ≡ t → Spares b s (cond t e (refused why)) (cond t new s)
    go true q = f (eqb-true why 0 q)
    go false q = λ o h. still s

-- and a call of box b leaves the other box alone
on_box_lem : (w : World) (b : Box) (why : ℕ) (new : Party) (e : Event)
    → (why ≡ 0 → Spares b (w.box b) e new) → (c : Box)
    → Spares c (w.box c) (event_of why e) (put w.box b (if_taken why new (w.box b)) c)
on_box_lem w b why new e f =
    let called = either b why new (w.box b) e f in
    put_all (λ c t. Spares c (w.box c) (event_of why e) t) w.box b _ called (λ o h. still (w.box (other b)))

-- a load with a set open leaves its check as it was, and is refused with one waiting
loaded_stays : (s : Party) (x : List ℕ) → BoxCalls.why_not_load s x ≡ 0 → 1 ≤ s.check.phase
    → Stays s (BoxCalls.loaded s (opened_set s.who.key x))
unfolding BoxCalls.loaded
loaded_stays s x z o =
    let same : (BoxCalls.loaded s (opened_set s.who.key x)).check ≡ s.check =
    ap (λ (b : Bool). cond (not b) s.check (BoxCalls.opened (opened_set s.who.key x)))
    (ne_eqb s.check.phase 0 (λ e. omega (arith, o, e))) in
    record {
      not_back = rw same (omega arith);
      same_set = ap (λ (c : Check). c.set) same;
      same_masked = λ h. ap (λ (c : Check). c.masked) same;
      same_own = λ h. ap (λ (c : Check). c.own) same;
      same_word = λ h. ap (λ (c : Check). c.word) same;
      same_waiting = λ h. absurd (eqb-false _ _ (not-true _ h) (load_tells s x z).none_waits);
    }

pub step_stays : (w : World) (c : Call) (b : Box) → Spares b (w.box b) (step w c).event ((step w c).world.box b)
unfolding BoxCalls.load BoxCalls.mask BoxCalls.take_vector BoxCalls.finish BoxCalls.drop_set masked worded
step_stays w (deal d out0 out1) = λ b o h. still (w.box b)
step_stays w (deal_by_clock k out0 out1) = λ b o h. still (w.box b)
step_stays w (load b x) = on_box_lem w b _ _ _ (λ z o h. loaded_stays (w.box b) x z o)
step_stays w (trial b x) = λ c o h. still (w.box c)
step_stays w (mask b v out) =
    on_box_lem w b _ _ _
    (λ z o h. let turn = (mask_tells (w.box b) v (length out) z).turn in
    record {
      not_back = omega (arith, turn);
      same_set = refl;
      same_masked = λ l. absurd (omega (arith, turn, l));
      same_own = λ l. absurd (omega (arith, turn, l));
      same_word = λ l. absurd (omega (arith, turn, l));
      same_waiting = λ l. refl;
    })
step_stays w (take b m) =
    on_box_lem w b _ _ _
    (λ z o h. let turn = (take_tells (w.box b) m.label m.name m.content z).turn in
    record {
      not_back = omega (arith, turn);
      same_set = refl;
      same_masked = λ l. refl;
      same_own = λ l. refl;
      same_word = λ l. absurd (omega (arith, turn, l));
      same_waiting = λ l. refl;
    })
step_stays w (finish b m) = on_box_lem w b _ _ _ (λ z o h. absurd (h (by_call_4 _ _)))
step_stays w (drop b) = on_box_lem w b _ _ _ (λ z o h. absurd (h by_drop))
step_stays w (join m n) = λ b o h. still (w.box b)

-- ---- a list of calls

pub stays_until_ended : StaysUntilEnded
unfolding StaysUntilEnded
stays_until_ended w b o [] h = still (w.box b)
stays_until_ended w b o (c ∷ cs) h =
    let s = (after w cs).box b in
    let so_far = stays_until_ended w b o cs (λ e i. h e (there i)) in
    and_then (w.box b) s _ so_far (step_stays (after w cs) c b (omega (arith, o, so_far.not_back)) (h _ (here refl)))
