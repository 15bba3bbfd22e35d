-- Numbers and open sets after any list of calls: each box shows sets that loads left, whatever they hold, and each
-- accepted call moves them as its event says, whatever was handed in. Assumes nothing.
use mathlib.Core.Path.{◌≡◌, refl, sym, subst, ap, ◌∙◌}
use mathlib.Core.Bool.{Bool, true, false, cond, not}
use mathlib.Core.List.{List, [], ◌∷◌, ◌++◌, map}
use Prim.Native.Nat.{ℕ, suc, ◌<◌, ◌≤◌}
use native.Mathlib.Omega.{arith}
use borrow.Author.Tests.{eqb-true, eq-eqb, ne_eqb, le-ltb}
use lib.Dec.{eqb}
use lib.ListN.{length, length-append, length-map}
use Rattle.base_algebra.specs.Bit.{both}
use Rattle.measure_table.specs.Measure.{is_code, own_word}
use Rattle.measure_table.specs.Laws.{length_fits_lem}
use Rattle.base_messages.specs.declared.Label.{Label}
use Rattle.base_messages.specs.Messages.{out_of_turn, wrong_number, unless, if_taken}
use Rattle.half_content.specs.declared.Set.{Set}
use Rattle.half_content.specs.Content as ContentIs
use Rattle.half_content.specs.Content.{fill, no_set}
use Rattle.half_seal.specs.Half.{whole_blocks, why_not, set_number, opened_set}
use Rattle.call_dealer.specs.declared.Dealer.{Dealer}
use Rattle.call_dealer.specs.Dealer as DealerCalls
use Rattle.call_dealer.specs.Laws.{deal_tells}
use Rattle.call_dealer.specs.Clock.{deal_at}
use Rattle.door_lists.proofs.Clock.{by_clock}
use Rattle.half_deal.specs.Dealing.{Deal}
use Rattle.call_party.specs.declared.Party.{Party}
use Rattle.call_party.specs.Party as BoxCalls
use Rattle.call_party.specs.Party.{idle, in_turn, take_vector, drop_set}
use Rattle.call_party.specs.Party.{why_not_load, why_not_mask, why_not_take, why_not_finish, why_not_drop}
use Rattle.call_party.specs.Laws.{water_of, water_last, opened_fits, load_tells}
use Rattle.call_lock.specs.declared.Lock.{Lock}
use Rattle.call_lock.specs.Lock as LockCalls
use Rattle.door_lists.specs.Lists.{Box, party_of, other, put, World, Starts, Started, beginning, deal_by_clock}
use Rattle.door_lists.specs.Lists.{Call, deal, load, trial, mask, take, finish, drop, join, step, after, history}
use Rattle.door_lists.specs.Lists.{Event, loaded, sent, dropped, refused, vector, word, answer, event_of}
use Rattle.door_lists.specs.Demand.{deals_in, loads_by, joins_in, collect}
use Rattle.door_lists.specs.Demand.{last_dealt, last_joined, open_sets, held}
use Rattle.door_lists.specs.Numbers.{Rise, NoTurn, numbers_in, NumbersKept}
use Rattle.door_lists.proofs.Accepted.{mask_tells, take_tells, finish_tells}
use Rattle.door_lists.proofs.Accepted.{drop_tells, join_tells}
use Rattle.door_lists.proofs.Boxes.{own_box, party_fits, put_all}
use Rattle.door_lists.proofs.Goes.{OpenAt, idle_sound, open_sound, drop_goes}
use Rattle.door_lists.proofs.History.{door}
use Rattle.door_lists.proofs.Invariant.{phase_of, first_in, FreshBehind, Fitting, fitting_long, slot_phase}
use Rattle.door_lists.proofs.Invariant.{opened_at_lem, not_both, behind_next, behind_load}
use Rattle.door_lists.proofs.Invariant.{who_at, showing, closing, loads, last_at, none_yet}
use Rattle.door_lists.proofs.Once.{All}
use Rattle.door_lists.proofs.Parts.{Away, last_away, Own, own_load, own_sent, own_drop, last_loaded_lem}
use Rattle.door_lists.proofs.Parts.{other_away, dealt_away, joined_away, refused_away, tried_away}
use Rattle.door_lists.proofs.Parts.{Quiet, dealt_quiet, joined_quiet, refused_quiet, own_quiet}
use Rattle.door_lists.proofs.Slots.{Slot, fresh, masked, worded, set_in, number_of, Counted, all_load}
use Rattle.door_lists.proofs.Slots.{counted_away, counted_load, counted_mask, counted_take, counted_close}
use Rattle.door_lists.proofs.Slots.{counted_drop}
use Rattle.door_lists.proofs.Written.{new}

-- ---- an answer: what is new where nothing refuses, and what was there where something does

either : {A : Type 0} (P : Event → A → Type 0) (why : ℕ) (e : Event) (now was : A) → (why ≡ 0 → P e now)
    → P (refused why) was → P (event_of why e) (if_taken why now was)
unfolding if_taken
either P why e now was f r = go (eqb why 0) refl
  where
    go : (t : Bool) → eqb why 0 ≡ t → P (cond t e (refused why)) (cond t now was)
    go true q = f (eqb-true why 0 q)
    go false q = r

-- ---- a box's state: it shows sets that a load leaves, whatever they hold

-- a load at a box with a set waiting, and one of a number that is not above the last one
waits_3 : (z : Party) (x : List ℕ) → 1 ≤ z.waiting.terms.n → why_not_load z x ≡ out_of_turn
unfolding why_not_load unless
waits_3 z x some = rw (ne_eqb z.waiting.terms.n 0 (λ e. omega (arith, some, e))) refl

spent_7 : (z : Party) (x : List ℕ) → z.waiting.terms.n ≡ 0 → BoxCalls.sound z ≡ true → whole_blocks x ≡ true
    → set_number x ≤ z.last → why_not_load z x ≡ wrong_number
unfolding why_not_load why_not unless
spent_7 z x none fits whole low =
    rw (
      eq-eqb z.waiting.terms.n 0 none,
      fits,
      whole,
      le-ltb (water_of z) (set_number x)
          (omega (arith, low, water_last z.check.phase z.check.set.number z.last)),
    )
    refl

module _ (S : Starts) where
  record Has (b : Box) (h : List Event) (ts : List Slot) : Type 0 where
    few : length ts ≤ 2
    behind : FreshBehind ts
    fitting : All Fitting ts
    counted : Counted h b (last_at S b h) ts
    rise : Rise (S.box_floor b) (collect (loads_by b) h)

  abbrev BoxAt : Box → List Event → Party → Type 0
  BoxAt b h p = (ts : List Slot) × Has b h ts × (p ≡ showing S b (last_at S b h) ts)

  box_away : (b : Box) (h : List Event) (p : Party) → BoxAt b h p → (e : Event) → Away b e → BoxAt b (e ∷ h) p
  box_away b h p (ts, k, shows) e a =
      let l = sym (last_away a h (S.box_floor b)) in (
        ts,
        record {
          few = k.few;
          behind = k.behind;
          fitting = k.fitting;
          counted = subst (λ z. Counted (e ∷ h) b z ts) l (counted_away h e b (last_at S b h) ts a k.counted);
          rise = rw a.no_load k.rise;
        },
        shows ∙ ap (λ z. showing S b z ts) l,
      )

  module _ (b : Box) (h : List Event) where
    abbrev last : ℕ
    last = last_at S b h

    -- what a call does at a box is what it does at the state that its sets show
    at : (p : Party) → BoxAt b h p → (P : Party → Type 0)
        → ((ts : List Slot) → Has b h ts → P (showing S b last ts)) → P p
    at p (ts, k, shows) P f = subst P (sym shows) (f ts k)

    shown_loaded : (x : List ℕ) (ts : List Slot) → Has b h ts
        → (let z : Party = showing S b last ts in why_not_load z x ≡ 0
        → BoxAt b (loaded b (set_number x) ∷ h) (BoxCalls.loaded z (opened_set z.who.key x)))
    unfolding opened_set ContentIs.set_in
    shown_loaded x ts k e =
        let z : Party = showing S b last ts in
        let tells = load_tells z x e in
        let s : Set = opened_set (S.key b) x in
        let few = not_both S b last ts k.fitting tells.none_waits in
        let fits = opened_fits (S.key b) (door S) (party_of b) (water_of z) x tells.examined in
        let own = last_loaded_lem b h (S.box_floor b) (set_number x) in
        let after : List Slot = ts ++ (fresh s ∷ []) in (
          after,
          record {
            few = omega (arith, few, length-append ts (fresh s ∷ []));
            behind = behind_load s ts k.behind;
            fitting = all_load Fitting (fresh s) ts k.fitting (both (is_code s.terms.code) _ fits);
            counted = subst (λ l. Counted (loaded b (set_number x) ∷ h) b l after) (sym own)
                (counted_load h b last ts k.counted s tells.above);
            rise = rw (own_box b) (k.rise, tells.above);
          },
          loads S b last s ts few ∙ ap (λ l. showing S b l after) (sym own),
        )

    shown_masked : (v y : List ℕ) (room : ℕ) (ts : List Slot) → Has b h ts
        → (let z : Party = showing S b last ts in why_not_mask z v room ≡ 0
        → BoxAt b (sent b z.check.set.number (vector v y) ∷ h) (BoxCalls.masked z v))
    unfolding BoxCalls.no_check BoxCalls.masked
    shown_masked v y room [] k e = absurd (omega (arith, (mask_tells _ v room e).turn))
    shown_masked v y room (masked s m o ∷ ts) k e = absurd (omega (arith, (mask_tells _ v room e).turn))
    shown_masked v y room (worded s m o u ∷ ts) k e = absurd (omega (arith, (mask_tells _ v room e).turn))
    shown_masked v y room (fresh s ∷ ts) k e = (
      masked s (fill (BoxCalls.masked_vector s (party_of b) v)) (own_word s.terms v) ∷ ts,
      record {
        few = k.few;
        behind = k.behind;
        fitting = k.fitting;
        counted = counted_mask h b last s ts k.counted v y _ _;
        rise = k.rise;
      },
      refl,
    )

    shown_worded : (l : Label) (name v : List ℕ) (w u : ℕ) (ts : List Slot) → Has b h ts
        → (let z : Party = showing S b last ts in why_not_take z l name v ≡ 0
        → BoxAt b (sent b z.check.set.number (word u) ∷ h) (BoxCalls.worded z w))
    unfolding BoxCalls.no_check BoxCalls.worded
    shown_worded l name v w u [] k e = absurd (omega (arith, (take_tells _ l name v e).turn))
    shown_worded l name v w u (fresh s ∷ ts) k e = absurd (omega (arith, (take_tells _ l name v e).turn))
    shown_worded l name v w u (worded s m o x ∷ ts) k e = absurd (omega (arith, (take_tells _ l name v e).turn))
    shown_worded l name v w u (masked s m o ∷ ts) k e = (
      worded s m o w ∷ ts,
      record {
        few = k.few;
        behind = k.behind;
        fitting = k.fitting;
        counted = counted_take h b last s m o ts k.counted w u;
        rise = k.rise;
      },
      refl,
    )

    closes_to : (t : Slot) (ts : List Slot) → Has b h (t ∷ ts)
        → BoxCalls.closed (showing S b last (t ∷ ts)) ≡ showing S b last ts
    closes_to t ts k = closing S b last t ts k.few k.behind (fitting_long ts k.fitting.1)

    shown_answered : (l : Label) (name : List ℕ) (u : ℕ) (ts : List Slot) → Has b h ts
        → (let z : Party = showing S b last ts in why_not_finish z l name ≡ 0
        → BoxAt b (sent b z.check.set.number (answer u) ∷ h) (BoxCalls.closed z))
    unfolding BoxCalls.no_check
    shown_answered l name u [] k e = absurd (omega (arith, (finish_tells _ l name e).turn))
    shown_answered l name u (fresh s ∷ ts) k e = absurd (omega (arith, (finish_tells _ l name e).turn))
    shown_answered l name u (masked s m o ∷ ts) k e = absurd (omega (arith, (finish_tells _ l name e).turn))
    shown_answered l name u (worded s m o w ∷ ts) k e = (
      ts,
      record {
        few = omega (arith, k.few);
        behind = behind_next ts k.behind;
        fitting = k.fitting.1;
        counted = counted_close h b last (worded s m o w) ts k.counted s.number u;
        rise = k.rise;
      },
      closes_to (worded s m o w) ts k,
    )

    shown_dropped : (ts : List Slot) → Has b h ts
        → (let z : Party = showing S b last ts in why_not_drop z ≡ 0 → BoxAt b (dropped b ∷ h) (BoxCalls.closed z))
    unfolding BoxCalls.no_check
    shown_dropped [] k e = absurd (drop_tells _ e refl)
    shown_dropped (t ∷ ts) k e = (
      ts,
      record {
        few = omega (arith, k.few);
        behind = behind_next ts k.behind;
        fitting = k.fitting.1;
        counted = counted_drop h b last t ts k.counted;
        rise = k.rise;
      },
      closes_to t ts k,
    )

    opened : (t : Slot) (ts : List Slot) → Has b h (t ∷ ts) → OpenAt (phase_of t) (showing S b last (t ∷ ts))
    opened t ts k = opened_at_lem S b _ last t ts k.fitting k.counted.rising

    -- the same at any state of the box
    module _ (p : Party) (a : BoxAt b h p) where
      box_loaded : (x : List ℕ) → why_not_load p x ≡ 0
          → BoxAt b (loaded b (set_number x) ∷ h) (BoxCalls.loaded p (opened_set p.who.key x))
      box_loaded x =
          at p a (λ z. why_not_load z x ≡ 0
          → BoxAt b (loaded b (set_number x) ∷ h) (BoxCalls.loaded z (opened_set z.who.key x))) (shown_loaded x)

      box_masked : (v y : List ℕ) (room : ℕ) → why_not_mask p v room ≡ 0
          → BoxAt b (sent b p.check.set.number (vector v y) ∷ h) (BoxCalls.masked p v)
      box_masked v y room =
          at p a (λ z. why_not_mask z v room ≡ 0
          → BoxAt b (sent b z.check.set.number (vector v y) ∷ h) (BoxCalls.masked z v)) (shown_masked v y room)

      box_worded : (l : Label) (name v : List ℕ) (w u : ℕ) → why_not_take p l name v ≡ 0
          → BoxAt b (sent b p.check.set.number (word u) ∷ h) (BoxCalls.worded p w)
      box_worded l name v w u =
          at p a (λ z. why_not_take z l name v ≡ 0
          → BoxAt b (sent b z.check.set.number (word u) ∷ h) (BoxCalls.worded z w))
          (shown_worded l name v w u)

      box_answered : (l : Label) (name : List ℕ) (u : ℕ) → why_not_finish p l name ≡ 0
          → BoxAt b (sent b p.check.set.number (answer u) ∷ h) (BoxCalls.closed p)
      box_answered l name u =
          at p a (λ z. why_not_finish z l name ≡ 0
          → BoxAt b (sent b z.check.set.number (answer u) ∷ h) (BoxCalls.closed z)) (shown_answered l name u)

      box_dropped : why_not_drop p ≡ 0 → BoxAt b (dropped b ∷ h) (BoxCalls.closed p)
      box_dropped = at p a (λ z. why_not_drop z ≡ 0 → BoxAt b (dropped b ∷ h) (BoxCalls.closed z)) shown_dropped

      -- ---- what that tells

      idle_none : p.check.phase ≡ 0 → open_sets b h ≡ 0
      idle_none = at p a (λ z. z.check.phase ≡ 0 → open_sets b h ≡ 0) go
        where
          go : (ts : List Slot) → Has b h ts → (showing S b last ts).check.phase ≡ 0 → open_sets b h ≡ 0
          go [] k e = sym k.counted.count
          go (t ∷ ts) k e = absurd (omega (arith, e, (slot_phase t).0))

      none_idle : open_sets b h ≡ 0 → p.check.phase ≡ 0
      unfolding BoxCalls.no_check
      none_idle = at p a (λ z. open_sets b h ≡ 0 → z.check.phase ≡ 0) go
        where
          go : (ts : List Slot) → Has b h ts → open_sets b h ≡ 0 → (showing S b last ts).check.phase ≡ 0
          go [] k e = refl
          go (t ∷ ts) k e = absurd (omega (arith, e, k.counted.count))

      drops : 1 ≤ open_sets b h → why_not_drop p ≡ 0
      drops = at p a (λ z. 1 ≤ open_sets b h → why_not_drop z ≡ 0) go
        where
          go : (ts : List Slot) → Has b h ts → 1 ≤ open_sets b h → why_not_drop (showing S b last ts) ≡ 0
          go [] k o = absurd (omega (arith, o, k.counted.count))
          go (t ∷ ts) k o = drop_goes (phase_of t) _ (opened t ts k)

      -- with two sets a load is out of turn, and else one of a spent number is refused by it
      full : open_sets b h ≡ 2 → (x : List ℕ) → why_not_load p x ≡ out_of_turn
      full two x = at p a (λ z. why_not_load z x ≡ out_of_turn) go
        where
          go : (ts : List Slot) → Has b h ts → why_not_load (showing S b last ts) x ≡ out_of_turn
          go [] k = absurd (omega (arith, two, k.counted.count))
          go (t ∷ []) k = absurd (omega (arith, two, k.counted.count))
          go (t ∷ u ∷ ts) k = waits_3 _ x (length_fits_lem (set_in u).terms k.fitting.1.0.1).0

      spent : open_sets b h ≤ 1 → (x : List ℕ) → whole_blocks x ≡ true → set_number x ≤ last
          → why_not_load p x ≡ wrong_number
      unfolding idle no_set
      spent few x whole low = at p a (λ z. why_not_load z x ≡ wrong_number) go
        where
          go : (ts : List Slot) → Has b h ts → why_not_load (showing S b last ts) x ≡ wrong_number
          go [] k = spent_7 (showing S b last []) x refl (idle_sound (who_at S b) last (party_fits b)) whole low
          go (t ∷ []) k =
              spent_7 _ x refl (open_sound (phase_of t) _ (opened t [] k)) whole low
          go (t ∷ u ∷ ts) k = absurd (omega (arith, few, k.counted.count))

      numbers : numbers_in p ≡ held b h
      unfolding BoxCalls.no_check no_set
      numbers = at p a (λ z. numbers_in z ≡ held b h) (λ ts k. go ts k ∙ k.counted.held_is)
        where
          one_more : (s : Set) → 1 ≤ s.terms.n
              → cond (not (eqb s.terms.n 0)) (s.number ∷ []) [] ≡ s.number ∷ []
          one_more s l = rw (ne_eqb s.terms.n 0 (λ e. omega (arith, l, e))) refl

          rest : (ts : List Slot) → length ts ≤ 1 → All Fitting ts
              → cond (not (eqb (first_in ts).terms.n 0)) ((first_in ts).number ∷ []) [] ≡ map number_of ts
          rest [] f l = refl
          rest (t ∷ []) f l = one_more (set_in t) (length_fits_lem (set_in t).terms l.0.1).0
          rest (t ∷ u ∷ ts) f l = absurd (omega (arith, f))

          go : (ts : List Slot) → Has b h ts → numbers_in (showing S b last ts) ≡ map number_of ts
          go [] k = refl
          go (fresh s ∷ ts) k = ap (λ (l : List ℕ). s.number ∷ l) (rest ts (omega (arith, k.few)) k.fitting.1)
          go (masked s m o ∷ ts) k =
              ap (λ (l : List ℕ). s.number ∷ l) (rest ts (omega (arith, k.few)) k.fitting.1)
          go (worded s m o w ∷ ts) k =
              ap (λ (l : List ℕ). s.number ∷ l) (rest ts (omega (arith, k.few)) k.fitting.1)

  -- ---- the four states

  abbrev DealerAt : List Event → Dealer → Type 0
  DealerAt h s =
      (s.last ≡ last_dealt S.dealer_floor h) × Rise S.dealer_floor (map (λ d. d.number) (collect deals_in h))

  abbrev LockAt : List Event → Lock → Type 0
  LockAt h s = (s.last ≡ last_joined S.lock_floor h) × Rise S.lock_floor (collect joins_in h)

  record AllAt (h : List Event) (w : World) : Type 0 where
    dealer_at : DealerAt h w.dealer
    box_at : (b : Box) → BoxAt b h (w.box b)
    lock_at : LockAt h w.lock

  all_start : Started S → AllAt [] (beginning S)
  unfolding DealerCalls.start_dealer BoxCalls.start_party LockCalls.start_lock idle
  all_start f =
      record {
        dealer_at = rw (new _ _ _ f.dealer_taken) (refl, tt);
        box_at = λ b. (
          [],
          record { few = omega arith; behind = tt; fitting = tt; counted = none_yet S b; rise = tt },
          new _ _ _ (f.box_taken b),
        );
        lock_at = rw (new _ _ _ f.lock_taken) (refl, tt);
      }

  module _ (h : List Event) (w : World) (I : AllAt h w) where
    -- a call of box b
    abbrev with_box_lem : Box → Party → World
    with_box_lem b p = record { dealer = w.dealer; box = put w.box b p; lock = w.lock }

    moved : (b : Box) (e : Event) (p : Party) → Quiet e → Away (other b) e → BoxAt b (e ∷ h) p
        → AllAt (e ∷ h) (with_box_lem b p)
    moved b e p q away k =
        record {
          dealer_at = (I.dealer_at.0 ∙ sym (dealt_quiet q h S.dealer_floor), rw q.no_deal I.dealer_at.1);
          box_at = put_all (λ c. BoxAt c (e ∷ h)) w.box b p k
              (box_away (other b) h (w.box (other b)) (I.box_at (other b)) e away);
          lock_at = (I.lock_at.0 ∙ sym (joined_quiet q h S.lock_floor), rw q.no_join I.lock_at.1);
        }

    on_box_lem : (b : Box) (why : ℕ) (e : Event) (p : Party) → Own b e → (why ≡ 0 → BoxAt b (e ∷ h) p)
        → AllAt (event_of why e ∷ h) (with_box_lem b (if_taken why p (w.box b)))
    on_box_lem b why e p o f =
        let still = box_away b h (w.box b) (I.box_at b) (refused why) (refused_away why b) in
        either (λ x s. AllAt (x ∷ h) (with_box_lem b s)) why e p (w.box b)
        (λ z. moved b e p (own_quiet b e o) (other_away b e o) (f z))
        (moved b (refused why) (w.box b) (refused_quiet why) (refused_away why (other b)) still)

    each_away : (e : Event) → ((b : Box) → Away b e) → (b : Box) → BoxAt b (e ∷ h) (w.box b)
    each_away e f b = box_away b h (w.box b) (I.box_at b) e (f b)

    -- a refusal
    all_still : (why : ℕ) → AllAt (refused why ∷ h) w
    all_still why =
        record { dealer_at = I.dealer_at; box_at = each_away _ (refused_away why); lock_at = I.lock_at }

    after_trial : (b : Box) (x : List ℕ) → AllAt ((step w (trial b x)).event ∷ h) w
    after_trial b x =
        either {A = Unit {0}} (λ y s. AllAt (y ∷ h) w) _ _ tt tt
        (λ z. record { dealer_at = I.dealer_at; box_at = each_away _ (tried_away b _ _); lock_at = I.lock_at })
        (all_still _)

    after_deal : (d : Deal) (out0 out1 : List ℕ)
        → AllAt ((step w (deal d out0 out1)).event ∷ h) (step w (deal d out0 out1)).world
    unfolding DealerCalls.deal
    after_deal d out0 out1 =
        either (λ x s. AllAt (x ∷ h) (record { dealer = s; box = w.box; lock = w.lock })) _ _ _ w.dealer
        (λ z. let above = (deal_tells w.dealer d (length out0) (length out1) z).above in
        record {
          dealer_at = (refl, (I.dealer_at.1, subst (λ i. i < d.number) I.dealer_at.0 above));
          box_at = each_away _ (dealt_away d _);
          lock_at = I.lock_at;
        })
        (all_still _)

    after_call : (c : Call) → AllAt ((step w c).event ∷ h) (step w c).world
    unfolding LockCalls.join BoxCalls.load BoxCalls.mask take_vector BoxCalls.finish drop_set
    after_call (deal d out0 out1) = after_deal d out0 out1
    after_call (deal_by_clock k out0 out1) =
        by_clock w k out0 out1 (λ x. AllAt (x.event ∷ h) x.world) (after_deal (deal_at k) out0 out1) all_still
    after_call (load b x) = on_box_lem b _ _ _ (own_load _) (box_loaded b h (w.box b) (I.box_at b) x)
    after_call (trial b x) = after_trial b x
    after_call (mask b v out) =
        on_box_lem b _ _ _ (own_sent _ _) (box_masked b h (w.box b) (I.box_at b) v _ (length out))
    after_call (take b m) =
        on_box_lem b _ _ _ (own_sent _ _) (box_worded b h (w.box b) (I.box_at b) m.label m.name m.content _ _)
    after_call (finish b m) =
        on_box_lem b _ _ _ (own_sent _ _) (box_answered b h (w.box b) (I.box_at b) m.label m.name _)
    after_call (drop b) = on_box_lem b _ _ _ own_drop (box_dropped b h (w.box b) (I.box_at b))
    after_call (join m n) =
        either (λ x s. AllAt (x ∷ h) (record { dealer = w.dealer; box = w.box; lock = s })) _ _ _ w.lock
        (λ z. let tells = join_tells w.lock m.label m.name m.content n.label n.name n.content z in
        record {
          dealer_at = I.dealer_at;
          box_at = each_away _ (joined_away _ _);
          lock_at = (refl, (I.lock_at.1, subst (λ i. i < m.label.number) I.lock_at.0 tells.above));
        })
        (all_still _)

  all_kept : Started S → (cs : List Call) → AllAt (history S cs) (after (beginning S) cs)
  all_kept f [] = all_start f
  all_kept f (c ∷ cs) = after_call (history S cs) (after (beginning S) cs) (all_kept f cs) c

-- ---- what that tells

drops_not : (p : Party) → p.check.phase ≡ 0 → why_not_drop p ≡ 3
unfolding why_not_drop unless
drops_not p e = rw (eq-eqb p.check.phase 0 e) refl

-- a call that comes at a later phase
not_yet : (k : ℕ) (p : Party) (rest : ℕ) → p.check.phase ≡ 0 → unless (in_turn (suc k) p) out_of_turn rest ≡ out_of_turn
unfolding in_turn unless
not_yet k p rest e = rw (ne_eqb p.check.phase (suc k) (λ q. omega (arith, e, q))) refl

no_turns : (w : World) (b : Box) → (w.box b).check.phase ≡ 0 → NoTurn w b
unfolding BoxCalls.mask take_vector BoxCalls.finish why_not_mask why_not_take why_not_finish BoxCalls.why_not_message
    if_taken
no_turns w b e =
    record {
      no_mask = λ v out. rw (not_yet 0 (w.box b) _ e) refl;
      no_take = λ m. rw (not_yet 1 (w.box b) _ e) refl;
      no_finish = λ m. rw (not_yet 2 (w.box b) _ e) refl;
    }

pub numbers_kept : NumbersKept
unfolding NumbersKept drop_set BoxCalls.load if_taken
numbers_kept s f cs =
    let h = history s cs in
    let w = after (beginning s) cs in
    let I = all_kept s f cs in
    record {
      dealer_last = I.dealer_at.0;
      box_last = λ b. ap (λ (p : Party). p.last) (I.box_at b).2;
      lock_last = I.lock_at.0;
      deals_rise = I.dealer_at.1;
      loads_rise = λ b. (I.box_at b).1.rise;
      joins_rise = I.lock_at.1;
      few_open = λ b. omega (arith, (I.box_at b).1.few, (I.box_at b).1.counted.count);
      none_open = λ b. (idle_none s b h (w.box b) (I.box_at b), none_idle s b h (w.box b) (I.box_at b));
      drop_taken = λ b l. rw (drops s b h (w.box b) (I.box_at b) l) refl;
      drop_refused = λ b e. rw (drops_not (w.box b) (none_idle s b h (w.box b) (I.box_at b) e)) refl;
      no_turn = λ b e. no_turns w b (none_idle s b h (w.box b) (I.box_at b) e);
      no_load = λ b two x. rw (full s b h (w.box b) (I.box_at b) two x) refl;
      spent_load = λ b few x whole low. rw (spent s b h (w.box b) (I.box_at b) few x whole low) refl;
      held_count = λ b. let k = (I.box_at b).1.counted in
          ap length (sym k.held_is) ∙ length-map (I.box_at b).0 number_of ∙ k.count;
      held_are = λ b. numbers s b h (w.box b) (I.box_at b);
      no_reuse = λ b n. let k = (I.box_at b).1.counted in ((k.vectors_once n).few, (k.words_once n).few);
    }
