-- The invariant of a door's list of calls: its events are right, each part's state is what they say, and each box's
-- sets stand in its state. Assumes nothing.
use mathlib.Core.Path.{◌≡◌, refl, ap, ◌∙◌, fun_ext}
use mathlib.Core.Bool.{true}
use mathlib.Core.List.{List, [], ◌∷◌, ◌++◌}
use Prim.Native.Nat.{ℕ, ◌*◌, ◌-◌, ◌<◌, ◌≤◌}
use native.Mathlib.Omega.{arith}
use borrow.Author.Tests.{ne_eqb}
use lib.ListN.{length, replicate, length-append, length-replicate}
use Rattle.measure_table.specs.Measure.{is_code, length_fits}
use Rattle.measure_table.specs.Laws.{length_fits_lem}
use Rattle.base_messages.specs.Messages.{padded}
use Rattle.half_content.specs.declared.Set.{Set}
use Rattle.half_content.specs.Content.{block_count, no_set}
use Rattle.half_seal.specs.Claims.{length_half}
use Rattle.call_dealer.specs.declared.Dealer.{Dealer}
use Rattle.half_deal.specs.Dealing.{Deal}
use Rattle.call_dealer.specs.Dealer.{start_dealer, why_not_deal, half_size, half_for, key_of}
use Rattle.base_messages.specs.declared.Identity.{Identity}
use Rattle.call_party.specs.declared.Check.{Check}
use Rattle.call_party.specs.declared.Party.{Party}
use Rattle.call_party.specs.Party.{no_check, idle, start_party, opened, loaded, next_check, closed}
use Rattle.call_lock.specs.declared.Lock.{Lock}
use Rattle.call_lock.specs.Lock.{start_lock}
use Rattle.door_lists.specs.Lists.{Box, camera, office, party_of, World, Starts, Started, beginning, written}
use Rattle.door_lists.specs.Lists.{Event, dealt}
use Rattle.door_lists.specs.Demand.{deals, vectors, last_dealt, last_loaded, last_joined}
use Rattle.door_lists.proofs.Accepted.{lock_tells}
use Rattle.door_lists.proofs.Boxes.{party_fits}
use Rattle.door_lists.proofs.Goes.{OpenAt, Behind, none_behind, one_behind}
use Rattle.door_lists.proofs.Dealt.{set_of, set_terms, set_n, set_proper, Sound}
use Rattle.door_lists.proofs.Once.{All, Once, once_none, unique}
use Rattle.door_lists.proofs.History.{door, half_of, Good, Dealt, Vector, look, in_deals, in_vectors}
use Rattle.door_lists.proofs.Slots.{Slot, fresh, masked, worded, set_in, SlotOk, Rising, Counted, Slots, all_load}
use Rattle.door_lists.proofs.Written.{new, written_is}

-- ---- how a box's state shows its sets: none, one at its phase, or such a one and a fresh one that waits

abbrev pub phase_of : Slot → ℕ
phase_of (fresh s) = 1
phase_of (masked s m o) = 2
phase_of (worded s m o w) = 3

abbrev pub array_in : Slot → List ℕ
array_in (fresh s) = replicate 512 0
array_in (masked s m o) = m
array_in (worded s m o w) = m

abbrev pub own_in : Slot → ℕ
own_in (fresh s) = 0
own_in (masked s m o) = o
own_in (worded s m o w) = o

abbrev pub word_in : Slot → ℕ
word_in (fresh s) = 0
word_in (masked s m o) = 0
word_in (worded s m o w) = w

-- the check of a box that holds it
abbrev pub check_of : Slot → Check
check_of t = record { phase = phase_of t; set = set_in t; masked = array_in t; own = own_in t; word = word_in t }

-- the check of a box with these sets, and the set that waits behind the open one
abbrev pub check_in : List Slot → Check
check_in [] = no_check
check_in (t ∷ ts) = check_of t

abbrev pub first_in : List Slot → Set
first_in [] = no_set
first_in (t ∷ ts) = set_in t

abbrev pub waiting_in : List Slot → Set
waiting_in [] = no_set
waiting_in (t ∷ ts) = first_in ts

abbrev pub Fresh : Slot → Type 0
Fresh (fresh s) = Unit {0}
Fresh (masked s m o) = ⊥
Fresh (worded s m o w) = ⊥

-- nothing is sent under a set that waits
abbrev pub FreshBehind : List Slot → Type 0
FreshBehind [] = Unit {0}
FreshBehind (t ∷ ts) = All Fresh ts

pub behind_next : (ts : List Slot) → All Fresh ts → FreshBehind ts
behind_next [] fr = tt
behind_next (t ∷ ts) fr = fr.1

pub behind_load : (s : Set) (ts : List Slot) → FreshBehind ts → FreshBehind (ts ++ (fresh s ∷ []))
behind_load s [] fr = tt
behind_load s (t ∷ ts) fr = all_load Fresh (fresh s) ts fr tt

abbrev pub Long : Slot → Type 0
Long t = 1 ≤ (set_in t).terms.n

-- a set that a load leaves
abbrev pub Fitting : Slot → Type 0
Fitting t = (is_code (set_in t).terms.code ≡ true) × (length_fits (set_in t).terms ≡ true)

pub fitting_long : (ts : List Slot) → All Fitting ts → All Long ts
fitting_long [] f = tt
fitting_long (t ∷ ts) f = ((length_fits_lem (set_in t).terms f.0.1).0, fitting_long ts f.1)

pub slot_phase : (t : Slot) → (1 ≤ phase_of t) × (phase_of t ≤ 3)
slot_phase (fresh s) = (omega arith, omega arith)
slot_phase (masked s m o) = (omega arith, omega arith)
slot_phase (worded s m o w) = (omega arith, omega arith)

behind_fits : (n last : ℕ) (ts : List Slot) → All Fitting ts → Rising n last ts → Behind n (first_in ts)
behind_fits n last [] f r = none_behind n
behind_fits n last (t ∷ ts) f r = one_behind n (set_in t) r.0 f.0.0 f.0.1

next_is : (s : Set) → 1 ≤ s.terms.n → next_check s ≡ opened s
unfolding next_check
next_is s l = rw (ne_eqb s.terms.n 0 (λ e. omega (arith, l, e))) refl

module _ (S : Starts) where
  abbrev pub who_at : Box → Identity
  who_at b = record { name = door S; party = party_of b; key = S.key b }

  abbrev pub showing : Box → ℕ → List Slot → Party
  showing b last ts = record { who = who_at b; last = last; check = check_in ts; waiting = waiting_in ts }

  -- call 4 and drop: the waiting set becomes the open one
  pub closing : (b : Box) (last : ℕ) (t : Slot) (ts : List Slot) → length (t ∷ ts) ≤ 2 → All Fresh ts → All Long ts
      → closed (showing b last (t ∷ ts)) ≡ showing b last ts
  unfolding closed next_check no_set opened
  closing b last t [] few fr k = refl
  closing b last t (fresh s ∷ []) few fr k =
      ap (λ (c : Check). record { who = who_at b; last = last; check = c; waiting = no_set }) (next_is s k.0)
  closing b last t (masked s m o ∷ []) few fr k = absurd fr.0
  closing b last t (worded s m o w ∷ []) few fr k = absurd fr.0
  closing b last t (u ∷ r ∷ ts) few fr k = absurd (omega (arith, few))

  -- sets that were dealt are such
  slot_set : (h : List Event) (b : Box) (t : Slot) → SlotOk h b t
      → (u : Dealt h (set_in t).number) × (set_in t ≡ set_of u.d b)
  slot_set h b (fresh s) k = (k.0, k.1)
  slot_set h b (masked s m o) k = (k.0, k.1)
  slot_set h b (worded s m o w) k = (k.0, k.1)

  pub slots_fit : (h : List Event) → Good S h → (b : Box) (ts : List Slot) → All (SlotOk h b) ts → All Fitting ts
  slots_fit h good b [] k = tt
  slots_fit h good b (t ∷ ts) k =
      let (u, e) = slot_set h b t k.0 in
      let D : Sound u.d = (look S h (dealt u.d u.f) good u.was).0 in (
        (rw (e, set_terms u.d b) D.code_fits, rw (e, set_terms u.d b) D.length_fits_lem),
        slots_fit h good b ts k.1,
      )

  -- with such sets, whose numbers rise, a box stands as 01's third refusal asks
  pub opened_at_lem : (b : Box) (low last : ℕ) (t : Slot) (ts : List Slot) → All Fitting (t ∷ ts)
      → Rising low last (t ∷ ts) → OpenAt (phase_of t) (showing b last (t ∷ ts))
  opened_at_lem b low last t ts f r =
      record {
        phase_is = refl;
        some_phase = (slot_phase t).0;
        last_phase = (slot_phase t).1;
        party_fits = party_fits b;
        code_fits = f.0.0;
        length_fits_lem = f.0.1;
        waiting_fits_lem = behind_fits (set_in t).number last ts f.1 r.1 (phase_of t) (slot_phase t).0;
      }

  -- with a set waiting a load is not taken
  pub not_both : (b : Box) (last : ℕ) (ts : List Slot) → All Fitting ts → (showing b last ts).waiting.terms.n ≡ 0
      → length ts ≤ 1
  not_both b last [] f e = omega arith
  not_both b last (t ∷ []) f e = omega arith
  not_both b last (t ∷ u ∷ ts) f e = absurd (omega (arith, (length_fits_lem (set_in u).terms f.1.0.1).0, e))

  -- a load puts its set behind the open one
  pub loads : (b : Box) (last : ℕ) (s : Set) (ts : List Slot) → length ts ≤ 1
      → loaded (showing b last ts) s ≡ showing b s.number (ts ++ (fresh s ∷ []))
  unfolding no_check loaded opened
  loads b last s [] few = refl
  loads b last s (fresh t ∷ []) few = refl
  loads b last s (masked t m o ∷ []) few = refl
  loads b last s (worded t m o u ∷ []) few = refl
  loads b last s (t ∷ u ∷ ts) few = absurd (omega (arith, few))

  abbrev pub last_at : Box → List Event → ℕ
  last_at b h = last_loaded (S.box_floor b) b h

  pub record BoxIs (h : List Event) (b : Box) (s : Party) : Type 0 where
    pub slots : List Slot
    pub few : length slots ≤ 2
    pub behind : FreshBehind slots
    pub shows : s ≡ showing b (last_at b h) slots
    pub ok : Slots h b (last_at b h) slots

  abbrev pub dealer_with : ℕ → Dealer
  dealer_with last = record { name = door S; key0 = S.key camera; key1 = S.key office; last = last }

  abbrev pub lock_with : ℕ → Lock
  lock_with last = record { name = door S; last = last }

  pub record Inv (h : List Event) (w : World) : Type 0 where
    pub good : Good S h
    pub deals_once : (n : ℕ) → Once (deals n h) (last_dealt S.dealer_floor h < n)
    pub dealer_is : w.dealer ≡ dealer_with (last_dealt S.dealer_floor h)
    pub box_is : (b : Box) → BoxIs h b (w.box b)
    pub lock_is : w.lock ≡ lock_with (last_joined S.lock_floor h)

  -- ---- it holds at the beginning

  pub door_long : Started S → length (door S) ≡ 16
  unfolding padded start_lock
  door_long f =
      let t = lock_tells S.name f.lock_taken in
      omega (
        arith,
        t,
        length-append S.name (replicate (16 - length S.name) 0),
        length-replicate {A = ℕ} (16 - length S.name) 0,
      )

  pub none_yet : (b : Box) → Counted [] b (S.box_floor b) []
  none_yet b =
      record {
        low = S.box_floor b;
        rising = omega arith;
        count = refl;
        held_is = refl;
        vectors_once = λ n. once_none;
        words_once = λ n. once_none;
      }

  pub starts : Started S → Inv [] (beginning S)
  unfolding start_dealer start_party start_lock idle
  starts f =
      record {
        good = tt;
        deals_once = λ n. once_none;
        dealer_is = new _ _ _ f.dealer_taken;
        box_is = λ b. record {
          slots = [];
          few = omega arith;
          behind = tt;
          shows = new _ _ _ (f.box_taken b);
          ok = record {
            holds = tt;
            counted = none_yet b;
          };
        };
        lock_is = new _ _ _ f.lock_taken;
      }

  -- ---- what an accepted deal leaves and writes

  abbrev pub dealt_by : Deal → Dealer → Dealer
  dealt_by d s = record { name = s.name; key0 = s.key0; key1 = s.key1; last = d.number }

  half_is : (s : Dealer) (last : ℕ) → s ≡ dealer_with last → (d : Deal) (b : Box)
      → half_for s d (party_of b) ≡ half_of S d b
  unfolding half_for key_of
  half_is s last e d camera = ap (λ z. half_for z d 0) e
  half_is s last e d office = ap (λ z. half_for z d 1) e

  pub wrote : length (door S) ≡ 16 → (s : Dealer) (last : ℕ)
      → s ≡ dealer_with last → (d : Deal) → Sound d → (out0 out1 : List ℕ)
      → why_not_deal s d (length out0) (length out1) ≡ 0 → (b : Box) → written s d out0 out1 b ≡ half_of S d b
  unfolding half_size
  wrote long s last e d k out0 out1 z b =
      let size : length (half_for s d (party_of b)) ≡ 512 * block_count d.terms.n = ap length (half_is s last e d b)
      ∙ length_half (S.key b) (door S) (party_of b) long (set_of d b) (set_proper d b k)
      ∙ ap (λ n. 512 * block_count n) (set_n d b) in
      written_is s d out0 out1 b z size ∙ half_is s last e d b

  -- ---- one deal of a number, one vector of a box under it

  module _ (h : List Event) (w : World) (I : Inv h w) where
    pub one_deal : (n : ℕ) (t u : Dealt h n) → t.d ≡ u.d
    one_deal n t u = unique (deals n h) (I.deals_once n).few (in_deals h n t) (in_deals h n u)

    pub one_vector : (b : Box) (n : ℕ) (x y : List ℕ) → Vector h b n x → Vector h b n y → x ≡ y
    one_vector b n x y i j =
        unique (vectors b n h) ((I.box_is b).ok.counted.vectors_once n).few
        (in_vectors h b n x i) (in_vectors h b n y j)

    pub one_pair : (n : ℕ) (v u : Box → List ℕ) → ((b : Box) → Vector h b n (v b)) → ((b : Box) → Vector h b n (u b))
        → v ≡ u
    one_pair n v u i j = fun_ext (λ b. one_vector b n (v b) (u b) (i b) (j b))
