-- What makes a call accepted: for each call, over any state and anything handed in, the facts from which its tests
-- refuse nothing. Assumes nothing.
use mathlib.Core.Path.{◌≡◌, refl}
use mathlib.Core.Bool.{true, false}
use mathlib.Core.List.{List}
use Prim.Native.Nat.{ℕ, ◌-◌, ◌<◌, ◌≤◌}
use native.Mathlib.Omega.{arith}
use borrow.Author.Tests.{le-leb, lt-ltb, eq-eqb, ne_eqb}
use lib.Dec.{eqb}
use lib.ListN.{length}
use Rattle.base_algebra.specs.Word.{add}
use Rattle.base_words.specs.List.{same_refl}
use Rattle.measure_table.specs.Measure.{is_code, length_fits, all_in_range, rule_fits, in_order}
use Rattle.measure_table.specs.Laws.{length_fits_lem}
use Rattle.base_messages.specs.declared.Label.{Label}
use Rattle.base_messages.specs.Messages.{is_key, unless, is_name, expected}
use Rattle.half_seal.specs.Half.{why_not}
use Rattle.call_dealer.specs.declared.Dealer.{Dealer}
use Rattle.half_deal.specs.Dealing.{Deal}
use Rattle.call_dealer.specs.Dealer.{half_size, why_not_deal}
use Rattle.call_party.specs.declared.Party.{Party}
use Rattle.base_messages.specs.declared.Identity.{Identity}
use Rattle.half_content.specs.declared.Set.{Set}
use Rattle.half_content.specs.Content.{no_set}
use Rattle.call_party.specs.Party.{idle, no_check, waiting_fits}
use Rattle.call_party.specs.Party.{state_fits, sound, in_turn, why_not_load, why_not_mask, why_not_message}
use Rattle.call_party.specs.Party.{why_not_take}
use Rattle.call_party.specs.Party.{why_not_finish, why_not_drop}
use Rattle.call_party.specs.Laws.{water_of}
use Rattle.call_lock.specs.declared.Lock.{Lock}
use Rattle.call_lock.specs.Lock.{why_not_join}
use Rattle.door_lists.proofs.Accepted.{Heard}

-- ---- the dealer

pub deal_goes : (s : Dealer) (d : Deal) (room0 room1 : ℕ) → is_code d.terms.code ≡ true → length d.seed ≡ 32
    → length_fits d.terms ≡ true → half_size d.terms.n ≤ room0
    → half_size d.terms.n ≤ room1 → s.last < d.number → rule_fits d.terms d.rule ≡ true
    → in_order d.rule ≡ true
    → why_not_deal s d room0 room1 ≡ 0
unfolding why_not_deal is_key unless
deal_goes s d room0 room1 code seed long room_0 room_1 above rule ordered =
    rw (
      code,
      eq-eqb (length d.seed) 32 seed,
      long,
      le-leb (half_size d.terms.n) room0 room_0,
      le-leb (half_size d.terms.n) room1 room_1,
      lt-ltb s.last d.number above,
      rule,
      ordered,
    )
    refl

-- ---- a message that a call takes

pub expects : (kind sender number : ℕ) (door : List ℕ) (l : Label) (name : List ℕ)
    → Heard kind sender number door l name → expected kind door sender l name ≡ true
unfolding expected
expects kind sender number door l name h =
    rw (h.name_is, eq-eqb l.kind kind h.kind_is, eq-eqb l.sender sender h.sender_is, same_refl door) refl

pub door_long : (kind sender number : ℕ) (door : List ℕ) (l : Label) (name : List ℕ)
    → Heard kind sender number door l name → length door ≡ 16 → is_name name ≡ true
unfolding is_name
door_long kind sender number door l name h e = rw h.name_is (eq-eqb (length door) 16 e)

-- ---- a box: its turn, with no set open and at a later phase

pub idle_sound : (who : Identity) (last : ℕ) → who.party ≤ 1 → sound (idle who last) ≡ true
unfolding sound state_fits waiting_fits idle no_check no_set
idle_sound who last p = rw (le-leb who.party 1 p) refl

-- what 01's third refusal asks of a state with a set open
pub record OpenAt (k : ℕ) (s : Party) : Type 0 where
  pub phase_is : s.check.phase ≡ k
  pub some_phase : 1 ≤ k
  pub last_phase : k ≤ 3
  pub party_fits : s.who.party ≤ 1
  pub code_fits : is_code s.check.set.terms.code ≡ true
  pub length_fits_lem : length_fits s.check.set.terms ≡ true
  pub waiting_fits_lem : waiting_fits k s.check.set.number s.waiting.number s.waiting.terms ≡ true

-- .. and of what waits behind an open set of number n
abbrev pub Behind : ℕ → Set → Type 0
Behind n s = (k : ℕ) → 1 ≤ k → waiting_fits k n s.number s.terms ≡ true

pub none_behind : (n : ℕ) → Behind n no_set
unfolding waiting_fits no_set
none_behind n k some = refl

pub one_behind : (n : ℕ) (s : Set) → n < s.number → is_code s.terms.code ≡ true → length_fits s.terms ≡ true
    → Behind n s
unfolding waiting_fits
one_behind n s above code long k some =
    rw (
      ne_eqb s.terms.n 0 (λ e. omega (arith, e, (length_fits_lem s.terms long).0)),
      ne_eqb k 0 (λ e. omega (arith, e, some)),
      lt-ltb n s.number above,
      code,
      long,
    )
    refl

some_open : (k : ℕ) (s : Party) → OpenAt k s → eqb s.check.phase 0 ≡ false
some_open k s o = ne_eqb s.check.phase 0 (λ e. omega (arith, o.phase_is, o.some_phase))

fits_at : (k : ℕ) (s : Party) → OpenAt k s
    → waiting_fits s.check.phase s.check.set.number s.waiting.number s.waiting.terms ≡ true
fits_at k s o = rw o.phase_is o.waiting_fits_lem

pub open_sound : (k : ℕ) (s : Party) → OpenAt k s → sound s ≡ true
unfolding sound state_fits
open_sound k s o =
    rw (
      some_open k s o,
      le-leb s.who.party 1 o.party_fits,
      le-leb s.check.phase 3 (omega (arith, o.phase_is, o.last_phase)),
      o.code_fits,
      o.length_fits_lem,
      fits_at k s o,
    )
    refl

open_turn : (k : ℕ) (s : Party) → OpenAt k s → in_turn k s ≡ true
unfolding in_turn
open_turn k s o = rw (eq-eqb s.check.phase k o.phase_is, open_sound k s o) refl

-- its calls

pub load_goes : (s : Party) (h : List ℕ) → s.waiting.terms.n ≡ 0 → sound s ≡ true
    → why_not s.who.key s.who.name s.who.party (water_of s) h ≡ 0
    → why_not_load s h ≡ 0
unfolding why_not_load unless
load_goes s h n k f = rw (eq-eqb s.waiting.terms.n 0 n, k) f

pub mask_goes : (s : Party) (v : List ℕ) (room : ℕ) → OpenAt 1 s → length v ≡ s.check.set.terms.n
    → s.check.set.terms.n ≤ room → all_in_range s.check.set.terms v ≡ true → why_not_mask s v room ≡ 0
unfolding why_not_mask unless
mask_goes s v room o l r f =
    rw (open_turn 1 s o, eq-eqb (length v) s.check.set.terms.n l, le-leb s.check.set.terms.n room r, f) refl

pub take_goes : (s : Party) (l : Label) (name v : List ℕ) → OpenAt 2 s
    → length s.who.name ≡ 16 → length v ≡ s.check.set.terms.n
    → Heard 0 (1 - s.who.party) s.check.set.number s.who.name l name → why_not_take s l name v ≡ 0
unfolding why_not_take why_not_message unless
take_goes s l name v o n e h =
    rw (
      open_turn 2 s o,
      door_long _ _ _ _ _ _ h n,
      eq-eqb (length v) s.check.set.terms.n e,
      expects _ _ _ _ _ _ h,
      eq-eqb l.number s.check.set.number h.number_is,
    )
    refl

pub finish_goes : (s : Party) (l : Label) (name : List ℕ) → OpenAt 3 s → length s.who.name ≡ 16
    → Heard 1 (1 - s.who.party) s.check.set.number s.who.name l name
    → why_not_finish s l name ≡ 0
unfolding why_not_finish why_not_message unless
finish_goes s l name o n h =
    rw (
      open_turn 3 s o,
      door_long _ _ _ _ _ _ h n,
      expects _ _ _ _ _ _ h,
      eq-eqb l.number s.check.set.number h.number_is,
    ) refl

pub drop_goes : (k : ℕ) (s : Party) → OpenAt k s → why_not_drop s ≡ 0
unfolding why_not_drop unless
drop_goes k s o = rw (some_open k s o, open_sound k s o) refl

-- ---- the lock

pub join_goes : (s : Lock) (l0 : Label) (name0 : List ℕ) (answer0 : ℕ) (l1 : Label) (name1 : List ℕ) (answer1 : ℕ)
    → length s.name ≡ 16
    → Heard 2 0 l0.number s.name l0 name0 → Heard 2 1 l0.number s.name l1 name1
    → s.last < l0.number → add answer0 answer1 ≤ 1
    → why_not_join s l0 name0 answer0 l1 name1 answer1 ≡ 0
unfolding why_not_join unless
join_goes s l0 name0 answer0 l1 name1 answer1 n h0 h1 above sum =
    rw (
      door_long _ _ _ _ _ _ h0 n,
      door_long _ _ _ _ _ _ h1 n,
      expects _ _ _ _ _ _ h0,
      expects _ _ _ _ _ _ h1,
      lt-ltb s.last l0.number above,
      eq-eqb l1.number l0.number h1.number_is,
      le-leb (add answer0 answer1) 1 sum,
    )
    refl
