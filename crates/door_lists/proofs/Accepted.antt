-- What acceptance tells: for each call, over any state and anything handed in, what its tests say where none refuses.
-- Assumes nothing.
use mathlib.Core.Path.{◌≡◌, refl}
use mathlib.Core.Bool.{Bool, true, not}
use mathlib.Core.List.{List}
use Prim.Native.Nat.{ℕ, ◌-◌, ◌<◌, ◌≤◌}
use borrow.Author.Tests.{leb-true, ltb-true, eqb-true, eqb-false, not-true}
use lib.Dec.{eqb, ltb}
use lib.ListN.{length}
use Rattle.base_algebra.specs.Bit.{both}
use Rattle.base_words.specs.List.{same, same_eq}
use Rattle.measure_table.specs.Measure.{all_in_range}
use Rattle.base_messages.specs.declared.Label.{Label}
use Rattle.base_messages.specs.Laws.{passed, fits_short}
use Rattle.base_messages.specs.Messages.{unless, expected}
use Rattle.call_party.specs.declared.Party.{Party}
use Rattle.call_party.specs.Party.{in_turn, why_not_mask, why_not_message, why_not_take, why_not_finish, why_not_drop}
use Rattle.call_lock.specs.declared.Lock.{Lock}
use Rattle.call_lock.specs.Lock.{why_not_lock, why_not_join}
use Rattle.call_lock.specs.Laws.{accepted}

-- ---- starts

pub lock_tells : (name : List ℕ) → why_not_lock name ≡ 0 → length name ≤ 16
unfolding why_not_lock
lock_tells name e = fits_short name (passed _ e).0

-- ---- a message that a call takes

pub record Heard (kind sender number : ℕ) (door : List ℕ) (l : Label) (name : List ℕ) : Type 0 where
  pub kind_is : l.kind ≡ kind
  pub sender_is : l.sender ≡ sender
  pub number_is : l.number ≡ number
  pub name_is : name ≡ door

pub heard : (kind sender number : ℕ) (door : List ℕ) (l : Label) (name : List ℕ)
    → expected kind door sender l name ≡ true → l.number ≡ number
    → Heard kind sender number door l name
unfolding expected
heard kind sender number door l name e n =
    let t = both (eqb l.kind kind) _ e in
    let u = both (same name door) _ t.1 in
    record {
      kind_is = eqb-true _ _ t.0;
      sender_is = eqb-true _ _ u.1;
      number_is = n;
      name_is = same_eq name door u.0;
    }

-- ---- a box

in_turn_lem : (k : ℕ) (s : Party) → in_turn k s ≡ true → s.check.phase ≡ k
unfolding in_turn
in_turn_lem k s e = eqb-true _ _ (both (eqb s.check.phase k) _ e).0

pub record MaskTells (s : Party) (v : List ℕ) (room : ℕ) : Type 0 where
  pub turn : s.check.phase ≡ 1
  pub long : length v ≡ s.check.set.terms.n
  pub room_fits : s.check.set.terms.n ≤ room
  pub in_range_lem : all_in_range s.check.set.terms v ≡ true

pub mask_tells : (s : Party) (v : List ℕ) (room : ℕ) → why_not_mask s v room ≡ 0 → MaskTells s v room
unfolding why_not_mask
mask_tells s v room e =
    let t = passed _ e in
    let u = passed _ t.1 in
    let w = passed _ u.1 in
    record {
      turn = in_turn_lem 1 s t.0;
      long = eqb-true _ _ u.0;
      room_fits = leb-true _ _ w.0;
      in_range_lem = (passed _ w.1).0;
    }

-- calls 3 and 4: at this phase, a message of this kind
pub record MessageTells (phase kind : ℕ) (s : Party) (l : Label) (name : List ℕ) : Type 0 where
  pub turn : s.check.phase ≡ phase
  pub hears : Heard kind (1 - s.who.party) s.check.set.number s.who.name l name

message_tells : (phase kind : ℕ) (s : Party) (l : Label) (name : List ℕ) (lengths : Bool)
    → unless (in_turn phase s) 3 (unless lengths 4 (unless (expected kind s.who.name (1 - s.who.party) l name) 6
    (unless (eqb l.number s.check.set.number) 7 0))) ≡ 0
    → MessageTells phase kind s l name
message_tells phase kind s l name lengths e =
    let t = passed _ e in
    let u = passed _ (passed _ t.1).1 in
    record {
      turn = in_turn_lem phase s t.0;
      hears = heard kind _ _ s.who.name l name u.0 (eqb-true _ _ (passed _ u.1).0);
    }

pub take_tells : (s : Party) (l : Label) (name v : List ℕ) → why_not_take s l name v ≡ 0 → MessageTells 2 0 s l name
unfolding why_not_take why_not_message
take_tells s l name v e = message_tells 2 0 s l name _ e

pub finish_tells : (s : Party) (l : Label) (name : List ℕ) → why_not_finish s l name ≡ 0 → MessageTells 3 1 s l name
unfolding why_not_finish why_not_message
finish_tells s l name e = message_tells 3 1 s l name _ e

pub drop_tells : (s : Party) → why_not_drop s ≡ 0 → s.check.phase ≡ 0 → ⊥
unfolding why_not_drop
drop_tells s e = eqb-false _ _ (not-true _ (both (not (eqb s.check.phase 0)) _ (passed _ e).0).0)

-- ---- the lock

pub record JoinTells (s : Lock) (l0 : Label) (name0 : List ℕ) (l1 : Label) (name1 : List ℕ) : Type 0 where
  pub hears_0 : Heard 2 0 l0.number s.name l0 name0
  pub hears_1 : Heard 2 1 l0.number s.name l1 name1
  pub above : s.last < l0.number

pub join_tells : (s : Lock) (l0 : Label) (name0 : List ℕ) (answer0 : ℕ) (l1 : Label) (name1 : List ℕ) (answer1 : ℕ)
    → why_not_join s l0 name0 answer0 l1 name1 answer1 ≡ 0 → JoinTells s l0 name0 l1 name1
join_tells s l0 name0 answer0 l1 name1 answer1 e =
    let t = accepted s l0 name0 answer0 l1 name1 answer1 e in
    let m = both (expected 2 s.name 0 l0 name0) _ t.1 in
    let n = both (ltb s.last l0.number) _ t.2 in
    record {
      hears_0 = heard 2 0 _ s.name l0 name0 m.0 refl;
      hears_1 = heard 2 1 _ s.name l1 name1 m.1 (eqb-true _ _ n.1);
      above = ltb-true _ _ n.0;
    }
