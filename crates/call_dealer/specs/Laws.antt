-- What an accepted start and an accepted deal have been tested for, that the set which a deal gives each party is
-- proper, what the set's sign moves of a half (02, §2), and when a deal is turned down by 13 (02, §4). Assumes nothing.
use Rattle.std.specs.Prelude.{◌≡◌, refl, true, false, not, ◌&&◌, List, ℕ, ◌^◌, ◌<◌, ◌≤◌, leb, ltb, length}
use Rattle.std.proofs.Common.{ap, eqb-true, leb-true, ltb-true}
use Rattle.base_algebra.specs.Bit.{both}
use Rattle.base_words.specs.List.{same}
use Rattle.measure_table.specs.declared.Terms.{Terms}
use Rattle.measure_table.specs.declared.Rule.{Rule}
use Rattle.measure_table.specs.Measure.{is_code, length_fits, rule_fits, in_order, width_of, mark_of}
use Rattle.measure_table.specs.Laws.{scalar_sign}
use Rattle.base_messages.specs.Messages.{bad_marks}
use Rattle.base_messages.specs.Messages.{unless, name_fits, is_key}
use Rattle.base_messages.specs.Laws.{passed}
use Rattle.half_content.specs.Content.{Proper}
use Rattle.half_deal.specs.Dealing.{Deal, deal_from, dealt_set}
use Rattle.half_deal.specs.Close.{set_by01}
use Rattle.half_deal.proofs.DealtSet.{proper}
use Rattle.half_deal.proofs.Close.{camera_by_01, plain_by_01, camera_any}
use Rattle.half_seal.specs.Half.{half}
use Rattle.call_dealer.specs.Dealer.{why_not_dealer, half_size, why_not_deal, key_of, half_for}
use Rattle.call_dealer.specs.declared.Dealer.{Dealer}

-- ---- start

pub record StartTells (name key0 key1 : List ℕ) : Type 0 where
  pub name_fits_lem : name_fits name ≡ true
  pub long_0 : length key0 ≡ 32
  pub long_1 : length key1 ≡ 32
  pub unequal : not (same key0 key1) ≡ true

pub start_tells : (name key0 key1 : List ℕ) → why_not_dealer name key0 key1 ≡ 0 → StartTells name key0 key1
unfolding why_not_dealer is_key
start_tells name key0 key1 h =
    let a = passed _ h in
    let b = passed _ a.1 in
    let keys = both _ _ b.0 in
    record {
      name_fits_lem = a.0;
      long_0 = eqb-true _ _ keys.0;
      long_1 = eqb-true _ _ keys.1;
      unequal = (passed _ b.1).0;
    }

-- ---- deal

pub record DealTells (s : Dealer) (d : Deal) (room0 room1 : ℕ) : Type 0 where
  pub code_fits : is_code d.terms.code ≡ true
  pub seeded : length d.seed ≡ 32
  pub length_fits_lem : length_fits d.terms ≡ true
  pub room_0 : half_size d.terms.n ≤ room0
  pub room_1 : half_size d.terms.n ≤ room1
  pub above : s.last < d.number
  pub rule_fits_lem : rule_fits d.terms d.rule ≡ true
  pub in_order_lem : in_order d.rule ≡ true

pub deal_tells : (s : Dealer) (d : Deal) (room0 room1 : ℕ)
    → why_not_deal s d room0 room1 ≡ 0 → DealTells s d room0 room1
unfolding why_not_deal is_key
deal_tells s d room0 room1 h =
    let a = passed _ h in
    let b = passed _ a.1 in
    let c = passed _ b.1 in
    let e = passed _ c.1 in
    let f = passed _ e.1 in
    let lengths = both _ _ b.0 in
    let rooms = both _ _ c.0 in
    record {
      code_fits = a.0;
      seeded = eqb-true _ _ lengths.0;
      length_fits_lem = lengths.1;
      room_0 = leb-true _ _ rooms.0;
      room_1 = leb-true _ _ rooms.1;
      above = ltb-true _ _ e.0;
      rule_fits_lem = f.0;
      in_order_lem = (passed _ f.1).0;
    }

-- what an accepted deal gives each party
pub dealt_proper : (s : Dealer) (d : Deal) (room0 room1 party : ℕ)
    → DealTells s d room0 room1 → d.number < 2 ^ 64 → party ≤ 1
    → Proper (dealt_set d party)
dealt_proper s d room0 room1 party a number low =
    proper d party number a.code_fits a.length_fits_lem a.in_order_lem low

-- ---- what T and the set's sign do to the halves [SPEC 5.8, 5.13]

-- party 0's half is the one with 01's r1, whatever the code, and the same for every T, and for every two marks that are
-- as far apart
pub camera_half : (s : Dealer) (d : Deal) → half_for s d 0 ≡ half (key_of s 0) s.name 0 (set_by01 d 0)
unfolding half_for
camera_half s d = ap (half (key_of s 0) s.name 0) (camera_by_01 d)

pub camera_any_half : (s : Dealer) (number : ℕ) (seed : List ℕ) (terms : Terms) (rule other : Rule)
    → width_of rule ≡ width_of other → mark_of rule ≡ mark_of other
    → half_for s (deal_from number seed terms rule) 0 ≡ half_for s (deal_from number seed terms other) 0
unfolding half_for
camera_any_half s number seed terms rule other ew em =
    ap (half (key_of s 0) s.name 0) (camera_any number seed terms rule other ew em)

-- under code 0 so is party 1's
pub scalar_half : (s : Dealer) (d : Deal) → d.terms.code ≡ 0 → (party : ℕ)
    → half_for s d party ≡ half (key_of s party) s.name party (set_by01 d party)
unfolding half_for
scalar_half s d e party =
    ap (half (key_of s party) s.name party) (plain_by_01 d (scalar_sign d.terms (mark_of d.rule) e) party)

-- ---- 13, "tested after 8" [SPEC 23.13]

-- all that is tested before it, both marks' range included
abbrev pub BeforeMarks : Dealer → Deal → ℕ → ℕ → Type 0
BeforeMarks s d room0 room1 =
    (is_code d.terms.code ≡ true) × (is_key d.seed && length_fits d.terms ≡ true)
    × (leb (half_size d.terms.n) room0 && leb (half_size d.terms.n) room1 ≡ true)
    × (ltb s.last d.number ≡ true) × (rule_fits d.terms d.rule ≡ true)

-- a deal is turned down by 13 where the marks are out of order and all else is as it should be, and only there
-- (`marks_last`, in proofs/Laws.antt)
pub marks_said : (s : Dealer) (d : Deal) (room0 room1 : ℕ) → BeforeMarks s d room0 room1 → in_order d.rule ≡ false
    → why_not_deal s d room0 room1 ≡ bad_marks
unfolding why_not_deal unless
marks_said s d room0 room1 b e = rw (b.0, b.1, b.2, b.3, b.4, e) refl
