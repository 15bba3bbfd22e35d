-- The dealer's start and deal from their tests, each of which returns its number at once, lowest first, and from what
-- an accepted call makes. Assumes nothing.
use mathlib.Core.Path.{◌≡◌, refl, sym, ap, ap₂, subst, ◌∙◌}
use mathlib.Core.Bool.{Bool, true, false, not, ◌&&◌}
use mathlib.Core.List.{List}
use Prim.Native.Nat.{ℕ, ◌*◌, ◌^◌, ◌<◌, ◌≤◌}
use native.Mathlib.Omega.{arith}
use lib.Dec.{eqb, leb, ltb}
use lib.ListN.{length}
use Rattle.base_algebra.specs.Bit.{both, neither}
use Rattle.base_words.specs.List.{over, same}
use Rattle.measure_table.specs.Measure.{most_elements, is_code, length_fits, rule_fits, in_order}
use Rattle.measure_table.specs.Laws.{length_fits_lem}
use Rattle.measure_table.specs.declared.Terms.{Terms}
use Rattle.measure_table.specs.declared.Rule.TheVariants.{Threshold}
use Rattle.base_messages.specs.Messages.{bad_party_or_code, wrong_length, short_buffer, wrong_number, out_of_range}
use Rattle.base_messages.specs.Messages.{bad_marks, unless, name_fits, padded, is_key}
use Rattle.base_messages.specs.Laws.{unless_false, unless_true, taken, refused}
use Rattle.half_content.specs.declared.Set.{Set}
use Rattle.half_content.specs.Content.{block_bytes, block_count, Proper}
use Rattle.half_content.proofs.Laws.{blocks_bounds}
use Rattle.half_deal.specs.Dealing.{Deal, deal_from, set_from, dealt_set}
use Rattle.half_seal.specs.Half.{half}
use Rattle.call_dealer.specs.Dealer.{no_dealer, why_not_dealer, start_dealer, half_size, why_not_deal, key_of, half_for}
use Rattle.call_dealer.specs.Dealer.{deal, deal_out}
use Rattle.call_dealer.specs.Laws.{DealTells, dealt_proper, BeforeMarks}
use Rattle.call_dealer.specs.declared.Dealer.{Dealer}
use Rattle.call_dealer.specs.declared.DealerAnswer.{DealerAnswer}

alike : {w w' : ℕ} {s s' : Dealer} → w ≡ w' → s ≡ s'
    → ◌≡◌ {A = DealerAnswer} (record { why = w; dealer = s }) (record { why = w'; dealer = s' })
alike p q = λ i. record { why = p i; dealer = q i }

-- the code found no reason to refuse
pub none : {found why : ℕ} → found ≡ why → found ≡ 0 → why ≡ 0
none e h = sym e ∙ h

-- ---- start

module _ (name key0 key1 : List ℕ) where
  module _ (fits : Bool) (ef : fits ≡ name_fits name) where
    pub bad_name_lem : fits ≡ false → 1 ≡ why_not_dealer name key0 key1
    unfolding why_not_dealer
    bad_name_lem h = unless_false _ _ _ (sym ef ∙ h)

    module _ (named : fits ≡ true) where
      past_name : {r : ℕ} → r ≡ unless (is_key key0 && is_key key1) 4 (unless (not (same key0 key1)) 9 0)
          → r ≡ why_not_dealer name key0 key1
      unfolding why_not_dealer
      past_name h = unless_true _ _ _ (sym ef ∙ named) h

      pub bad_key : eqb (length key0) 32 && eqb (length key1) 32 ≡ false → 4 ≡ why_not_dealer name key0 key1
      unfolding is_key
      bad_key h = past_name (unless_false _ _ _ h)

      module _ (long : eqb (length key0) 32 && eqb (length key1) 32 ≡ true)
          (one : Bool) (eo : one ≡ same key0 key1) where
        past_keys : {r : ℕ} → r ≡ unless (not (same key0 key1)) 9 0 → r ≡ why_not_dealer name key0 key1
        unfolding is_key
        past_keys h = past_name (unless_true _ _ _ long h)

        pub one_key : one ≡ true → 9 ≡ why_not_dealer name key0 key1
        one_key h = past_keys (unless_false _ _ _ (ap not (sym eo ∙ h)))

        pub start_taken : one ≡ false → 0 ≡ why_not_dealer name key0 key1
        start_taken h = past_keys (unless_true _ _ _ (ap not (sym eo ∙ h)) refl)

  module _ (floor why : ℕ) (e : why ≡ why_not_dealer name key0 key1) where
    pub start_refused : (why ≡ 0 → ⊥) → record { why = why; dealer = no_dealer } ≡ start_dealer name key0 key1 floor
    unfolding start_dealer
    start_refused h = alike e (refused _ _ e h)

    pub started : (p k0 k1 : List ℕ) → why ≡ 0 → p ≡ padded name → k0 ≡ key0 → k1 ≡ key1
        → record { why = why; dealer = record { name = p; key0 = k0; key1 = k1; last = floor } }
        ≡ start_dealer name key0 key1 floor
    unfolding start_dealer
    started p k0 k1 h ep e0 e1 =
        alike e ((λ i. record { name = ep i; key0 = e0 i; key1 = e1 i; last = floor }) ∙ taken _ _ e h)

-- ---- why a deal is turned down

-- a length that has been tested, and its blocks
pub short : (long : ℕ) (terms : Terms) (fits : Bool) → fits ≡ length_fits terms → eqb long 32 && fits ≡ true
    → (1 ≤ terms.n) × (terms.n ≤ most_elements)
short long terms fits ef h = length_fits_lem terms (sym ef ∙ (both (eqb long 32) fits h).1)

pub few : (long : ℕ) (terms : Terms) (fits : Bool) → fits ≡ length_fits terms → eqb long 32 && fits ≡ true
    → (k : ℕ) → k ≡ block_count terms.n → k ≤ 16
few long terms fits ef h k e =
    let fits = short long terms fits ef h in
    omega (arith, e, (blocks_bounds terms.n fits.0 fits.1).1)

-- for any dealer with this last number, and any seed of this length
module _ {last long : ℕ} (s : Dealer) (d : Deal) (el : s.last ≡ last) (es : length d.seed ≡ long)
    (room0 room1 : ℕ) (known : Bool) (ek : known ≡ is_code d.terms.code) where
  -- what is tested of the rule
  abbrev by_rule : ℕ
  by_rule = unless (rule_fits d.terms d.rule) out_of_range (unless (in_order d.rule) bad_marks 0)

  pub unknown_code : known ≡ false → bad_party_or_code ≡ why_not_deal s d room0 room1
  unfolding why_not_deal
  unknown_code h = unless_false _ _ _ (sym ek ∙ h)

  module _ (coded : known ≡ true) (fitting : Bool) (ef : fitting ≡ length_fits d.terms) where
    past_code : {r : ℕ}
        → r
        ≡ unless (is_key d.seed && length_fits d.terms) wrong_length
        (unless (leb (half_size d.terms.n) room0 && leb (half_size d.terms.n) room1) short_buffer
        (unless (ltb s.last d.number) wrong_number by_rule))
        → r ≡ why_not_deal s d room0 room1
    unfolding why_not_deal
    past_code h = unless_true _ _ _ (sym ek ∙ coded) h

    lengths : {b : Bool} → eqb long 32 && fitting ≡ b → is_key d.seed && length_fits d.terms ≡ b
    unfolding is_key
    lengths h = ap₂ (λ (k : ℕ) (l : Bool). eqb k 32 && l) es (sym ef) ∙ h

    pub bad_length : eqb long 32 && fitting ≡ false → wrong_length ≡ why_not_deal s d room0 room1
    bad_length h = past_code (unless_false _ _ _ (lengths h))

    module _ (fit : eqb long 32 && fitting ≡ true) (k : ℕ) (eb : k ≡ block_count d.terms.n) where
      rooms : {b : Bool} → leb (block_bytes * k) room0 && leb (block_bytes * k) room1 ≡ b
          → leb (half_size d.terms.n) room0 && leb (half_size d.terms.n) room1 ≡ b
      unfolding half_size
      rooms h = ap (λ (m : ℕ). leb (block_bytes * m) room0 && leb (block_bytes * m) room1) (sym eb) ∙ h

      pub no_room : leb (block_bytes * k) room0 && leb (block_bytes * k) room1 ≡ false
          → short_buffer ≡ why_not_deal s d room0 room1
      no_room h = past_code (unless_true _ _ _ (lengths fit) (unless_false _ _ _ (rooms h)))

      module _ (roomy : leb (block_bytes * k) room0 && leb (block_bytes * k) room1 ≡ true) where
        past_rooms : {r : ℕ}
            → r ≡ unless (ltb s.last d.number) wrong_number by_rule
            → r ≡ why_not_deal s d room0 room1
        past_rooms h = past_code (unless_true _ _ _ (lengths fit) (unless_true _ _ _ (rooms roomy) h))

        above : {b : Bool} → ltb last d.number ≡ b → ltb s.last d.number ≡ b
        above h = ap (λ (l : ℕ). ltb l d.number) el ∙ h

        pub stale : ltb last d.number ≡ false → wrong_number ≡ why_not_deal s d room0 room1
        stale h = past_rooms (unless_false _ _ _ (above h))

        module _ (fresh : ltb last d.number ≡ true) (fits : Bool)
            (et : fits ≡ rule_fits d.terms d.rule) where
          past_number : {r : ℕ} → r ≡ by_rule → r ≡ why_not_deal s d room0 room1
          past_number h = past_rooms (unless_true _ _ _ (above fresh) h)

          pub out_of_range_lem : fits ≡ false → out_of_range ≡ why_not_deal s d room0 room1
          out_of_range_lem h = past_number (unless_false _ _ _ (sym et ∙ h))

          module _ (in_range_lem : fits ≡ true) (ordered : Bool) (eo : ordered ≡ in_order d.rule) where
            pub bad_marks_lem : ordered ≡ false → bad_marks ≡ why_not_deal s d room0 room1
            bad_marks_lem h =
                past_number (unless_true _ _ _ (sym et ∙ in_range_lem) (unless_false _ _ _ (sym eo ∙ h)))

            pub deal_taken : ordered ≡ true → 0 ≡ why_not_deal s d room0 room1
            deal_taken h =
                past_number
                (unless_true _ _ _ (sym et ∙ in_range_lem) (unless_true _ _ _ (sym eo ∙ h) refl))

-- ---- the two halves

module _ (s : Dealer) (d : Deal) (room0 room1 : ℕ) (a : DealTells s d room0 room1)
    (party : ℕ) (seed : List ℕ) (es : seed ≡ d.seed) (set : Set)
    (e : set ≡ dealt_set (deal_from d.number seed d.terms d.rule) party) where
  is_dealt : set ≡ dealt_set d party
  is_dealt = e ∙ ap (λ (l : List ℕ). dealt_set (deal_from d.number l d.terms d.rule) party) es

  -- what writing a half asks
  pub half_asks : (room : ℕ) → half_size d.terms.n ≤ room → d.number < 2 ^ 64 → party ≤ 1
      → ((party < 256) × (block_bytes * block_count set.terms.n ≤ room)) × Proper set
  unfolding half_size dealt_set set_from
  half_asks room h number low = (
    (omega arith, rw (ap (λ (t : Set). t.terms.n) e) h),
    subst Proper (sym is_dealt) (dealt_proper s d room0 room1 party a number low),
  )

  pub is_half : (out out' : List ℕ) → out' ≡ over 0 (half (key_of s party) s.name party set) out
      → out' ≡ over 0 (half_for s d party) out
  unfolding half_for
  is_half out out' h = h ∙ ap (λ (t : Set). over 0 (half (key_of s party) s.name party t) out) is_dealt

-- ---- deal

module _ (s : Dealer) (d : Deal) (out0 out1 : List ℕ) (why : ℕ)
    (e : why ≡ why_not_deal s d (length out0) (length out1)) where
  pub deal_refused : (why ≡ 0 → ⊥)
      → (record { why = why; dealer = s } ≡ deal s d (length out0) (length out1))
      × ((out0 ≡ deal_out s d out0 out1 0) × (out1 ≡ deal_out s d out0 out1 1))
  unfolding deal deal_out
  deal_refused h = (alike e (refused _ _ e h), (refused _ _ e h, refused _ _ e h))

  pub dealt : (new0 new1 : List ℕ) → why ≡ 0 → new0 ≡ over 0 (half_for s d 0) out0 → new1 ≡ over 0 (half_for s d 1) out1
      → (record { why = why; dealer = record { name = s.name; key0 = s.key0; key1 = s.key1; last = d.number } }
      ≡ deal s d (length out0) (length out1))
      × ((new0 ≡ deal_out s d out0 out1 0) × (new1 ≡ deal_out s d out0 out1 1))
  unfolding deal deal_out
  dealt new0 new1 h e0 e1 = (alike e (taken _ _ e h), (e0 ∙ taken _ _ e h, e1 ∙ taken _ _ e h))

-- ---- 13, "tested after 8" [SPEC 23.13]

-- a deal is turned down by 13 only where the marks are out of order and all else is as it should be
pub marks_last : (s : Dealer) (d : Deal) (room0 room1 : ℕ) → why_not_deal s d room0 room1 ≡ bad_marks
    → BeforeMarks s d room0 room1 × (in_order d.rule ≡ false)
unfolding why_not_deal unless
marks_last s d room0 room1 =
    told (is_code d.terms.code) (is_key d.seed && length_fits d.terms)
    (leb (half_size d.terms.n) room0 && leb (half_size d.terms.n) room1) (ltb s.last d.number)
    (rule_fits d.terms d.rule) (in_order d.rule)
  where
    told : (code lengths rooms numbers range order : Bool)
        → unless code bad_party_or_code (unless lengths wrong_length (unless rooms short_buffer
        (unless numbers wrong_number (unless range out_of_range (unless order bad_marks 0))))) ≡ bad_marks
        → ((code ≡ true) × (lengths ≡ true) × (rooms ≡ true) × (numbers ≡ true) × (range ≡ true)) × (order ≡ false)
    told false lengths rooms numbers range order e = absurd (omega (arith, e))
    told true false rooms numbers range order e = absurd (omega (arith, e))
    told true true false numbers range order e = absurd (omega (arith, e))
    told true true true false range order e = absurd (omega (arith, e))
    told true true true true false order e = absurd (omega (arith, e))
    told true true true true true true e = absurd (omega (arith, e))
    told true true true true true false e = ((refl, refl, refl, refl, refl), refl)

-- so a deal by a threshold is never turned down by it
pub never_marks : (s : Dealer) (number : ℕ) (seed : List ℕ) (terms : Terms) (t room0 room1 : ℕ)
    → why_not_deal s (deal_from number seed terms (Threshold t)) room0 room1 ≡ bad_marks → ⊥
unfolding in_order
never_marks s number seed terms t room0 room1 e =
    neither (sym (marks_last s (deal_from number seed terms (Threshold t)) room0 room1 e).1)
