-- What examining comes to: its number from the tests, in their order, and its answer from that. Assumes nothing.
use mathlib.Core.Path.{◌≡◌, refl, sym, ap, ap₂, ◌∙◌}
use mathlib.Core.Bool.{Bool, true, false, not, ◌&&◌}
use mathlib.Core.List.{List, ◌++◌}
use Prim.Native.Nat.{ℕ, ◌*◌, ◌/◌, ◌%◌, ◌≤◌}
use native.Mathlib.Omega.{arith}
use borrow.Author.Tests.{not-false, leb-true}
use lib.Dec.{eqb, leb, ltb}
use lib.ListN.{length, take}
use lib.Seq.{take_at, length-take-le}
use Rattle.base_algebra.specs.Bit.{both}
use Rattle.base_messages.specs.Messages.{wrong_length, wrong_number, unless}
use Rattle.base_messages.specs.Laws as Refusals
use Rattle.base_messages.specs.Laws.{turned_down, goes_on, passed}
use Rattle.measure_table.specs.declared.Terms.{Terms}
use Rattle.measure_table.specs.Measure.{most_elements}
use Rattle.half_content.specs.declared.Set.{Set}
use Rattle.half_content.specs.Content.{block_bytes, text_bytes, most_blocks, size, length_in, terms_in, set_in}
use Rattle.half_content.specs.Content.{content_fits}
use Rattle.half_content.specs.Content.{no_set, no_terms, mask_field, widths, sum_first, offset}
use Rattle.half_content.proofs.Laws.{fits_reads}
use Rattle.base_messages.specs.declared.Refusal.{Refusal}
use Rattle.base_messages.specs.declared.Refusal.TheVariants.{BadName, BadPartyOrCode, OutOfTurn, WrongLength}
use Rattle.base_messages.specs.declared.Refusal.TheVariants.{ShortBuffer, WrongMessage, WrongNumber, OutOfRange}
use Rattle.base_messages.specs.declared.Refusal.TheVariants.{EqualKeys, BadBlock, BadContent, BadSum, BadMarks}
use Rattle.base_messages.specs.declared.Refusal.TheVariants.{BadRows, NoRow, MoreRows}
use Rattle.base_messages.specs.Refusals.{number_of}
use Rattle.half_seal.specs.Half.{set_number, first_fit, opened_content, whole_blocks, why_not_opened, why_not}
use Rattle.half_seal.specs.Half.{opened_set}
use Rattle.half_open.specs.Examined.{examined, told}
use Rattle.half_open.proofs.Laws.{length_opened}

-- ---- whole blocks: 10 and 11

module _ (key name h : List ℕ) (party : ℕ) (fits : Bool) (ef : fits ≡ first_fit key h (length h / block_bytes)) where
  pub whole_10 : not fits ≡ true → 10 ≡ why_not_opened key name party h
  unfolding why_not_opened
  whole_10 e = turned_down _ 10 _ (rw ef at e)

  module _ (left : not fits ≡ false) (t : List ℕ) (opens : fits ≡ true → t ≡ opened_content key h)
      (fit : Bool) (ec : fit ≡ content_fits name party (length h / block_bytes) t) where
    pub whole_opens : t ≡ opened_content key h
    whole_opens = opens (not-false fits left)

    tested : fit ≡ content_fits name party (length h / block_bytes) (opened_content key h)
    tested = ec ∙ ap (content_fits name party (length h / block_bytes)) whole_opens

    pub whole_11 : not fit ≡ true → 11 ≡ why_not_opened key name party h
    unfolding why_not_opened
    whole_11 e = goes_on _ 10 _ (rw ef at left) (turned_down _ 11 _ (rw tested at e))

    pub whole_0 : not fit ≡ false → 0 ≡ why_not_opened key name party h
    unfolding why_not_opened
    whole_0 e = goes_on _ 10 _ (rw ef at left) (goes_on _ 11 _ (rw tested at e) refl)

-- the text in a longer room
pub at_front : (key h t rest : List ℕ) → t ≡ opened_content key h
    → take (text_bytes * (length h / block_bytes)) (t ++ rest) ≡ opened_content key h
at_front key h t rest e =
    take_at t rest _ (ap length e ∙ length_opened key h (length h / block_bytes) (omega arith)) ∙ e

-- ---- any bytes: 4 and 7 before them

abbrev numbered : ℕ → List ℕ → ℕ
numbered last h = unless (whole_blocks h) wrong_length (unless (ltb last (set_number h)) wrong_number 0)

module _ (h : List ℕ) (last : ℕ) (whole : Bool)
    (ew : whole
    ≡ eqb (length h % block_bytes) 0
    && (leb 3 (length h / block_bytes) && leb (length h / block_bytes) most_blocks)) where
  pub not_whole : not whole ≡ true → wrong_length ≡ numbered last h
  unfolding whole_blocks
  not_whole e = turned_down _ wrong_length _ (rw ew at e)

  module _ (left : not whole ≡ false) where
    pub some_blocks : (3 ≤ length h / block_bytes) × (length h / block_bytes ≤ most_blocks)
    some_blocks =
        let a = both (eqb (length h % block_bytes) 0) _ (sym ew ∙ not-false whole left) in
        let b = both (leb 3 (length h / block_bytes)) _ a.1 in
        (leb-true 3 (length h / block_bytes) b.0, leb-true (length h / block_bytes) most_blocks b.1)

    module _ (number : ℕ) (en : number ≡ set_number h) where
      pub stale : not (ltb last number) ≡ true → wrong_number ≡ numbered last h
      unfolding whole_blocks
      stale e = goes_on _ wrong_length _ (rw ew at left) (turned_down _ wrong_number _ (rw en at e))

      pub fresh : not (ltb last number) ≡ false → 0 ≡ numbered last h
      unfolding whole_blocks
      fresh e = goes_on _ wrong_length _ (rw ew at left) (goes_on _ wrong_number _ (rw en at e) refl)

-- what the bytes have been tested for then: whole blocks, which have terms
module _ (h : List ℕ) (last early : ℕ) (ee : early ≡ numbered last h) (none : early ≡ 0) where
  its_whole : whole_blocks h ≡ true
  its_whole = (passed _ (sym ee ∙ none)).0

  pub its_blocks : (3 ≤ length h / block_bytes) × (length h / block_bytes ≤ most_blocks)
  unfolding whole_blocks
  its_blocks = some_blocks h last (whole_blocks h) refl (ap not its_whole)

  pub has_terms : (room : List ℕ) → text_bytes * (length h / block_bytes) ≤ length room
      → offset 0 mask_field ≤ length (take (text_bytes * (length h / block_bytes)) room)
  unfolding offset widths sum_first
  has_terms room l = omega (arith, length-take-le (text_bytes * (length h / block_bytes)) room l, its_blocks.0)

-- ---- all of them

module _ (key name h : List ℕ) (party last early : ℕ) (ee : early ≡ numbered last h) where
  pub early_why : (early ≡ 0 → ⊥) → early ≡ why_not key name party last h
  unfolding why_not unless
  early_why some = ee ∙ go (whole_blocks h) (ltb last (set_number h)) refl refl
    where
      go : (a b : Bool) → whole_blocks h ≡ a → ltb last (set_number h) ≡ b
          → unless a wrong_length (unless b wrong_number 0)
          ≡ unless a wrong_length (unless b wrong_number (why_not_opened key name party h))
      go true true p q = absurd (some (ee ∙ rw (p, q) refl))
      go true false p q = refl
      go false b p q = refl

  pub late_why : early ≡ 0 → (why : ℕ) → why ≡ why_not_opened key name party h → why ≡ why_not key name party last h
  unfolding why_not
  late_why none why e =
      let above = (passed _ (passed _ (sym ee ∙ none)).1).0 in
      goes_on _ wrong_length _ (ap not (its_whole h last early ee none)) (goes_on _ wrong_number _ (ap not above) e)

-- what can be read of content that is taken
pub reads : (key name h : List ℕ) (party why : ℕ) → why ≡ why_not_opened key name party h → why ≡ 0
    → (t : List ℕ) → t ≡ opened_content key h → length t ≡ text_bytes * (length h / block_bytes)
    → (length_in t ≤ most_elements) × (size (length_in t) ≤ length t)
unfolding why_not_opened
reads key name h party why e none t et l =
    let fits = (passed _ (passed _ (sym e ∙ none)).1).0 in
    fits_reads name party (length h / block_bytes) t
    (ap (content_fits name party (length h / block_bytes)) et ∙ fits) l

-- ---- the answers

-- no refusal has the number of none
pub refuses : (e : Refusal) → number_of e ≡ 0 → ⊥
refuses BadName h = omega arith
refuses BadPartyOrCode h = omega arith
refuses OutOfTurn h = omega arith
refuses WrongLength h = omega arith
refuses ShortBuffer h = omega arith
refuses WrongMessage h = omega arith
refuses WrongNumber h = omega arith
refuses OutOfRange h = omega arith
refuses EqualKeys h = omega arith
refuses BadBlock h = omega arith
refuses BadContent h = omega arith
refuses BadSum h = omega arith
refuses BadMarks h = omega arith
refuses BadRows h = omega arith
refuses NoRow h = omega arith
refuses MoreRows h = omega arith

module _ (key name h : List ℕ) (party last why : ℕ) (ey : why ≡ why_not key name party last h) where
  pub examined_refused : (why ≡ 0 → ⊥) → record { why = why; set = no_set } ≡ examined key name party last h
  unfolding examined
  examined_refused some = λ i. record { why = ey i; set = Refusals.refused (opened_set key h) no_set ey some i }

  pub told_refused : (why ≡ 0 → ⊥) → record { why = why; terms = no_terms } ≡ told key name party last h
  unfolding told
  told_refused some =
      λ i. record { why = ey i; terms = Refusals.refused (opened_set key h).terms no_terms ey some i }

  module _ (none : why ≡ 0) (t : List ℕ) (et : t ≡ opened_content key h) where
    pub examined_taken : (number : ℕ) (s : Set) → number ≡ set_number h → s ≡ set_in number t
        → record { why = why; set = s } ≡ examined key name party last h
    unfolding examined opened_set
    examined_taken number s en es =
        λ i. record { why = ey i; set = (es ∙ ap₂ set_in en et ∙ Refusals.taken (opened_set key h) no_set ey none) i }

    pub told_taken : (terms : Terms) → terms ≡ terms_in t
        → record { why = why; terms = terms } ≡ told key name party last h
    unfolding told opened_set set_in
    told_taken terms es =
        λ i.
        record {
          why = ey i;
          terms = (es ∙ ap terms_in et ∙ Refusals.taken (opened_set key h).terms no_terms ey none) i;
        }
