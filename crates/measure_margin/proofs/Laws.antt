-- What the code that tells a margin is tied to, as far as it rests on the claims: an accepted Y, and the answer read
-- off the word of the product less T. Assumes nothing. [SPEC 36.2, 36.5, 36.7, 36.8]
use Rattle.std.specs.Prelude.{◌≡◌, Bool, List, [], ◌∷◌, ℕ, suc, ◌-◌, ◌^◌, ◌<◌, ◌≤◌, ℤ, pos, negsuc}
use Rattle.std.specs.Prelude.{neg_ℤ, nat_abs, ◌-ℤ◌, length}
use Rattle.std.proofs.Math.Path.{refl, sym, ap}
use Rattle.std.proofs.Common.{◌∙◌, arith, leb-true}
use Rattle.std.proofs.Math.Bool.{true, false}
use Rattle.std.proofs.Math.Dec.{leb-zero}
use Rattle.std.specs.Int.Signed.{mag, le_z}
use Rattle.base_algebra.specs.Bit.{only, both}
use Rattle.base_algebra.specs.Mod.{m_trans, m_sym}
use Rattle.base_algebra.specs.Integer.{residue}
use Rattle.base_algebra.specs.Ring.{ring}
use Rattle.base_algebra.specs.Word.{words, add, sub, neg, mul, signed, ◌≈◌, neg≈, neg_lt, signed≈, same_word}
use Rattle.base_messages.specs.Laws.{passed, taken}
use Rattle.measure_table.specs.Measure.{row, scalar_product, element, measure, within, in_range, all_in_range}
use Rattle.measure_table.specs.Measure.{length_fits, word, k_word, own_word, carried}
use Rattle.measure_table.specs.Order.{above_zero}
use Rattle.measure_table.specs.Laws.{in_range_at}
use Rattle.measure_table.proofs.Laws.{measure≈, bound_plain}
use Rattle.share_vectors.specs.Share.{inner}
use Rattle.measure_margin.specs.Margin.{scalar_terms, answer_now, absolute_sum, lengths_fit}
use Rattle.measure_margin.specs.Margin.{ranges_fit, why_not_margin, Answered}
use Rattle.measure_margin.specs.Claims.{answer_is, quotient, spare, closed_form, Lengths, Ranges}
use Rattle.measure_margin.specs.Claims.{accepted_only}
use Rattle.measure_margin.proofs.Claims.{largest}
use Rattle.measure_margin.specs.Laws.{told}

-- ---- an accepted Y: its absolute elements are at most 1,024, past its end too

small : (z : ℤ) → within (neg_ℤ (pos 1024)) (pos 1023) z ≡ true → nat_abs z ≤ 1024
unfolding within
small (pos a) h = omega (arith, leb-true a 1023 (both (le_z (neg_ℤ (pos 1024)) (pos a)) _ h).1)
small (negsuc a) h = omega (arith, leb-true a 1023 (both (le_z (neg_ℤ (pos 1024)) (negsuc a)) _ h).0)

module _ (x y : List ℕ) (t why : ℕ) (number : why ≡ why_not_margin x y t) (zero_why : why ≡ 0) where
  fits : Lengths x y × Ranges x y t
  fits = accepted_only x y t (sym number ∙ zero_why)

  pub same_length : length y ≡ length x
  same_length = fits.0.same

  pub not_above : length y ≤ 512
  not_above = omega (arith, fits.0.most, same_length)

  ranges : ranges_fit x y t ≡ true
  unfolding why_not_margin
  ranges = (passed _ (passed _ (sym number ∙ zero_why)).1).0

  pub absolute_most : (i : ℕ) → nat_abs (element y i) ≤ 1024
  unfolding ranges_fit in_range row scalar_product element
  absolute_most i =
      let parts = both (all_in_range (scalar_terms x) x) _ ranges in
      small (element y i) (in_range_at (scalar_terms x) y (both (all_in_range (scalar_terms x) y) _ parts.1).0 i)

-- ---- the word of the product less T, and what is read off it

-- a word below 2^31 is its number, which is not below 0 ..
low_is : (w : ℕ) (z : ℤ) → w < 2 ^ 31 → le_z (neg_ℤ (pos (2 ^ 31 - 1))) z ≡ true → le_z z (pos (2 ^ 31 - 1)) ≡ true
    → w ≈ residue (2 ^ 32) z → (w ≡ mag z) × (le_z (pos 0) z ≡ true)
unfolding residue neg
low_is w (pos a) l from to h =
    (same_word h (omega arith) (omega (arith, leb-true a (2 ^ 31 - 1) to)), leb-zero a)
low_is w (negsuc a) l from to h =
    absurd (large a (omega (arith, leb-true a (2 ^ 31 - 2) from))
    (same_word (m_trans h (m_sym (neg≈ (suc a)))) (omega arith) (neg_lt (suc a))))
  where
    large : (a : ℕ) → a < 2 ^ 31 → w ≡ neg (suc a) → ⊥
    large a k e = omega arith

-- .. and any other is below 0, with as much left to -1 as the word has to 2^32 - 1
high_is : (w : ℕ) (z : ℤ) → 2 ^ 31 ≤ w → w < 2 ^ 32 → le_z (neg_ℤ (pos (2 ^ 31 - 1))) z ≡ true
    → le_z z (pos (2 ^ 31 - 1)) ≡ true → w ≈ residue (2 ^ 32) z → (2 ^ 32 - 1 - w ≡ mag z) × (le_z (pos 0) z ≡ false)
unfolding residue neg
high_is w (pos a) l k from to h =
    let fits : a < 2 ^ 31 = omega (arith, leb-true a (2 ^ 31 - 1) to) in
    absurd (small_word fits (same_word h k (omega arith)))
  where
    small_word : a < 2 ^ 31 → w ≡ a → ⊥
    small_word m e = omega arith
high_is w (negsuc a) l k from to h = (
  left (omega (arith, leb-true a (2 ^ 31 - 2) from))
      (same_word (m_trans h (m_sym (neg≈ (suc a)))) k (neg_lt (suc a))),
  refl,
)
  where
    left : a < 2 ^ 31 → w ≡ neg (suc a) → 2 ^ 32 - 1 - w ≡ a
    left m e = omega arith

over≈ : (t : ℕ) (x y : List ℕ)
    → sub (inner (length x) x y) t ≈ residue (2 ^ 32) (measure (scalar_terms x) x y -ℤ signed t)
unfolding inner k_word own_word carried row scalar_product word
over≈ t x y = last (measure (scalar_terms x) x y) (signed t) _ t (measure≈ (scalar_terms x) x y) (signed≈ t)
  where
    last : (M S : ℤ) (p t : ℕ) → add (add 0 0) (mul 1 p) ≈ residue (2 ^ 32) M → residue (2 ^ 32) S ≈ t
        → sub p t ≈ residue (2 ^ 32) (M -ℤ S)
    last M S p t em es = once (m_trans (m_sym (one p)) em)
      where
        one : (p : ℕ) → add (add 0 0) (mul 1 p) ≈ p
        one p = ring (p ∷ []) (search words depth 40 fits 5000) refl

        once : p ≈ residue (2 ^ 32) M → sub p t ≈ residue (2 ^ 32) (M -ℤ S)
        once e = ring (residue (2 ^ 32) M ∷ t ∷ []) (search words depth 40 fits 5000) refl

-- ---- the answer

module _ (x y : List ℕ) (t why : ℕ) (number : why ≡ why_not_margin x y t) (zero_why : why ≡ 0) (p over s e : ℕ)
    (is_product : p ≡ inner (length x) x y) (is_over : over ≡ sub p t) (is_sum : s ≡ absolute_sum y) where
  same : length y ≡ length x
  same = same_length x y t why number zero_why

  abbrev z : ℤ
  z = measure (scalar_terms x) x y -ℤ signed t

  near : (le_z (neg_ℤ (pos (2 ^ 31 - 1))) z ≡ true) × (le_z z (pos (2 ^ 31 - 1)) ≡ true)
  unfolding why_not_margin lengths_fit ranges_fit
  near =
      let first = passed _ (sym number ∙ zero_why) in
      let long = both (length_fits (scalar_terms x)) _ first.0 in
      let in_x = both (all_in_range (scalar_terms x) x) _ (passed _ first.1).0 in
      let in_y = both (all_in_range (scalar_terms x) y) _ in_x.1 in
      bound_plain (scalar_terms x) t x y long.0 in_x.0 in_y.0 in_y.1

  word≈ : over ≈ residue (2 ^ 32) z
  word≈ = rw (is_over, is_product) (over≈ t x y)

  now_is : answer_now x y t ≡ le_z (pos 0) z
  unfolding answer_now
  now_is = answer_is x t (measure (scalar_terms x) x y) ∙ sym (above_zero (measure (scalar_terms x) x y) (signed t))

  taken_answer : (b : Bool) (bit : ℕ) → le_z (pos 0) z ≡ b → bit ≡ only b 1 → e ≡ quotient (mag z) s
      → Answered x y t (told why bit e)
  unfolding closed_form spare
  taken_answer b bit sign is_bit q = record {
    number = number;
    now = is_bit ∙ ap (λ (c : Bool). only c 1) (sym (now_is ∙ sign))
        ∙ taken (only (answer_now x y t) 1) 0 number zero_why;
    largest = λ h. rw (q ∙ ap (quotient (mag z)) is_sum) (largest x y t same);
    none = λ h. absurd (h (sym number ∙ zero_why));
  }

  pub reached_answer : over < 2 ^ 31 → e ≡ quotient over s → Answered x y t (told why 1 e)
  unfolding only
  reached_answer l q =
      let r = low_is over z l near.0 near.1 word≈ in
      taken_answer true 1 r.1 refl (q ∙ ap (λ (g : ℕ). quotient g s) r.0)

  pub missed_answer : 2 ^ 31 ≤ over → over < 2 ^ 32 → (g : ℕ) → g ≡ sub (2 ^ 32 - 1) over → e ≡ quotient g s
      → Answered x y t (told why 0 e)
  unfolding only sub
  missed_answer l k g is_rest q =
      let r = high_is over z l k near.0 near.1 word≈ in
      let rest : g ≡ 2 ^ 32 - 1 - over = omega (arith, is_rest) in
      taken_answer false 0 r.1 refl (q ∙ ap (λ (g : ℕ). quotient g s) (rest ∙ r.0))
