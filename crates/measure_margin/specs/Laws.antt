-- What the code that tells a margin is tied to: a word's magnitude, the quotient, the tests, and the answer read off
-- the word of the product less T. Assumes nothing. [SPEC 36.2, 36.5, 36.7, 36.8]
use Rattle.std.specs.Prelude.{◌≡◌, Bool, List, ℕ, suc, ◌-◌, ◌/◌, ◌^◌, ◌<◌, ◌≤◌}
use Rattle.std.specs.Prelude.{nat_abs, length}
use Rattle.std.proofs.Math.Path.{refl, sym, ap, ap₂}
use Rattle.std.proofs.Common.{◌∙◌, arith, ne_eqb}
use Rattle.std.proofs.Math.Bool.{true, false, not, ◌&&◌}
use Rattle.std.proofs.Math.Nat.{min-eq_left, min-eq_right}
use Rattle.std.proofs.Math.Dec.{eqb}
use Rattle.base_algebra.specs.Bit.{only}
use Rattle.base_algebra.specs.Word.{sub, signed}
use Rattle.base_messages.specs.Messages.{wrong_length, out_of_range}
use Rattle.base_messages.specs.Laws.{turned_down, goes_on, refused}
use Rattle.measure_table.specs.Measure.{all_in_range}
use Rattle.measure_table.specs.Measure.{length_fits, threshold_fits}
use Rattle.measure_table.specs.Laws.{signed_low, signed_high}
use Rattle.measure_margin.specs.declared.MarginAnswer.{MarginAnswer}
use Rattle.measure_margin.specs.Margin.{scalar_terms, answer_now, most_margin, lengths_fit}
use Rattle.measure_margin.specs.Margin.{ranges_fit, why_not_margin, Answered}
use Rattle.measure_margin.specs.Claims.{quotient}

-- ---- magnitudes

pub magnitude_low : (w : ℕ) → w < 2 ^ 31 → w ≡ nat_abs (signed w)
magnitude_low w l = sym (ap nat_abs (signed_low w l))

pub magnitude_high : (w : ℕ) → 2 ^ 31 ≤ w → w < 2 ^ 32 → sub 0 w ≡ nat_abs (signed w)
unfolding sub
magnitude_high w l k =
    let same : sub 0 w ≡ suc (2 ^ 32 - suc w) = omega arith in
    same ∙ sym (ap nat_abs (signed_high w l k))

-- ---- the quotient

pub quotient_none : (g s : ℕ) → s ≡ 0 → most_margin ≡ quotient g s
unfolding quotient
quotient_none g s e = rw e refl

pub quotient_below : (g s : ℕ) → (s ≡ 0 → ⊥) → g / s < most_margin → g / s ≡ quotient g s
unfolding quotient
quotient_below g s e h = rw (ne_eqb s 0 e) (sym (min-eq_right (omega arith)))

pub quotient_capped : (g s : ℕ) → (s ≡ 0 → ⊥) → most_margin ≤ g / s → most_margin ≡ quotient g s
unfolding quotient
quotient_capped g s e h = rw (ne_eqb s 0 e) (sym (min-eq_left h))

-- ---- the tests, each of which returns its number at once

module _ (x y : List ℕ) (t : ℕ) {a : Bool} (ea : a ≡ length_fits (scalar_terms x)) where
  long_is : (a && eqb (length y) (length x)) ≡ lengths_fit x y
  unfolding lengths_fit
  long_is = ap (λ (b : Bool). b && eqb (length y) (length x)) ea

  pub lengths_refused : not (a && eqb (length y) (length x)) ≡ true → wrong_length ≡ why_not_margin x y t
  unfolding why_not_margin
  lengths_refused h = turned_down _ _ _ (ap not (sym long_is) ∙ h)

  module _ (long : not (a && eqb (length y) (length x)) ≡ false) {b c d : Bool}
      (eb : b ≡ all_in_range (scalar_terms x) x) (ec : c ≡ all_in_range (scalar_terms x) y)
      (ed : d ≡ threshold_fits (scalar_terms x) t) where
    ranges_is : (b && (c && d)) ≡ ranges_fit x y t
    unfolding ranges_fit
    ranges_is = ap₂ ◌&&◌ eb (ap₂ ◌&&◌ ec ed)

    pub ranges_refused : not (b && (c && d)) ≡ true → out_of_range ≡ why_not_margin x y t
    unfolding why_not_margin
    ranges_refused h =
        goes_on _ _ _ (ap not (sym long_is) ∙ long) (turned_down _ _ _ (ap not (sym ranges_is) ∙ h))

    pub all_passed : not (b && (c && d)) ≡ false → 0 ≡ why_not_margin x y t
    unfolding why_not_margin
    all_passed h =
        goes_on _ _ _ (ap not (sym long_is) ∙ long) (goes_on _ _ _ (ap not (sym ranges_is) ∙ h) refl)

-- ---- the answer

abbrev pub told : ℕ → ℕ → ℕ → MarginAnswer
told why bit margin = record { why = why; bit = bit; margin = margin }

pub refused_answer : (x y : List ℕ) (t why : ℕ) → why ≡ why_not_margin x y t → (why ≡ 0 → ⊥)
    → Answered x y t (told why 0 0)
refused_answer x y t why number some = record {
  number = number;
  now = refused (only (answer_now x y t) 1) 0 number some;
  largest = λ e. absurd (some (number ∙ e));
  none = λ h. refl;
}
