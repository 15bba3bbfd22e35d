-- How shaky the camera may be (02, §12): for X, Y and T under code 0, in the clear, "the largest e from 0 to 2,047 such
-- that no whole-number vector with each element within e of X changes the answer"; why the call is turned down, and
-- what holds of its answer. X and Y are lists of words, T is a word: a negative number stands for itself plus 2^32.
-- Assumes nothing. [SPEC 24.18, 36.1 to 36.4, 36.7, 36.8]
use Rattle.std.specs.Prelude.{◌≡◌, Bool, ◌&&◌, List, ℕ, ◌<◌, ◌≤◌, eqb, ℤ, pos, nat_abs, ◌-ℤ◌, ◌*ℤ◌, length, get_or}
use Rattle.base_algebra.specs.Bit.{only}
use Rattle.base_algebra.specs.Sum.{sumℕ, sumℤ}
use Rattle.base_messages.specs.Messages.{wrong_length, out_of_range, unless, if_taken}
use Rattle.measure_table.specs.declared.Terms.{Terms}
use Rattle.measure_table.specs.declared.Rule.TheVariants.{Threshold}
use Rattle.measure_table.specs.Measure.{element, measure, meets, length_fits, all_in_range, threshold_fits}
use Rattle.measure_margin.specs.declared.MarginAnswer.{MarginAnswer}

-- ---- the answer

-- "under code 0", L being X's length [SPEC 36.1]
abbrev pub scalar_code : ℕ
scalar_code = 0

abbrev pub scalar_terms : List ℕ → Terms
scalar_terms x = record { code = scalar_code; n = length x }

-- the answer to a measure: whether a set that is dealt with T is met by it. X, T, measure [SPEC 3.6, 36.2]
unfoldable pub answer_to : List ℕ → ℕ → ℤ → Bool
answer_to x t m = meets (scalar_terms x) (Threshold t) m

-- .. and the answer for X. X, Y, T [SPEC 36.2]
unfoldable pub answer_now : List ℕ → List ℕ → ℕ → Bool
answer_now x y t = answer_to x t (measure (scalar_terms x) x y)

-- ---- "whole-number vector": a list of whole numbers, none of which has to be in a range, or to fit a word

-- "with each element within e of X": e, V, X [SPEC 36.3]
pub record Within (e : ℕ) (v : List ℤ) (x : List ℕ) : Type 0 where
  pub long : length v ≡ length x
  pub near : (i : ℕ) → i < length x → nat_abs (get_or v i (pos 0) -ℤ element x i) ≤ e

-- "the product": the sum of V_i × Y_i. V, Y [SPEC 36.3]
unfoldable pub product : List ℤ → List ℕ → ℤ
product v y = sumℤ (λ i. get_or v i (pos 0) *ℤ element y i) (length v)

-- "the sum of Y's absolute elements" [SPEC 36.4]
unfoldable pub absolute_sum : List ℕ → ℕ
absolute_sum y = sumℕ (λ i. nat_abs (element y i)) (length y)

-- ---- the margin

-- "no whole-number vector with each element within e of X changes the answer": X, Y, T, e [SPEC 36.3]
unfoldable pub Steady : List ℕ → List ℕ → ℕ → ℕ → Type 0
Steady x y t e = (v : List ℤ) → Within e v x → answer_to x t (product v y) ≡ answer_now x y t

-- "from 0 to 2,047"
abbrev pub most_margin : ℕ
most_margin = 2047

-- "the largest e from 0 to 2,047 such that" this holds: X, Y, T, e [SPEC 36.3]
pub record Largest (x y : List ℕ) (t e : ℕ) : Type 0 where
  pub capped : e ≤ most_margin
  pub steady : Steady x y t e
  pub most : (f : ℕ) → f ≤ most_margin → Steady x y t f → f ≤ e

-- ---- the call

-- 4: X has 1 to 512 elements, and Y as many [SPEC 23.4]
unfoldable pub lengths_fit : List ℕ → List ℕ → Bool
lengths_fit x y = length_fits (scalar_terms x) && eqb (length y) (length x)

-- 8: each element of X and of Y, and T, are in code 0's range [SPEC 23.8]
unfoldable pub ranges_fit : List ℕ → List ℕ → ℕ → Bool
ranges_fit x y t =
    all_in_range (scalar_terms x) x && (all_in_range (scalar_terms x) y && threshold_fits (scalar_terms x) t)

-- "Vectors and T follow 01's checks in 01's order": X, Y, T [SPEC 24.18, 36.7]
unfoldable pub why_not_margin : List ℕ → List ℕ → ℕ → ℕ
why_not_margin x y t = unless (lengths_fit x y) wrong_length (unless (ranges_fit x y t) out_of_range 0)

-- what is answered for X, Y and T: the number of the first test that fails; the answer for X as a bit and the largest
-- e, or zeros if a test fails. No two answers hold this (Claims.`settled`), and one always does (`answered`).
-- [SPEC 36.2, 36.3, 36.8]
pub record Answered (x y : List ℕ) (t : ℕ) (r : MarginAnswer) : Type 0 where
  pub number : r.why ≡ why_not_margin x y t
  pub now : r.bit ≡ if_taken (why_not_margin x y t) (only (answer_now x y t) 1) 0
  pub largest : why_not_margin x y t ≡ 0 → Largest x y t r.margin
  pub none : (why_not_margin x y t ≡ 0 → ⊥) → r.margin ≡ 0
