-- A number is made of its own bits, and so is a code. Assumes nothing. [SPEC 35.2]
use Rattle.std.specs.Prelude.{◌≡◌, List, get_or}
use Rattle.std.proofs.Math.Path.{sym, ap}
use Rattle.std.proofs.Common.{◌∙◌, add-one, shr_lt}
use Prim.Native.Nat.{ℕ, zero, suc, ◌+◌, ◌*◌, ◌/◌, ◌%◌, ◌^◌, ◌<◌}
use native.Mathlib.Omega.{arith}
use Rattle.base_words.specs.List.{tab, tab_ext, tab_get_or}
use Rattle.measure_iris.specs.Iris.{Code, bit, from_bits, code_of_bits}
use Rattle.measure_iris.specs.CodeBits.{bit_at, half_bit}

from_own : (f : ℕ → ℕ) (n i x : ℕ) → x < 2 ^ n → ((k : ℕ) → k < n → f (i + k) ≡ x / 2 ^ k % 2) → from_bits f i n ≡ x
unfolding from_bits
from_own f zero i x l h = omega arith
from_own f (suc n) i x l h =
    let none : i + 0 ≡ i = omega arith in
    let first : f i ≡ x / 2 ^ 0 % 2 = ap f (sym none) ∙ h 0 (omega arith) in
    let rest : from_bits f (i + 1) n ≡ x / 2 = from_own f n (i + 1) (x / 2) (shr_lt n 1 (rw (add-one n) l)) next in
    omega arith
  where
    next : (k : ℕ) → k < n → f (i + 1 + k) ≡ x / 2 / 2 ^ k % 2
    next k m =
        let at : i + 1 + k ≡ i + suc k = omega arith in
        ap f at ∙ h (suc k) (omega arith) ∙ sym (half_bit x k)

pub code_bits_lem : (code : List ℕ) → Code code → code_of_bits (bit code) ≡ code
unfolding code_of_bits
code_bits_lem code c =
    tab_ext (λ j. from_bits (bit code) (8 * j) 8) (λ j. get_or code j 0) 64 (λ j l.
    from_own (bit code) 8 (8 * j) (get_or code j 0) (c.small j) (bit_at code j))
    ∙ ap (tab (λ j. get_or code j 0)) (sym c.long) ∙ tab_get_or code
