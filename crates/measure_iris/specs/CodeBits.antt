-- Bits of bytes and bytes of bits: each is found again in the other. Assumes nothing. [SPEC 35.2]
use Rattle.std.specs.Prelude.{◌≡◌, refl, Bool, true, false, List, ltb, length, get_or}
use Rattle.std.proofs.Math.Path.{sym, ap}
use Rattle.std.proofs.Common.{ap₂, ◌∙◌, add-zero, ltb-true, ltb-false, shr-shr, pow_mono}
use Prim.Native.Nat.{ℕ, zero, suc, ◌+◌, ◌*◌, ◌-◌, ◌/◌, ◌%◌, ◌^◌, ◌<◌, ◌≤◌}
use native.Mathlib.Omega.{arith}
use Rattle.std.proofs.Math.ListN.{get_or-eq_default}
use Rattle.base_words.specs.List.{tab, length_tab, get_or_tab, tab_ext}
use Rattle.measure_iris.specs.Iris.{code_bits, Code, bit, from_bits, code_of_bits}

pub bit_lt : (code : List ℕ) (i : ℕ) → bit code i < 2
unfolding bit
bit_lt code i = omega arith

-- bit k of byte j
pub bit_at : (code : List ℕ) (j k : ℕ) → k < 8 → bit code (8 * j + k) ≡ get_or code j 0 / 2 ^ k % 2
unfolding bit
bit_at code j k h =
    let q : (8 * j + k) / 8 ≡ j = omega arith in
    let r : (8 * j + k) % 8 ≡ k = omega arith in
    rw (q, r) refl

-- a number's bit above the lowest is one of its half's
pub half_bit : (x k : ℕ) → x / 2 / 2 ^ k % 2 ≡ x / 2 ^ suc k % 2
half_bit x k =
    let e : 1 + k ≡ suc k = omega arith in
    ap (λ (y : ℕ). y % 2) (shr-shr x 1 k ∙ ap (λ (j : ℕ). x / 2 ^ j) e)

-- ---- a number of some bits

module _ (f : ℕ → ℕ) (h : (i : ℕ) → f i < 2) where
  pub from_lt : (n i : ℕ) → from_bits f i n < 2 ^ n
  unfolding from_bits
  from_lt zero i = omega arith
  from_lt (suc n) i = omega (arith, h i, from_lt n (i + 1))

  pub byte_lt : (n i : ℕ) → n ≤ 8 → from_bits f i n < 256
  byte_lt n i l = omega (arith, from_lt n i, pow_mono {i = n} {j = 8} l)

  -- it has these bits
  from_bit : (n k i : ℕ) → k < n → from_bits f i n / 2 ^ k % 2 ≡ f (i + k)
  unfolding from_bits
  from_bit zero k i l = absurd (omega arith)
  from_bit (suc n) zero i l = rw (add-zero i) (omega (arith, h i))
  from_bit (suc n) (suc k) i l =
      let half : (f i + 2 * from_bits f (i + 1) n) / 2 ≡ from_bits f (i + 1) n = omega (arith, h i) in
      let at : i + 1 + k ≡ i + suc k = omega arith in
      sym (half_bit (f i + 2 * from_bits f (i + 1) n) k)
      ∙ ap (λ (x : ℕ). x / 2 ^ k % 2) half ∙ from_bit n k (i + 1) (omega arith) ∙ ap f at

  -- "bit i modulo 8 of byte i / 8"
  pub bit_code : (i : ℕ) → i < code_bits → bit (code_of_bits f) i ≡ f i
  unfolding bit code_of_bits
  bit_code i l =
      let at : 8 * (i / 8) + i % 8 ≡ i = omega arith in
      rw (get_or_tab (λ j. from_bits f (8 * j) 8) 64 (i / 8) (omega arith))
      (from_bit 8 (i % 8) (8 * (i / 8)) (omega arith) ∙ ap f at)

  pub code_code : Code (code_of_bits f)
  unfolding code_of_bits
  code_code = record { long = length_tab byte 64; small = small }
    where
      byte : ℕ → ℕ
      byte j = from_bits f (8 * j) 8

      small : (j : ℕ) → get_or (tab byte 64) j 0 < 256
      small j = go (ltb j 64) refl
        where
          go : (c : Bool) → ltb j 64 ≡ c → get_or (tab byte 64) j 0 < 256
          go true e = rw (get_or_tab byte 64 j (ltb-true j 64 e)) (byte_lt 8 (8 * j) (omega arith))
          go false e =
              let past : length (tab byte 64) ≤ j = omega (arith, ltb-false j 64 e, length_tab byte 64) in
              rw (get_or-eq_default (tab byte 64) 0 {n = j} past) (omega arith)

-- ---- a number asks for its own bits only, and so does a code

from_ext : (f g : ℕ → ℕ) (n i : ℕ) → ((k : ℕ) → k < n → f (i + k) ≡ g (i + k)) → from_bits f i n ≡ from_bits g i n
unfolding from_bits
from_ext f g zero i h = refl
from_ext f g (suc n) i h =
    let none : i + 0 ≡ i = omega arith in
    let first : f i ≡ g i = ap f (sym none) ∙ h 0 (omega arith) ∙ ap g none in
    ap₂ (λ (a b : ℕ). a + 2 * b) first (from_ext f g n (i + 1) next)
  where
    next : (k : ℕ) → k < n → f (i + 1 + k) ≡ g (i + 1 + k)
    next k l =
        let at : i + suc k ≡ i + 1 + k = omega arith in
        ap f (sym at) ∙ h (suc k) (omega arith) ∙ ap g at

pub code_ext : (f g : ℕ → ℕ) → ((i : ℕ) → i < code_bits → f i ≡ g i) → code_of_bits f ≡ code_of_bits g
unfolding code_of_bits
code_ext f g h =
    tab_ext (λ j. from_bits f (8 * j) 8) (λ j. from_bits g (8 * j) 8) 64
    (λ j l. from_ext f g 8 (8 * j) (λ k m. h (8 * j + k) (omega arith)))

-- ---- a byte as code makes it, from the highest bit down

pub byte_start : (f : ℕ → ℕ) (i : ℕ) → 0 ≡ from_bits f i 0
unfolding from_bits
byte_start f i = refl

-- one bit more, below the others
pub byte_more : (f : ℕ → ℕ) (j k b : ℕ) → 0 < k → k ≤ 8 → b ≡ from_bits f (8 * j + k) (8 - k)
    → 2 * b + f (8 * j + (k - 1)) ≡ from_bits f (8 * j + (k - 1)) (8 - (k - 1))
unfolding from_bits
byte_more f j k b h l e =
    let more : 8 - (k - 1) ≡ suc (8 - k) = omega arith in
    let at : 8 * j + k ≡ 8 * j + (k - 1) + 1 = omega arith in
    let rest : b ≡ from_bits f (8 * j + (k - 1) + 1) (8 - k) = e ∙ ap (λ (i : ℕ). from_bits f i (8 - k)) at in
    rw more (omega (arith, rest))
