-- What claim comparison (`proofs/Comparison.antt`) speaks of: the number that the first bits of a number make. And that
-- a walk asks for the corrections of its own levels only. Assumes nothing.
use Rattle.std.specs.Prelude.{◌≡◌, Bool}
use Rattle.std.proofs.Math.Path.{refl, ap₂}
use Rattle.std.proofs.Common.{sym, arith, div-one, shr-shr}
use Prim.Native.Nat.{ℕ, zero, suc, ◌+◌, ◌-◌, ◌*◌, ◌/◌, ◌%◌, ◌^◌, ◌<◌, ◌≤◌}
use Rattle.std.proofs.Math.Nat.{div-eq_of_lt, sub-zero}
use Rattle.base_algebra.specs.Bit.{only, only_odd}
use Rattle.dcf_function.specs.Dcf.{Correction, Walk, Opened, bits}
use Rattle.dcf_function.specs.Dcf.{next_walk, walk}

-- ---- the number that the first i bits make

unfoldable pub prefix : (ℕ → Bool) → ℕ → ℕ
prefix r zero = 0
prefix r (suc i) = 2 * prefix r i + only (r i) 1

-- a number's bits above the lowest k + 1, and the next bit
next_bit : (u k : ℕ) → 2 * (u / 2 ^ (k + 1)) + u / 2 ^ k % 2 ≡ u / 2 ^ k
next_bit u k = rw (← (shr-shr u k 1)) (omega arith)

prefix_bits : (n u i : ℕ) → u < 2 ^ n → i ≤ n → prefix (bits n u) i ≡ u / 2 ^ (n - i)
unfolding prefix bits
prefix_bits n u zero h k = rw sub-zero (sym (div-eq_of_lt h))
prefix_bits n u (suc i) h k =
    let j : n - i ≡ (n - suc i) + 1 = omega arith in
    rw (prefix_bits n u i h (omega arith), only_odd, j) (next_bit u (n - suc i))

-- all n bits make the number
pub all_bits : (n u : ℕ) → u < 2 ^ n → prefix (bits n u) n ≡ u
all_bits n u h =
    let j : n - n ≡ 0 = omega arith in
    rw (prefix_bits n u n h (omega arith), j) (div-one u)

-- a walk asks for the corrections of its own levels only
module _ {Seed : Type 0} (◌⊕◌ : Seed → Seed → Seed) (node : ℕ → Seed → Opened Seed) (first : Seed → ℕ) where
  pub walk_ext : (c e : ℕ → Correction Seed) (u : ℕ → Bool) (s : Seed) (t : Bool) (n : ℕ)
      → ((i : ℕ) → i < n → c i ≡ e i)
      → walk ◌⊕◌ node first c u s t n ≡ walk ◌⊕◌ node first e u s t n
  unfolding walk
  walk_ext c e u s t zero h = refl
  walk_ext c e u s t (suc n) h =
      ap₂ (λ (k : Correction Seed) (w : Walk Seed). next_walk ◌⊕◌ node first n k (u n) w) (h n (omega arith))
      (walk_ext c e u s t n (λ i l. h i (omega arith)))
