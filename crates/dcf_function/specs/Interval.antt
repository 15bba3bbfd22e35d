-- Claim interval: from [u < r] at two inputs, whether z - r lies from 0 to w. Assumes nothing.
use Rattle.std.specs.Prelude.{◌≡◌, refl, Bool, true, false, ℕ, ◌+◌, ◌%◌, ◌^◌, ◌<◌, ◌≤◌, ltb}
use Rattle.std.proofs.Common.{arith, ltb-true, ltb-false}
use Rattle.base_algebra.specs.Word.{add, sub, sub_lt}
use Rattle.base_algebra.specs.Bit.{less, less_lt, less_ge, less_le}

-- p < q or not, with the number that says so
data Side (p q : ℕ) : ℕ → Type 0 where
  below : p < q → Side p q 1
  above : q ≤ p → Side p q 0

side : (p q : ℕ) → Side p q (less p q)
side p q = go (ltb p q) refl
  where
    go : (x : Bool) → ltb p q ≡ x → Side p q (less p q)
    go true e = let h = ltb-true p q e in rw (less_lt p q h) (below h)
    go false e = let h = ltb-false p q e in rw (less_ge p q h) (above h)

module _ (r z s y x : ℕ) (hr : r < 2 ^ 32) (hz : z < 2 ^ 32) (hs : s < 2 ^ 32) (hy : y < 2 ^ 32) (hx : x < 2 ^ 32)
    (ey : (y + r) % 2 ^ 32 ≡ z) (ex : (x + s) % 2 ^ 32 ≡ z) where
  split : {a b c d : ℕ} → Side x r a → Side z s b → Side z r c → Side y s d → a + b ≡ c + d
  split (below h) (below i) (below j) (below k) = omega arith
  split (below h) (below i) (below j) (above k) = omega arith
  split (below h) (below i) (above j) (below k) = omega arith
  split (below h) (below i) (above j) (above k) = omega arith
  split (below h) (above i) (below j) (below k) = omega arith
  split (below h) (above i) (below j) (above k) = omega arith
  split (below h) (above i) (above j) (below k) = omega arith
  split (below h) (above i) (above j) (above k) = omega arith
  split (above h) (below i) (below j) (below k) = omega arith
  split (above h) (below i) (below j) (above k) = omega arith
  split (above h) (below i) (above j) (below k) = omega arith
  split (above h) (below i) (above j) (above k) = omega arith
  split (above h) (above i) (below j) (below k) = omega arith
  split (above h) (above i) (below j) (above k) = omega arith
  split (above h) (above i) (above j) (below k) = omega arith
  split (above h) (above i) (above j) (above k) = omega arith

sub_add : (a b : ℕ) → a < 2 ^ 32 → (sub a b + b) % 2 ^ 32 ≡ a
unfolding sub
sub_add a b h = omega arith

-- on numbers: [z - s < r] + [z < s] = [z < r] + [z - r < s]
crossing : (r z s : ℕ) → r < 2 ^ 32 → z < 2 ^ 32 → s < 2 ^ 32
    → less (sub z s) r + less z s ≡ less z r + less (sub z r) s
crossing r z s hr hz hs =
    split r z s (sub z r) (sub z s) hr hz hs (sub_lt z r) (sub_lt z s) (sub_add z r hz) (sub_add z s hz)
    (side (sub z s) r) (side z s) (side z r) (side (sub z r) s)

small : (a b c d : ℕ) → a ≤ 1 → b ≤ 1 → c ≤ 1 → d ≤ 1 → a + c ≡ b + d → add (sub a b) c ≡ d
unfolding add sub
small a b c d ha hb hc hd e = omega arith

-- as words, for a width w: D(z - (w + 1)) - D(z) + [z < w + 1] = [(z - r) mod 2^32 ≤ w], where D(u) = [u < r]
pub interval : (r z w : ℕ) → r < 2 ^ 32 → z < 2 ^ 32 → w + 1 < 2 ^ 32
    → add (sub (less (sub z (w + 1)) r) (less z r)) (less z (w + 1)) ≡ less (sub z r) (w + 1)
interval r z w hr hz hw =
    small _ _ _ _ (less_le (sub z (w + 1)) r) (less_le z r) (less_le z (w + 1))
    (less_le (sub z r) (w + 1)) (crossing r z (w + 1) hr hz hw)
