-- THE LAW: four accumulators, each with every fourth block, are the one that takes the blocks one after the other.
-- Assumes nothing.
use mathlib.Core.Path.{◌≡◌, refl, sym, ap, ◌∙◌}
use mathlib.Core.List.{List, [], ◌∷◌}
use Prim.Native.Nat.{ℕ, zero, suc, ◌+◌, ◌*◌, ◌≤◌}
use native.Mathlib.Omega.{arith}
use lib.ListN.{length, drop, length-drop}
use lib.Seq.{length-take-le}
use Rattle.base_words.specs.Numbers.{number}
use Rattle.base_algebra.specs.Mod.{Mod, m_refl, m_eq, m_trans}
use Rattle.base_algebra.specs.Ring.{ring=, reify}
use Rattle.poly1305_limbs.specs.Limbs.{prime}
use Rattle.poly1305_mac.specs.Poly1305.{piece, first_pieces, absorb_all}
use Rattle.poly1305_mac.specs.Blocks.{unreduced}
use Rattle.poly1305_mac.proofs.Pieces.{absorb_next, bit_above}
use Rattle.poly1305_x4.specs.Poly4.{bit, power4, lane_after, combined}

-- one block each
first_group : (r a b0 b1 b2 b3 : ℕ)
    → combined r (a + b0) (0 + b1) (0 + b2) (0 + b3) ≡ ((((a + b0) * r + b1) * r + b2) * r + b3) * r
first_group r a b0 b1 b2 b3 = ring= _ _ (r ∷ a ∷ b0 ∷ b1 ∷ b2 ∷ b3 ∷ []) (search reify depth 40 fits 9000) refl

-- one block more each
next_group : (r x0 x1 x2 x3 b0 b1 b2 b3 : ℕ)
    → combined r (x0 * power4 r + b0) (x1 * power4 r + b1) (x2 * power4 r + b2) (x3 * power4 r + b3)
    ≡ ((((combined r x0 x1 x2 x3 + b0) * r + b1) * r + b2) * r + b3) * r
next_group r x0 x1 x2 x3 b0 b1 b2 b3 =
    ring= _ _ (r ∷ x0 ∷ x1 ∷ x2 ∷ x3 ∷ b0 ∷ b1 ∷ b2 ∷ b3 ∷ []) (search reify depth 40 fits 9000) refl

-- the four blocks from block n on
blocks_four : (r a : ℕ) (m : List ℕ) (n : ℕ)
    → unreduced r bit a m (suc (suc (suc (suc n))))
    ≡ ((((unreduced r bit a m n + (number (piece m n) + bit)) * r + (number (piece m (suc n)) + bit)) * r
    + (number (piece m (suc (suc n))) + bit)) * r
    + (number (piece m (suc (suc (suc n)))) + bit)) * r
unfolding unreduced
blocks_four r a m n = refl

lanes_blocks : (r a : ℕ) (m : List ℕ) (k : ℕ)
    → combined r (lane_after r a m k 0) (lane_after r a m k 1) (lane_after r a m k 2) (lane_after r a m k 3)
    ≡ unreduced r bit a m (4 * suc k)
unfolding lane_after unreduced
lanes_blocks r a m zero =
    first_group r a (number (piece m 0) + bit) (number (piece m 1) + bit)
    (number (piece m 2) + bit) (number (piece m 3) + bit)
lanes_blocks r a m (suc k) =
    let n = 4 * suc k in
    let e : 4 * suc (suc k) ≡ suc (suc (suc (suc n))) = omega arith in
    let e0 : n + 0 ≡ n = omega arith in
    let e1 : n + 1 ≡ suc n = omega arith in
    let e2 : n + 2 ≡ suc (suc n) = omega arith in
    let e3 : n + 3 ≡ suc (suc (suc n)) = omega arith in
    rw (e, e0, e1, e2, e3)
    (next_group r (lane_after r a m k 0) (lane_after r a m k 1) (lane_after r a m k 2) (lane_after r a m k 3)
    (number (piece m n) + bit) (number (piece m (suc n)) + bit)
    (number (piece m (suc (suc n))) + bit) (number (piece m (suc (suc (suc n)))) + bit)
    ∙ ap (λ (p : ℕ). ((((p + (number (piece m n) + bit)) * r + (number (piece m (suc n)) + bit)) * r
    + (number (piece m (suc (suc n))) + bit)) * r
    + (number (piece m (suc (suc (suc n)))) + bit)) * r) (lanes_blocks r a m k)
    ∙ sym (blocks_four r a m n))

-- blocks of 16 bytes are the pieces
length_piece : (m : List ℕ) (n : ℕ) → 16 * suc n ≤ length m → length (piece m n) ≡ 16
unfolding piece
length_piece m n h = length-take-le 16 (drop (16 * n) m) (omega (arith, length-drop (16 * n) m))

blocks_pieces : (r a : ℕ) (m : List ℕ) (n : ℕ) → 16 * n ≤ length m
    → Mod prime (unreduced r bit a m n) (absorb_all r a (first_pieces m n))
unfolding unreduced first_pieces absorb_all
blocks_pieces r a m zero h = m_refl
blocks_pieces r a m (suc n) h =
    absorb_next r a (first_pieces m n) (piece m n)
    (blocks_pieces r a m n (omega arith)) m_refl (bit_above (piece m n) (length_piece m n h))

-- the first 4 (k + 1) blocks of m, from any accumulator a, under any r
pub four_lanes : (r a : ℕ) (m : List ℕ) (k : ℕ) → 64 * suc k ≤ length m
    → Mod prime (combined r (lane_after r a m k 0) (lane_after r a m k 1) (lane_after r a m k 2) (lane_after r a m k 3))
    (absorb_all r a (first_pieces m (4 * suc k)))
four_lanes r a m k h = m_trans (m_eq (lanes_blocks r a m k)) (blocks_pieces r a m (4 * suc k) (omega arith))
