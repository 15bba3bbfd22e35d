-- The laws of the functions that absorb a message. Assumes nothing.
use mathlib.Core.Path.{◌≡◌, refl, sym, ap, ap₂, ◌∙◌}
use mathlib.Core.List.{List, [], ◌∷◌, ◌++◌}
use Prim.Native.Nat.{ℕ, zero, suc, ◌+◌, ◌*◌, ◌-◌, ◌/◌, ◌%◌, ◌^◌, ◌≤◌}
use native.Mathlib.Nat.{suc-add, zero-add, mul-zero, add-zero}
use native.Mathlib.Omega.{arith}
use Rattle.std.proofs.Common.{add-one}
use lib.ListN.{length, take, drop, set, replicate, length-append, length-drop, length-set, length-replicate}
use lib.Seq.{length-take-le, take_all, drop-append-le, set_at, append_snoc}
use Rattle.base_words.specs.Numbers.{number}
use Rattle.base_algebra.specs.Mod.{Mod, m_refl, m_eq, m_sym, m_trans, m_add, m_mul, m_mod}
use Rattle.base_words.specs.List.{over, over_eq}
use Rattle.poly1305_limbs.specs.Limbs.{prime}
use Rattle.poly1305_mac.specs.Poly1305.{piece, first_pieces, pieces, absorb, absorb_all, pad16}
use Rattle.poly1305_mac.specs.Blocks.{unreduced}
use Rattle.poly1305_mac.specs.Laws.{absorb_mod, absorb_all_append, first_pieces_of, length_pad16, padded_same}
use Rattle.poly1305_mac.proofs.Bytes.{number_append}

-- `step`: a block is added, and the sum multiplied
pub step_is : (h r : ℕ) {n c e d x : ℕ} → c ≡ n → e ≡ h + c → Mod prime d (e * r) → Mod prime x d
    → Mod prime x ((h + n) * r)
step_is h r f g k l = m_trans l (m_trans k (m_eq (ap (λ (y : ℕ). y * r) (g ∙ ap (λ (y : ℕ). h + y) f))))

-- one piece more, where n is its number with the bit beyond it
pub absorb_next : (r a : ℕ) (ps : List (List ℕ)) (p : List ℕ) {b x n : ℕ}
    → Mod prime b (absorb_all r a ps) → Mod prime x ((b + n) * r) → n ≡ number (p ++ (1 ∷ []))
    → Mod prime x (absorb_all r a (ps ++ (p ∷ [])))
unfolding absorb_all absorb
absorb_next r a ps p {b} h k e =
    m_trans k
    (m_trans (m_eq (ap (λ (n : ℕ). (b + n) * r) e))
    (m_trans (m_sym (m_mod prime ((b + number (p ++ (1 ∷ []))) * r)))
    (m_trans (absorb_mod r p h) (m_eq (sym (absorb_all_append r a ps (p ∷ [])))))))

-- the bit beyond a whole piece
pub bit_above : (p : List ℕ) → length p ≡ 16 → number p + 2 ^ 24 * 2 ^ 104 ≡ number (p ++ (1 ∷ []))
unfolding number
bit_above p h = sym (number_append p (1 ∷ []) ∙ ap (λ (n : ℕ). number p + 256 ^ n * 1) h)

number_zeros : (n : ℕ) → number (replicate n 0) ≡ 0
unfolding number
number_zeros zero = refl
number_zeros (suc n) = ap (λ (x : ℕ). 0 + 256 * x) (number_zeros n)

zeros_after : (s : List ℕ) (n : ℕ) → number (s ++ replicate n 0) ≡ number s
zeros_after s n =
    number_append s (replicate n 0)
    ∙ ap (λ (x : ℕ). number s + 256 ^ length s * x) (number_zeros n)
    ∙ ap (λ (x : ℕ). number s + x) (mul-zero (256 ^ length s))
    ∙ add-zero (number s)

-- ---- the loop over the blocks

pub blocks_none : (r t h : ℕ) (m : List ℕ) → Mod prime h (unreduced r t h m 0)
unfolding unreduced
blocks_none r t h m = m_refl

pub blocks_more : (r t h : ℕ) (m : List ℕ) {a x : ℕ} (i : ℕ) → Mod prime a (unreduced r t h m i)
    → Mod prime x ((a + (number (take 16 (drop (16 * i) m)) + t)) * r) → Mod prime x (unreduced r t h m (i + 1))
unfolding unreduced piece
blocks_more r t h m i is k = rw (add-one i) (m_trans k (m_mul (m_add is m_refl) m_refl))

-- with the bit above each, they are the pieces that have 16 bytes
length_piece : (m : List ℕ) (n : ℕ) → 16 * suc n ≤ length m → length (piece m n) ≡ 16
unfolding piece
length_piece m n h = length-take-le 16 (drop (16 * n) m) (omega (arith, length-drop (16 * n) m))

blocks_pieces : (r a : ℕ) (m : List ℕ) (n : ℕ) → 16 * n ≤ length m
    → Mod prime (unreduced r (2 ^ 24 * 2 ^ 104) a m n) (absorb_all r a (first_pieces m n))
unfolding unreduced first_pieces absorb_all
blocks_pieces r a m zero h = m_refl
blocks_pieces r a m (suc n) h =
    absorb_next r a (first_pieces m n) (piece m n)
    (blocks_pieces r a m n (omega arith)) m_refl (bit_above (piece m n) (length_piece m n h))

-- a single block
one_block : (r t a : ℕ) (b : List ℕ) → length b ≡ 16 → unreduced r t a b (length b / 16) ≡ (a + (number b + t)) * r
unfolding unreduced piece
one_block r t a b l =
    ap (λ (n : ℕ). unreduced r t a b (n / 16)) l
    ∙ ap (λ (s : List ℕ). (a + (number s + t)) * r) (take_all 16 b (omega arith))

-- ---- what is left after the whole pieces

module _ (m : List ℕ) where
  left : piece m (length m / 16) ≡ drop (16 * (length m / 16)) m
  unfolding piece
  left = take_all 16 (drop (16 * (length m / 16)) m) (omega (arith, length-drop (16 * (length m / 16)) m))

  length_left : length (piece m (length m / 16)) ≡ length m % 16
  length_left = ap length left ∙ omega (arith, length-drop (16 * (length m / 16)) m)

drop_zeros : (n k : ℕ) → drop n (replicate {A = ℕ} (n + k) 0) ≡ replicate k 0
drop_zeros zero k = ap (λ (i : ℕ). replicate {A = ℕ} i 0) (zero-add k)
drop_zeros (suc n) k = ap (λ (i : ℕ). drop (suc n) (replicate {A = ℕ} i 0)) (suc-add n k) ∙ drop_zeros n k

-- `rest`: the bytes from at on, copied over zeros
pub rest_is : (m : List ℕ) (at : ℕ) → at ≡ length m - length m % 16
    → over 0 (take (length m - at) (drop at m)) (replicate 16 0)
    ≡ piece m (length m / 16) ++ replicate (16 - length m % 16) 0
rest_is m at e =
    ap (λ (l : List ℕ). over 0 l (replicate 16 0)) same
    ∙ over_eq (piece m (length m / 16)) (replicate 16 0) 0 (omega (arith, length_left m))
    ∙ ap (λ (l : List ℕ). piece m (length m / 16) ++ l) (ap (λ (i : ℕ). drop i (replicate {A = ℕ} 16 0)) short
    ∙ ap (λ (i : ℕ). drop (length m % 16) (replicate {A = ℕ} i 0)) full
    ∙ drop_zeros (length m % 16) (16 - length m % 16))
  where
    start : at ≡ 16 * (length m / 16)
    start = omega arith

    same : take (length m - at) (drop at m) ≡ piece m (length m / 16)
    same =
        take_all (length m - at) (drop at m) (omega (arith, length-drop at m))
        ∙ ap (λ (i : ℕ). drop i m) start ∙ sym (left m)

    short : 0 + length (piece m (length m / 16)) ≡ length m % 16
    short = omega (arith, length_left m)

    full : 16 ≡ length m % 16 + (16 - length m % 16)
    full = omega arith

-- ---- the pieces of m, and of m with its padding

module _ (m : List ℕ) where
  none_left : length m % 16 ≡ 0 → first_pieces m (length m / 16) ≡ pieces m
  unfolding pieces
  none_left h = ap (first_pieces m) count
    where
      count : length m / 16 ≡ (length m + 15) / 16
      count = omega arith

  some_left : (length m % 16 ≡ 0 → ⊥) → first_pieces m (length m / 16) ++ (piece m (length m / 16) ∷ []) ≡ pieces m
  unfolding pieces first_pieces
  some_left h = ap (first_pieces m) count
    where
      count : suc (length m / 16) ≡ (length m + 15) / 16
      count = omega arith

  none_padded : length m % 16 ≡ 0 → first_pieces m (length m / 16) ≡ pieces (m ++ pad16 m)
  none_padded h = none_left h ∙ ap pieces (sym (padded_same m h))

  some_padded : (length m % 16 ≡ 0 → ⊥)
      → first_pieces m (length m / 16) ++ ((piece m (length m / 16) ++ replicate (16 - length m % 16) 0) ∷ [])
      ≡ pieces (m ++ pad16 m)
  unfolding pieces first_pieces piece pad16
  some_padded h = sym
      (ap (first_pieces (m ++ pad16 m)) count
      ∙ ap₂ (λ (l : List (List ℕ)) (p : List ℕ). l ++ (p ∷ []))
      (first_pieces_of m (pad16 m) (length m / 16) (omega arith))
      (ap (take 16) (drop-append-le (16 * (length m / 16)) m (pad16 m) (omega arith))
      ∙ take_all 16 (drop (16 * (length m / 16)) m ++ pad16 m) full
      ∙ ap₂ (λ (l : List ℕ) (i : ℕ). l ++ replicate i 0) (sym (left m)) some))
    where
      some : (16 - length m % 16) % 16 ≡ 16 - length m % 16
      some = omega arith

      count : (length (m ++ pad16 m) + 15) / 16 ≡ suc (length m / 16)
      count = omega (arith, length-append m (pad16 m), length_pad16 m)

      full : length (drop (16 * (length m / 16)) m ++ pad16 m) ≤ 16
      full = omega (
        arith,
        length-append (drop (16 * (length m / 16)) m) (pad16 m),
        length-drop (16 * (length m / 16)) m,
        length_pad16 m,
      )

-- ---- the last piece

module _ (m : List ℕ) where
  sixteen : length (piece m (length m / 16) ++ replicate (16 - length m % 16) 0) ≡ 16
  sixteen = omega (
    arith,
    length-append (piece m (length m / 16)) (replicate (16 - length m % 16) 0),
    length_left m,
    length-replicate {A = ℕ} (16 - length m % 16) 0,
  )

  -- with a 1 after it, and zeros after that
  marked : number (set (piece m (length m / 16) ++ replicate (16 - length m % 16) 0) (length m % 16) 1) + 0 * 2 ^ 104
      ≡ number (piece m (length m / 16) ++ (1 ∷ []))
  marked =
      add-zero (number (set (piece m (length m / 16) ++ replicate (16 - length m % 16) 0) (length m % 16) 1))
      ∙ ap number
      (ap (λ (i : ℕ). set (piece m (length m / 16) ++ replicate i 0) (length m % 16) 1) one_more
      ∙ set_at (piece m (length m / 16)) 0 (replicate (15 - length m % 16) 0) 1 (length m % 16) (length_left m)
      ∙ sym (append_snoc (piece m (length m / 16)) 1 (replicate (15 - length m % 16) 0)))
      ∙ zeros_after (piece m (length m / 16) ++ (1 ∷ [])) (15 - length m % 16)
    where
      one_more : 16 - length m % 16 ≡ suc (15 - length m % 16)
      one_more = omega arith

-- ---- a whole message, whose whole blocks left a

module _ (r h : ℕ) (m : List ℕ) {a : ℕ} (A : Mod prime a (unreduced r (2 ^ 24 * 2 ^ 104) h m (length m / 16))) where
  first : Mod prime a (absorb_all r h (first_pieces m (length m / 16)))
  first = m_trans A (blocks_pieces r h m (length m / 16) (omega arith))

  -- `absorb`
  pub absorb_none : length m % 16 ≡ 0 → Mod prime a (absorb_all r h (pieces m))
  absorb_none e = rw (none_left m e) at first

  pub absorb_left : (b : List ℕ) {x : ℕ} → (length m % 16 ≡ 0 → ⊥)
      → b ≡ piece m (length m / 16) ++ replicate (16 - length m % 16) 0
      → Mod prime x (unreduced r (0 * 2 ^ 104) a (set b (length m % 16) 1) (length (set b (length m % 16) 1) / 16))
      → Mod prime x (absorb_all r h (pieces m))
  absorb_left b n e k =
      rw (some_left m n) at
      (absorb_next r h (first_pieces m (length m / 16)) (piece m (length m / 16)) first
      (m_trans k (m_eq (one_block r (0 * 2 ^ 104) a (set b (length m % 16) 1)
      (length-set b (length m % 16) 1 ∙ ap length e ∙ sixteen m))))
      (ap (λ (l : List ℕ). number (set l (length m % 16) 1) + 0 * 2 ^ 104) e ∙ marked m))

  -- `absorb_padded`
  pub padded_none : length m % 16 ≡ 0 → Mod prime a (absorb_all r h (pieces (m ++ pad16 m)))
  padded_none e = rw (none_padded m e) at first

  pub padded_left : (b : List ℕ) {x : ℕ} → (length m % 16 ≡ 0 → ⊥)
      → b ≡ piece m (length m / 16) ++ replicate (16 - length m % 16) 0
      → Mod prime x (unreduced r (2 ^ 24 * 2 ^ 104) a b (length b / 16))
      → Mod prime x (absorb_all r h (pieces (m ++ pad16 m)))
  padded_left b n e k =
      rw (some_padded m n) at
      (absorb_next r h (first_pieces m (length m / 16))
      (piece m (length m / 16) ++ replicate (16 - length m % 16) 0) first
      (m_trans k (m_eq (one_block r (2 ^ 24 * 2 ^ 104) a b (ap length e ∙ sixteen m))))
      (ap (λ (l : List ℕ). number l + 2 ^ 24 * 2 ^ 104) e
      ∙ bit_above (piece m (length m / 16) ++ replicate (16 - length m % 16) 0) (sixteen m)))
