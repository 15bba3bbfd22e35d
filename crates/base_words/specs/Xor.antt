-- Xor, bit by bit, and that it cancels: of numbers, and of lists of one length, word by word. Assumes nothing.
use Rattle.std.specs.Prelude.{◌≡◌, ℕ, zero, suc, ◌+◌, ◌*◌, ◌/◌, ◌%◌, ◌^◌, ◌<◌, List, [], ◌∷◌, length, ◌==◌, bit_xor}
use Rattle.std.specs.Prelude.{nat_eq, refl}
use Rattle.std.proofs.Common.{sym, ◌∙◌, ap, ap₂, arith}
use Rattle.std.proofs.Math.Bool.{xor}
use mathlib.Core.List.{zip_with}
use Rattle.std.proofs.Math.Nat.{suc_inj}
use Rattle.std.proofs.Math.Arith.{bin_ind}
use Rattle.std.specs.Int.Bits.{differ, xor_step}
use Rattle.std.proofs.lemmas.Nat.{xor_shr, xor_comm}
use Rattle.base_algebra.specs.Bit.{odd}

pub data Bit : ℕ → Type 0 where
  off : Bit 0
  on : Bit 1

pub is_bit : (x : ℕ) → x < 2 → Bit x
is_bit zero h = off
is_bit (suc zero) h = on
is_bit (suc (suc x)) h = absurd (omega arith)

the_bit : (x : ℕ) → Bit (x % 2)
the_bit x = is_bit (x % 2) (omega arith)

differ_back : {x y : ℕ} → Bit x → Bit y → differ x (differ x y) ≡ y
differ_back off off = refl
differ_back off on = refl
differ_back on off = refl
differ_back on on = refl

differ_lt : {x y : ℕ} → Bit x → Bit y → differ x y < 2
differ_lt off off = omega arith
differ_lt off on = omega arith
differ_lt on off = omega arith
differ_lt on on = omega arith

pub xor_back : (a b : ℕ) → bit_xor a (bit_xor a b) ≡ b
xor_back = bin_ind (λ (n : ℕ). (b : ℕ) → bit_xor n (bit_xor n b) ≡ b) (λ b. refl) λ n ih b. next n b (ih (b / 2))
  where
    next : (n b : ℕ) → bit_xor (n / 2) (bit_xor (n / 2) (b / 2)) ≡ b / 2 → bit_xor n (bit_xor n b) ≡ b
    next n b ih =
        let d = differ (n % 2) (b % 2) in
        let x = bit_xor n b in
        let s : x ≡ bit_xor (n / 2) (b / 2) * 2 + d = xor_step n b in
        let l : d < 2 = differ_lt (the_bit n) (the_bit b) in
        let h : x / 2 ≡ bit_xor (n / 2) (b / 2) = omega arith in
        let o : x % 2 ≡ d = omega arith in
        xor_step n x
        ∙ ap₂ (λ (p q : ℕ). p * 2 + q) (ap (bit_xor (n / 2)) h ∙ ih)
        (ap (differ (n % 2)) o ∙ differ_back (the_bit n) (the_bit b)) ∙ omega arith

pub xor_twice : (a b : ℕ) → bit_xor (bit_xor a b) b ≡ a
xor_twice a b = xor_comm (bit_xor a b) b ∙ ap (bit_xor b) (xor_comm a b) ∙ xor_back b a

-- the lowest bit of a xor
xor_low : (a b : ℕ) → bit_xor a b % 2 ≡ differ (a % 2) (b % 2)
xor_low a b =
    let d = differ (a % 2) (b % 2) in
    let s : bit_xor a b ≡ bit_xor (a / 2) (b / 2) * 2 + d = xor_step a b in
    let l : d < 2 = differ_lt (the_bit a) (the_bit b) in
    omega arith

-- any bit of it
pub xor_bit : (a b k : ℕ) → bit_xor a b / 2 ^ k % 2 ≡ differ (a / 2 ^ k % 2) (b / 2 ^ k % 2)
xor_bit a b k = ap (λ (x : ℕ). x % 2) (xor_shr a b k) ∙ xor_low (a / 2 ^ k) (b / 2 ^ k)

pub odd_xor : (a b : ℕ) → odd (bit_xor a b) ≡ xor (odd a) (odd b)
unfolding odd xor
odd_xor a b = ap (λ (x : ℕ). nat_eq x 1) (xor_low a b) ∙ decided (the_bit a) (the_bit b)
  where
    decided : {x y : ℕ} → Bit x → Bit y → (differ x y == 1) ≡ xor (x == 1) (y == 1)
    decided off off = refl
    decided off on = refl
    decided on off = refl
    decided on on = refl

-- ---- of two lists, word by word

unfoldable pub xors : List ℕ → List ℕ → List ℕ
xors = zip_with bit_xor

pub xors_back : (a b : List ℕ) → length a ≡ length b → xors a (xors a b) ≡ b
unfolding xors zip_with
xors_back [] [] h = refl
xors_back [] (y ∷ b) h = absurd (omega arith)
xors_back (x ∷ a) [] h = absurd (omega arith)
xors_back (x ∷ a) (y ∷ b) h = ap₂ ◌∷◌ (xor_back x y) (xors_back a b (suc_inj h))

xors_comm : (a b : List ℕ) → xors a b ≡ xors b a
unfolding xors zip_with
xors_comm [] [] = refl
xors_comm [] (y ∷ b) = refl
xors_comm (x ∷ a) [] = refl
xors_comm (x ∷ a) (y ∷ b) = ap₂ ◌∷◌ (xor_comm x y) (xors_comm a b)

pub xors_other : (a b : List ℕ) → length a ≡ length b → xors b (xors a b) ≡ a
xors_other a b h = rw (xors_comm a b) (xors_back b a (sym h))
