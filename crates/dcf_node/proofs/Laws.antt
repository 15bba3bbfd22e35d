-- What the functions of this crate come to, over plain numbers and lists. Assumes nothing.
use mathlib.Core.Path.{◌≡◌, refl, sym, ◌∙◌, ap, ap₂}
use mathlib.Core.Bool.{Bool, true, false, xor, ◌&&◌}
use mathlib.Core.List.{List, [], ◌∷◌, zip_with}
use Prim.Native.Nat.{ℕ, zero, suc, ◌-◌, ◌/◌, ◌%◌, ◌^◌, ◌<◌}
use native.Mathlib.Nat.{div-one}
use native.Mathlib.Omega.{arith}
use lib.Bits.{bit_and, bit_xor, and_mask, xor_zero_r}
use lib.Dec.{eqb}
use lib.ListN.{length, get_or}
use Rattle.base_algebra.specs.Ring.{ring}
use Rattle.base_algebra.specs.Word.{add, sub, neg, ◌≈◌, words, sub_lt, neg_lt, same_word}
use Rattle.base_algebra.specs.Bit.{only, odd, only_odd}
use Rattle.base_words.specs.Spelt.{all}
use Rattle.base_words.specs.Xor.{xors, odd_xor}
use Rattle.dcf_function.specs.Dcf.{Correction, by_sign, bits, side_flag, corrected}

-- x - 2x is -x
pub by_sign_lem : (t : Bool) (x y z : ℕ) → y ≡ add x x → z ≡ only t y → x < 2 ^ 32 → sub x z ≡ by_sign t x
unfolding only by_sign
by_sign_lem true x y z ey ez h = rw (ez, ey) (same_word (minus x) (sub_lt x (add x x)) (neg_lt x))
  where
    minus : (x : ℕ) → sub x (add x x) ≈ neg x
    minus x = ring (x ∷ []) (search words depth 40 fits 5000) refl
by_sign_lem false x y z ey ez h = rw ez (same_word (zero_off x) (sub_lt x 0) h)
  where
    zero_off : (x : ℕ) → sub x 0 ≈ x
    zero_off x = ring (x ∷ []) (search words depth 40 fits 5000) refl

pub level_bit : (u i : ℕ) → bit_and (u / 2 ^ (31 - i)) 1 ≡ only (bits 32 u i) 1
unfolding bits
level_bit u i =
    let e : 32 - suc i ≡ 31 - i = omega arith in
    rw (e, only_odd (u / 2 ^ (31 - i))) (and_mask (u / 2 ^ (31 - i)) 1)

-- a shift by a side's number picks the side's flag
pub shifted : (l d : ℕ) (c : Correction (List ℕ)) → c.left ≡ odd l → c.right ≡ odd (l / 2)
    → odd (l / 2 ^ (bit_and d 1)) ≡ side_flag c (odd d)
unfolding odd side_flag
shifted l d c el er = rw (and_mask d 1) (go (d % 2) (omega arith))
  where
    go : (b : ℕ) → b < 2 → eqb (l / 2 ^ b % 2) 1 ≡ side_flag c (eqb b 1)
    go zero h = ap (λ (x : ℕ). eqb (x % 2) 1) (div-one l) ∙ sym el
    go (suc zero) h = sym er
    go (suc (suc b)) h = absurd (omega arith)

pub next_flag_lem : (t f : Bool) (a x y : ℕ) → odd x ≡ f → y ≡ only t x → odd (bit_xor a y) ≡ xor (odd a) (t && f)
unfolding only odd
next_flag_lem true f a x y ex ey = odd_xor a y ∙ ap (xor (odd a)) (ap odd ey ∙ ex)
next_flag_lem false f a x y ex ey = odd_xor a y ∙ ap (xor (odd a)) (ap odd ey)

-- two seeds of eight words, one corrected by the other word by word
module _ (s c : List ℕ) (hs : length s ≡ 8) (hc : length c ≡ 8) where
  abbrev pub pairs : (ℕ → ℕ) → List ℕ
  pairs x =
      bit_xor (get_or s 0 0) (x 0) ∷ bit_xor (get_or s 1 0) (x 1)
      ∷ bit_xor (get_or s 2 0) (x 2) ∷ bit_xor (get_or s 3 0) (x 3)
      ∷ bit_xor (get_or s 4 0) (x 4) ∷ bit_xor (get_or s 5 0) (x 5)
      ∷ bit_xor (get_or s 6 0) (x 6) ∷ bit_xor (get_or s 7 0) (x 7) ∷ []

  pub seed_corrected : (t : Bool) → pairs (λ i. only t (get_or c i 0)) ≡ corrected xors t s c
  unfolding corrected xors zip_with only
  seed_corrected true = ap₂ (zip_with bit_xor) (all 8 s hs) (all 8 c hc)
  seed_corrected false = (λ i.
      xor_zero_r (get_or s 0 0) i ∷ xor_zero_r (get_or s 1 0) i
      ∷ xor_zero_r (get_or s 2 0) i ∷ xor_zero_r (get_or s 3 0) i
      ∷ xor_zero_r (get_or s 4 0) i ∷ xor_zero_r (get_or s 5 0) i
      ∷ xor_zero_r (get_or s 6 0) i ∷ xor_zero_r (get_or s 7 0) i ∷ []) ∙ all 8 s hs
