-- The order of signed words: 2^31 more, and it is the order of words. Assumes nothing.
use mathlib.Core.Path.{◌≡◌, refl, sym, ap, ap₂, ◌∙◌}
use mathlib.Core.Bool.{Bool, true, false}
use Prim.Native.Nat.{ℕ, suc, ◌+◌, ◌-◌, ◌%◌, ◌^◌, ◌<◌, ◌≤◌}
use native.Mathlib.Omega.{arith}
use borrow.Author.Tests.{ltb-true, ltb-false, leb-true, leb-false, le-leb}
use lib.Dec.{ltb, leb}
use lib.IntN.{ℤ, pos, neg_ℤ}
use lib.Signed.{le_z}
use Rattle.base_algebra.specs.Word.{add, signed}
use Rattle.measure_table.specs.Laws.{signed_low, signed_high}

-- two tests agree if each order follows from the other
leb_same : (a b c d : ℕ) → (a ≤ b → c ≤ d) → (c ≤ d → a ≤ b) → leb a b ≡ leb c d
leb_same a b c d f g = go (leb a b) (leb c d) refl refl
  where
    go : (p q : Bool) → leb a b ≡ p → leb c d ≡ q → p ≡ q
    go true true e h = refl
    go true false e h = absurd (omega (arith, f (leb-true a b e), leb-false c d h))
    go false true e h = absurd (omega (arith, g (leb-true c d h), leb-false a b e))
    go false false e h = refl

pub signed_order : (a b : ℕ) → a < 2 ^ 32 → b < 2 ^ 32
    → leb (add a (2 ^ 31)) (add b (2 ^ 31)) ≡ le_z (signed a) (signed b)
unfolding add
signed_order a b la lb = go (ltb a (2 ^ 31)) (ltb b (2 ^ 31)) refl refl
  where
    go : (p q : Bool) → ltb a (2 ^ 31) ≡ p → ltb b (2 ^ 31) ≡ q
        → leb ((a + 2 ^ 31) % 2 ^ 32) ((b + 2 ^ 31) % 2 ^ 32) ≡ le_z (signed a) (signed b)
    go true true e f =
        let ka = ltb-true a (2 ^ 31) e in
        let kb = ltb-true b (2 ^ 31) f in
        leb_same ((a + 2 ^ 31) % 2 ^ 32) ((b + 2 ^ 31) % 2 ^ 32) a b (λ h. omega arith) (λ h. omega arith)
        ∙ sym (ap₂ le_z (signed_low a ka) (signed_low b kb))
    go true false e f =
        let ka = ltb-true a (2 ^ 31) e in
        let kb = ltb-false b (2 ^ 31) f in
        leb_same ((a + 2 ^ 31) % 2 ^ 32) ((b + 2 ^ 31) % 2 ^ 32) 1 0 (λ h. omega arith) (λ h. omega arith)
        ∙ sym (ap₂ le_z (signed_low a ka) (signed_high b kb lb))
    go false true e f =
        let ka = ltb-false a (2 ^ 31) e in
        let kb = ltb-true b (2 ^ 31) f in
        leb_same ((a + 2 ^ 31) % 2 ^ 32) ((b + 2 ^ 31) % 2 ^ 32) 0 1 (λ h. omega arith) (λ h. omega arith)
        ∙ sym (ap₂ le_z (signed_high a ka la) (signed_low b kb))
    go false false e f =
        let ka = ltb-false a (2 ^ 31) e in
        let kb = ltb-false b (2 ^ 31) f in
        leb_same ((a + 2 ^ 31) % 2 ^ 32) ((b + 2 ^ 31) % 2 ^ 32) (2 ^ 32 - suc b) (2 ^ 32 - suc a)
        (λ h. omega arith) (λ h. omega arith) ∙ sym (ap₂ le_z (signed_high a ka la) (signed_high b kb lb))

-- a word's signed value lies from -2^31 to 2^31 - 1
pub signed_least : (w : ℕ) → w < 2 ^ 32 → le_z (neg_ℤ (pos (2 ^ 31))) (signed w) ≡ true
signed_least w l = go (ltb w (2 ^ 31)) refl
  where
    go : (b : Bool) → ltb w (2 ^ 31) ≡ b → le_z (neg_ℤ (pos (2 ^ 31))) (signed w) ≡ true
    go true e = ap (le_z (neg_ℤ (pos (2 ^ 31)))) (signed_low w (ltb-true w (2 ^ 31) e))
    go false e =
        let k = ltb-false w (2 ^ 31) e in
        ap (le_z (neg_ℤ (pos (2 ^ 31)))) (signed_high w k l) ∙ le-leb (2 ^ 32 - suc w) (2 ^ 31 - 1) (omega arith)

pub signed_most : (w : ℕ) → w < 2 ^ 32 → le_z (signed w) (pos (2 ^ 31 - 1)) ≡ true
signed_most w l = go (ltb w (2 ^ 31)) refl
  where
    top : ℤ → Bool
    top z = le_z z (pos (2 ^ 31 - 1))

    go : (b : Bool) → ltb w (2 ^ 31) ≡ b → top (signed w) ≡ true
    go true e =
        let k = ltb-true w (2 ^ 31) e in
        ap top (signed_low w k) ∙ le-leb w (2 ^ 31 - 1) (omega arith)
    go false e = ap top (signed_high w (ltb-false w (2 ^ 31) e) l)
