-- What the functions of this crate come to, over plain numbers and lists. Assumes nothing.
use mathlib.Core.Path.{◌≡◌, refl, sym, ◌∙◌, ap, ap₂}
use mathlib.Core.Bool.{Bool, true, false, cond}
use mathlib.Core.List.{List, [], ◌∷◌}
use Prim.Native.Nat.{ℕ, ◌+◌, ◌^◌, ◌<◌}
use native.Mathlib.Omega.{arith}
use lib.ListN.{get_or, set}
use Rattle.base_algebra.specs.Word.{words, add, sub, mul, ◌≈◌, add_lt, same_word}
use Rattle.base_algebra.specs.Bit.{only, odd}
use Rattle.base_algebra.specs.Ring.{ring}
use Rattle.base_algebra.specs.Sum.{sum, sum_more}
use Rattle.base_words.specs.List.{over, tab, over_tab}
use Rattle.measure_table.specs.declared.Terms.{Terms}
use Rattle.measure_table.specs.Measure.{row, own_word}
use Rattle.share_vectors.specs.Share.{inner, share}

-- a share of no places, and one place more
pub share_none : (party c : ℕ) (mx my sx sy : List ℕ) → c < 2 ^ 32 → c ≡ share party 0 c mx my sx sy
unfolding share inner sum only
share_none party c mx my sx sy h = same_word (zero_place (odd party) c) h (add_lt _ _)
  where
    zero_place : (b : Bool) (c : ℕ) → c ≈ add (sub (sub c 0) 0) (only b 0)
    zero_place true c = ring (c ∷ []) (search words depth 40 fits 5000) refl
    zero_place false c = ring (c ∷ []) (search words depth 40 fits 5000) refl

place_more : (b : Bool) (c p q r x y u v : ℕ)
    → add (add (sub (sub c p) q) (only b r)) (sub (mul x (sub (only b y) v)) (mul y u))
    ≈ add (sub (sub c (add p (mul x v))) (add q (mul y u))) (only b (add r (mul x y)))
unfolding only
place_more true c p q r x y u v = ring (c ∷ p ∷ q ∷ r ∷ x ∷ y ∷ u ∷ v ∷ []) (search words depth 40 fits 9000) refl
place_more false c p q r x y u v = ring (c ∷ p ∷ q ∷ r ∷ x ∷ y ∷ u ∷ v ∷ []) (search words depth 40 fits 9000) refl

pub share_more : (party i c : ℕ) (mx my sx sy : List ℕ) (t o f a b d s : ℕ)
    → t ≡ share party i c mx my sx sy → o ≡ only (odd party) (get_or my i 0) → f ≡ sub o (get_or sy i 0)
    → a ≡ mul (get_or mx i 0) f → b ≡ mul (get_or my i 0) (get_or sx i 0) → d ≡ sub a b → s ≡ add t d
    → s ≡ share party (i + 1) c mx my sx sy
unfolding share inner
share_more party i c mx my sx sy t o f a b d s et eo ef ea eb ed es =
    es ∙ ap₂ add et (ed ∙ ap₂ sub (ea ∙ ap (mul (get_or mx i 0)) (ef ∙ ap (λ (x : ℕ). sub x (get_or sy i 0)) eo)) eb)
    ∙ same_word (place_more (odd party) c _ _ _ (get_or mx i 0) (get_or my i 0) (get_or sx i 0) (get_or sy i 0))
    (add_lt _ _) (add_lt _ _)
    ∙ rw (
      sum_more (λ j. mul (get_or mx j 0) (get_or sy j 0)) i,
      sum_more (λ j. mul (get_or my j 0) (get_or sx j 0)) i,
      sum_more (λ j. mul (get_or mx j 0) (get_or my j 0)) i,
    ) refl

-- one place more of a sum of vectors and of a sum of products
pub add_more : (a b out₀ out : List ℕ) (i v : ℕ)
    → out ≡ over 0 (tab (λ j. add (get_or a j 0) (get_or b j 0)) i) out₀ → v ≡ add (get_or a i 0) (get_or b i 0)
    → set out i v ≡ over 0 (tab (λ j. add (get_or a j 0) (get_or b j 0)) (i + 1)) out₀
add_more a b out₀ out i v e ev =
    let front : 0 + i ≡ i = omega arith in
    ap (set out i) ev ∙ ap (λ (k : ℕ). set out k (add (get_or a i 0) (get_or b i 0))) (sym front)
    ∙ over_tab (λ j. add (get_or a j 0) (get_or b j 0)) out₀ out 0 i e

pub inner_more : (a b : List ℕ) (i t p s : ℕ) → t ≡ inner i a b → p ≡ mul (get_or a i 0) (get_or b i 0) → s ≡ add t p
    → s ≡ inner (i + 1) a b
unfolding inner
inner_more a b i t p s et ep es = es ∙ ap₂ add et ep ∙ sym (sum_more (λ j. mul (get_or a j 0) (get_or b j 0)) i)

-- a measure's own term: a vector's product with itself, or none
module _ (terms : Terms) (v : List ℕ) where
  pub own_squares : (b : Bool) (r : ℕ) → b ≡ true → b ≡ (row terms.code).squares → r ≡ inner terms.n v v
      → r ≡ own_word terms v
  unfolding own_word inner
  own_squares b r t e h = h ∙ ap (λ (c : Bool). cond c (inner terms.n v v) 0) (sym t ∙ e)

  pub own_none : (b : Bool) → b ≡ false → b ≡ (row terms.code).squares → 0 ≡ own_word terms v
  unfolding own_word inner
  own_none b f e = ap (λ (c : Bool). cond c (inner terms.n v v) 0) (sym f ∙ e)
