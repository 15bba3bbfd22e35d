-- The order of the integers under sums, negation and products, by the number that lies between the two sides.
-- Assumes nothing.
use Rattle.std.specs.Prelude.{◌≡◌, Bool, true, false, cond, [], ◌∷◌, ltb, leb, ℤ, negsuc, ◌+ℤ◌, ◌-ℤ◌, ◌*ℤ◌}
use Rattle.std.proofs.Math.Path.{refl, ap, subst}
use Rattle.std.proofs.Common.{sym, ap₂, ◌∙◌, ltb-true, ltb-false, le-leb}
use Prim.Native.Nat.{ℕ, zero, suc, ◌+◌, ◌*◌, ◌-◌, ◌≤◌}
use Rattle.std.proofs.Math.Nat.{zero-mul}
use native.Mathlib.Omega.{arith}
use Rattle.std.proofs.lemmas.Bool.{lt-leb}
use Rattle.std.proofs.Math.Dec.{leb-zero, leb-suc-zero, leb-suc-suc}
use Rattle.std.proofs.Math.IntN.{pos, neg_ℤ, sub_ℕ}
use Rattle.std.specs.Int.Signed.{le_z}
use Rattle.base_algebra.specs.Bit.{neither}
use Rattle.base_algebra.specs.Integer.{ringℤ, reifyℤ}
use Rattle.base_algebra.specs.Sum.{sumℤ}

-- ---- the test, as a test of the difference

sub_test : (a b : ℕ) → le_z (pos 0) (sub_ℕ a b) ≡ leb b a
sub_test a b = go (ltb a b) refl
  where
    go : (c : Bool) → ltb a b ≡ c → le_z (pos 0) (cond c (negsuc (b - suc a)) (pos (a - b))) ≡ leb b a
    go true e = sym (lt-leb b a (ltb-true a b e))
    go false e = leb-zero (a - b) ∙ sym (le-leb b a (ltb-false a b e))

pub above_zero : (m t : ℤ) → le_z (pos 0) (m -ℤ t) ≡ le_z t m
above_zero (pos a) (pos zero) = leb-zero (a + 0) ∙ sym (leb-zero a)
above_zero (pos a) (pos (suc b)) = sub_test a (suc b)
above_zero (pos a) (negsuc b) = leb-zero (a + suc b)
above_zero (negsuc a) (pos zero) = sub_test 0 (suc a) ∙ leb-suc-zero a
above_zero (negsuc a) (pos (suc b)) = refl
above_zero (negsuc a) (negsuc b) = sub_test (suc b) (suc a) ∙ leb-suc-suc a b

-- ---- a ≤ b, with what lies between

pub record Le (a b : ℤ) : Type 0 where
  pub gap : ℕ
  pub is : b ≡ a +ℤ pos gap

pub of_test : (a b : ℤ) → le_z a b ≡ true → Le a b
of_test a b h = go (b -ℤ a) refl (above_zero b a ∙ h)
  where
    back : (a b : ℤ) → b ≡ a +ℤ (b -ℤ a)
    back a b = ringℤ (a ∷ b ∷ []) (search reifyℤ depth 20 fits 5000) refl

    go : (z : ℤ) → b -ℤ a ≡ z → le_z (pos 0) z ≡ true → Le a b
    go (pos d) e t = record { gap = d; is = back a b ∙ ap (λ (z : ℤ). a +ℤ z) e }
    go (negsuc d) e t = neither t

pub to_test : {a b : ℤ} → Le a b → le_z a b ≡ true
to_test {a} {b} l =
    sym (above_zero b a)
    ∙ ap (le_z (pos 0)) (ap (λ (z : ℤ). z -ℤ a) l.is ∙ left a (pos l.gap))
    ∙ leb-zero l.gap
  where
    left : (a g : ℤ) → a +ℤ g -ℤ a ≡ g
    left a g = ringℤ (a ∷ g ∷ []) (search reifyℤ depth 20 fits 5000) refl

pub le_refl : (a : ℤ) → Le a a
le_refl a = record { gap = 0; is = none a }
  where
    none : (a : ℤ) → a ≡ a +ℤ pos 0
    none a = ringℤ (a ∷ []) (search reifyℤ depth 20 fits 5000) refl

pub le_trans : {a b c : ℤ} → Le a b → Le b c → Le a c
le_trans {a} {b} {c} k l = record {
  gap = k.gap + l.gap;
  is = l.is ∙ ap (λ (z : ℤ). z +ℤ pos l.gap) k.is ∙ group a (pos k.gap) (pos l.gap);
}
  where
    group : (a g h : ℤ) → a +ℤ g +ℤ h ≡ a +ℤ (g +ℤ h)
    group a g h = ringℤ (a ∷ g ∷ h ∷ []) (search reifyℤ depth 20 fits 5000) refl

pub le_add : {a b c d : ℤ} → Le a b → Le c d → Le (a +ℤ c) (b +ℤ d)
le_add {a} {b} {c} {d} k l =
    record { gap = k.gap + l.gap; is = ap₂ ◌+ℤ◌ k.is l.is ∙ group a c (pos k.gap) (pos l.gap) }
  where
    group : (a c g h : ℤ) → a +ℤ g +ℤ (c +ℤ h) ≡ a +ℤ c +ℤ (g +ℤ h)
    group a c g h = ringℤ (a ∷ c ∷ g ∷ h ∷ []) (search reifyℤ depth 20 fits 5000) refl

pub le_neg : {a b : ℤ} → Le a b → Le (neg_ℤ b) (neg_ℤ a)
le_neg {a} {b} l =
    record { gap = l.gap; is = over a (pos l.gap) ∙ ap (λ (z : ℤ). neg_ℤ z +ℤ pos l.gap) (sym l.is) }
  where
    over : (a g : ℤ) → neg_ℤ a ≡ neg_ℤ (a +ℤ g) +ℤ g
    over a g = ringℤ (a ∷ g ∷ []) (search reifyℤ depth 20 fits 5000) refl

pub le_sub : {a b c d : ℤ} → Le a b → Le c d → Le (a -ℤ d) (b -ℤ c)
le_sub k l = le_add k (le_neg l)

-- ---- products

-- a number is not below 0 if twice the number is not
half : (z : ℤ) → le_z (pos 0) (z +ℤ z) ≡ true → le_z (pos 0) z ≡ true
half (pos a) h = leb-zero a
half (negsuc a) h = neither h

pub square_pos : (z : ℤ) → Le (pos 0) (z *ℤ z)
square_pos z = of_test (pos 0) (z *ℤ z) (go z)
  where
    go : (z : ℤ) → le_z (pos 0) (z *ℤ z) ≡ true
    go (pos a) = leb-zero (a * a)
    go (negsuc a) = leb-zero (suc a * suc a)

-- what lies from -h to h has products from -h * h to h * h
module _ (h x y : ℤ) (below : Le (neg_ℤ h) x) (above : Le x h) (below' : Le (neg_ℤ h) y) (above' : Le y h) where
  -- two products of numbers that are not below 0, one for each gap
  two : (z : ℤ) (a b c d : ℕ) → z +ℤ z ≡ pos a *ℤ pos b +ℤ pos c *ℤ pos d → le_z (pos 0) z ≡ true
  two z a b c d e = half z (ap (le_z (pos 0)) e ∙ leb-zero (a * b + c * d))

  up : (h x g : ℤ) → h ≡ x +ℤ g → g ≡ h -ℤ x
  up h x g e = solved x g ∙ ap (λ (z : ℤ). z -ℤ x) (sym e)
    where
      solved : (x g : ℤ) → g ≡ x +ℤ g -ℤ x
      solved x g = ringℤ (x ∷ g ∷ []) (search reifyℤ depth 20 fits 5000) refl

  at_most : (h x y : ℤ)
      → h *ℤ h -ℤ x *ℤ y +ℤ (h *ℤ h -ℤ x *ℤ y) ≡ (h -ℤ x) *ℤ (y -ℤ neg_ℤ h) +ℤ (x -ℤ neg_ℤ h) *ℤ (h -ℤ y)
  at_most h x y = ringℤ (h ∷ x ∷ y ∷ []) (search reifyℤ depth 20 fits 5000) refl

  at_least : (h x y : ℤ)
      → x *ℤ y -ℤ neg_ℤ (h *ℤ h) +ℤ (x *ℤ y -ℤ neg_ℤ (h *ℤ h))
      ≡ (h -ℤ x) *ℤ (h -ℤ y) +ℤ (x -ℤ neg_ℤ h) *ℤ (y -ℤ neg_ℤ h)
  at_least h x y = ringℤ (h ∷ x ∷ y ∷ []) (search reifyℤ depth 20 fits 5000) refl

  pub product_most : Le (x *ℤ y) (h *ℤ h)
  product_most = of_test (x *ℤ y) (h *ℤ h) (sym (above_zero (h *ℤ h) (x *ℤ y))
      ∙ two (h *ℤ h -ℤ x *ℤ y) above.gap below'.gap below.gap above'.gap
      (at_most h x y
      ∙ sym (ap₂ ◌+ℤ◌ (ap₂ ◌*ℤ◌ (up h x _ above.is) (up y (neg_ℤ h) _ below'.is))
      (ap₂ ◌*ℤ◌ (up x (neg_ℤ h) _ below.is) (up h y _ above'.is)))))

  pub product_least : Le (neg_ℤ (h *ℤ h)) (x *ℤ y)
  product_least = of_test (neg_ℤ (h *ℤ h)) (x *ℤ y) (sym (above_zero (x *ℤ y) (neg_ℤ (h *ℤ h)))
      ∙ two (x *ℤ y -ℤ neg_ℤ (h *ℤ h)) above.gap above'.gap below.gap below'.gap
      (at_least h x y
      ∙ sym (ap₂ ◌+ℤ◌ (ap₂ ◌*ℤ◌ (up h x _ above.is) (up h y _ above'.is))
      (ap₂ ◌*ℤ◌ (up x (neg_ℤ h) _ below.is) (up y (neg_ℤ h) _ below'.is)))))

-- ---- sums

wider : (n N a : ℕ) → n ≤ N → Le (pos (n * a)) (pos (N * a))
wider n N a l = record { gap = (N - n) * a; is = ap (λ (m : ℕ). pos (m * a)) (sym whole) ∙ ap pos (split n (N - n) a) }
  where
    whole : n + (N - n) ≡ N
    whole = omega arith

    split : (n d a : ℕ) → (n + d) * a ≡ n * a + d * a
    split n d a = omega arith

-- a sum of n numbers from -a to b, n at most N, lies from -(N * a) to N * b
module _ (f : ℕ → ℤ) (a b : ℕ) (low : (i : ℕ) → Le (neg_ℤ (pos a)) (f i)) (high : (i : ℕ) → Le (f i) (pos b)) where
  sum_from : (n : ℕ) → Le (neg_ℤ (pos (n * a))) (sumℤ f n)
  unfolding sumℤ
  sum_from zero = rw zero-mul (le_refl (pos 0))
  sum_from (suc n) =
      let next : n * a + a ≡ suc n * a = omega arith in
      subst (λ (z : ℤ). Le z (sumℤ f n +ℤ f n))
      (more (pos (n * a)) (pos a) ∙ ap (λ (k : ℕ). neg_ℤ (pos k)) next) (le_add (sum_from n) (low n))
    where
      more : (x y : ℤ) → neg_ℤ x +ℤ neg_ℤ y ≡ neg_ℤ (x +ℤ y)
      more x y = ringℤ (x ∷ y ∷ []) (search reifyℤ depth 20 fits 5000) refl

  sum_to : (n : ℕ) → Le (sumℤ f n) (pos (n * b))
  unfolding sumℤ
  sum_to zero = rw zero-mul (le_refl (pos 0))
  sum_to (suc n) =
      let next : n * b + b ≡ suc n * b = omega arith in
      subst (λ (z : ℤ). Le (sumℤ f n +ℤ f n) z) (ap pos next) (le_add (sum_to n) (high n))

  pub sum_least : (n N : ℕ) → n ≤ N → Le (neg_ℤ (pos (N * a))) (sumℤ f n)
  sum_least n N l = le_trans (le_neg (wider n N a l)) (sum_from n)

  pub sum_most : (n N : ℕ) → n ≤ N → Le (sumℤ f n) (pos (N * b))
  sum_most n N l = le_trans (sum_to n) (wider n N b l)
