-- How a sum of products moves when its first factors do, over the integers: by no more than e times the sum of the
-- second factors' magnitudes, and by just that for some; and how far a number may move before it has the other sign.
-- Assumes nothing.
use Rattle.std.specs.Prelude.{◌≡◌, refl, Bool, true, false, not, cond, [], ◌∷◌, ℕ, zero, suc, ◌+◌, ◌*◌, ◌-◌, ◌<◌, ◌≤◌}
use Rattle.std.specs.Prelude.{ltb, ℤ, pos, negsuc, neg_ℤ, nat_abs, ◌+ℤ◌, ◌-ℤ◌, ◌*ℤ◌}
use Rattle.std.proofs.Common.{sym, ap, ◌∙◌, mul-le-mul, arith, ltb-true, ltb-false, le-leb}
use Rattle.std.proofs.lemmas.Bool.{lt-leb}
use Rattle.std.proofs.Math.Dec.{leb-zero}
use Rattle.std.proofs.Math.IntN.{sub_ℕ}
use Rattle.std.specs.Int.Signed.{mag, le_z}
use Rattle.base_algebra.specs.Integer.{ringℤ, reifyℤ}
use Rattle.base_algebra.specs.Sum.{sumℕ, sumℤ}
use Rattle.measure_table.specs.Order.{above_zero}

-- ---- magnitudes

-- b from a leaves no more than the larger of both, and so no more than both
sub_most : (a b n : ℕ) → a ≤ n → b ≤ n → nat_abs (sub_ℕ a b) ≤ n
sub_most a b n l k = go (ltb a b) refl
  where
    go : (c : Bool) → ltb a b ≡ c → nat_abs (cond c (negsuc (b - suc a)) (pos (a - b))) ≤ n
    go true e = omega (arith, ltb-true a b e)
    go false e = omega (arith, ltb-false a b e)

abs_add : (a b : ℤ) → nat_abs (a +ℤ b) ≤ nat_abs a + nat_abs b
abs_add (pos a) (pos b) = omega arith
abs_add (pos a) (negsuc b) = sub_most a (suc b) (a + suc b) (omega arith) (omega arith)
abs_add (negsuc a) (pos b) = sub_most b (suc a) (suc a + b) (omega arith) (omega arith)
abs_add (negsuc a) (negsuc b) = omega arith

abs_neg : (k : ℕ) → nat_abs (neg_ℤ (pos k)) ≡ k
abs_neg zero = refl
abs_neg (suc k) = refl

abs_mul : (a b : ℤ) → nat_abs (a *ℤ b) ≡ nat_abs a * nat_abs b
abs_mul (pos a) (pos b) = refl
abs_mul (pos a) (negsuc b) = abs_neg (a * suc b)
abs_mul (negsuc a) (pos b) = abs_neg (suc a * b)
abs_mul (negsuc a) (negsuc b) = refl

-- two numbers that are at most n above a third
pub apart_most : (c : ℤ) (a b n : ℕ) → a ≤ n → b ≤ n → nat_abs (c +ℤ pos a -ℤ (c +ℤ pos b)) ≤ n
apart_most c a b n l k = rw (less_both c (pos a) (pos b)) (go b k)
  where
    less_both : (c a b : ℤ) → c +ℤ a -ℤ (c +ℤ b) ≡ a -ℤ b
    less_both c a b = ringℤ (c ∷ a ∷ b ∷ []) (search reifyℤ depth 20 fits 5000) refl

    go : (b : ℕ) → b ≤ n → nat_abs (pos a -ℤ pos b) ≤ n
    go zero k = omega arith
    go (suc b) k = sub_most a (suc b) n l k

-- ---- a sum of products, where each first factor moves by at most e

pub sum_moves : (n e : ℕ) (v w y : ℕ → ℤ) → ((i : ℕ) → i < n → nat_abs (v i -ℤ w i) ≤ e)
    → nat_abs (sumℤ (λ i. v i *ℤ y i) n -ℤ sumℤ (λ i. w i *ℤ y i) n) ≤ e * sumℕ (λ i. nat_abs (y i)) n
unfolding sumℤ sumℕ
sum_moves zero e v w y h = omega arith
sum_moves (suc n) e v w y h =
    let A : ℤ = sumℤ (λ i. v i *ℤ y i) n in
    let B : ℤ = sumℤ (λ i. w i *ℤ y i) n in
    let here : nat_abs ((v n -ℤ w n) *ℤ y n) ≤ e * nat_abs (y n) =
    rw (abs_mul (v n -ℤ w n) (y n)) (mul-le-mul (h n (omega arith)) (le_self (nat_abs (y n)))) in
    let before = sum_moves n e v w y (λ i l. h i (omega arith)) in
    rw (split A B (v n) (w n) (y n)) (sums _ _ _ e _ _ (abs_add (A -ℤ B) ((v n -ℤ w n) *ℤ y n)) before here)
  where
    split : (A B a b y : ℤ) → A +ℤ a *ℤ y -ℤ (B +ℤ b *ℤ y) ≡ A -ℤ B +ℤ (a -ℤ b) *ℤ y
    split A B a b y = ringℤ (A ∷ B ∷ a ∷ b ∷ y ∷ []) (search reifyℤ depth 20 fits 5000) refl

    le_self : (a : ℕ) → a ≤ a
    le_self a = omega arith

    sums : (s a b e m k : ℕ) → s ≤ a + b → a ≤ e * m → b ≤ e * k → s ≤ e * (m + k)
    sums s a b e m k p q r = omega arith

-- ---- .. and where it moves by s in the direction of the second factor, or against it if s is below 0

abbrev unit : ℤ → ℤ
unit (pos a) = pos 1
unit (negsuc a) = negsuc 0

unit_self : (z : ℤ) → unit z *ℤ z ≡ pos (nat_abs z)
unit_self (pos a) = ap pos (once a)
  where
    once : (a : ℕ) → 1 * a ≡ a
    once a = omega arith
unit_self (negsuc a) = ap pos (once (suc a))
  where
    once : (a : ℕ) → 1 * a ≡ a
    once a = omega arith

unit_abs : (z : ℤ) → nat_abs (unit z) ≡ 1
unit_abs (pos a) = refl
unit_abs (negsuc a) = refl

-- s, w, y
abbrev pub moved : ℤ → (ℕ → ℤ) → (ℕ → ℤ) → ℕ → ℤ
moved s w y i = w i +ℤ s *ℤ unit (y i)

pub moved_near : (s : ℤ) (w y : ℕ → ℤ) (i : ℕ) → nat_abs (moved s w y i -ℤ w i) ≤ nat_abs s
moved_near s w y i =
    rw (off (w i) (s *ℤ unit (y i)), abs_mul s (unit (y i)), unit_abs (y i)) (omega arith)
  where
    off : (a b : ℤ) → a +ℤ b -ℤ a ≡ b
    off a b = ringℤ (a ∷ b ∷ []) (search reifyℤ depth 20 fits 5000) refl

pub sum_moved : (n : ℕ) (s : ℤ) (w y : ℕ → ℤ)
    → sumℤ (λ i. moved s w y i *ℤ y i) n ≡ sumℤ (λ i. w i *ℤ y i) n +ℤ s *ℤ pos (sumℕ (λ i. nat_abs (y i)) n)
unfolding sumℤ sumℕ
sum_moved zero s w y = none s
  where
    none : (s : ℤ) → pos 0 ≡ pos 0 +ℤ s *ℤ pos 0
    none s = ringℤ (s ∷ []) (search reifyℤ depth 20 fits 5000) refl
sum_moved (suc n) s w y =
    let W : ℤ = sumℤ (λ i. w i *ℤ y i) n in
    let S : ℤ = pos (sumℕ (λ i. nat_abs (y i)) n) in
    ap (λ (z : ℤ). z +ℤ moved s w y n *ℤ y n) (sum_moved n s w y)
    ∙ more W s S (w n) (unit (y n)) (y n)
    ∙ ap (λ (z : ℤ). W +ℤ w n *ℤ y n +ℤ s *ℤ (S +ℤ z)) (unit_self (y n))
  where
    more : (A s S a g y : ℤ) → A +ℤ s *ℤ S +ℤ (a +ℤ s *ℤ g) *ℤ y ≡ A +ℤ a *ℤ y +ℤ s *ℤ (S +ℤ g *ℤ y)
    more A s S a g y = ringℤ (A ∷ s ∷ S ∷ a ∷ g ∷ y ∷ []) (search reifyℤ depth 20 fits 5000) refl

-- ---- a sign: `mag z` is z where z is not below 0, and -1 - z where it is. So far it may move, and no further.

pub keeps : (z d : ℤ) → nat_abs d ≤ mag z → le_z (pos 0) (z +ℤ d) ≡ le_z (pos 0) z
keeps (pos a) (pos b) h = leb-zero (a + b) ∙ sym (leb-zero a)
keeps (pos a) (negsuc b) h = above_zero (pos a) (pos (suc b)) ∙ le-leb (suc b) a h ∙ sym (leb-zero a)
keeps (negsuc a) (pos b) h = above_zero (pos b) (pos (suc a)) ∙ lt-leb (suc a) b (omega arith)
keeps (negsuc a) (negsuc b) h = refl

-- h against z's sign
abbrev pub against : ℤ → ℕ → ℤ
against (pos a) h = neg_ℤ (pos h)
against (negsuc a) h = pos h

pub against_abs : (z : ℤ) (h : ℕ) → nat_abs (against z h) ≡ h
against_abs (pos a) h = abs_neg h
against_abs (negsuc a) h = refl

pub against_mul : (z : ℤ) (h s : ℕ) → against z h *ℤ pos s ≡ against z (h * s)
against_mul (pos a) h s = turned (pos h) (pos s)
  where
    turned : (a b : ℤ) → neg_ℤ a *ℤ b ≡ neg_ℤ (a *ℤ b)
    turned a b = ringℤ (a ∷ b ∷ []) (search reifyℤ depth 20 fits 5000) refl
against_mul (negsuc a) h s = refl

pub turns : (z : ℤ) (h : ℕ) → mag z < h → le_z (pos 0) (z +ℤ against z h) ≡ not (le_z (pos 0) z)
turns (pos a) zero l = absurd (omega arith)
turns (pos a) (suc h) l =
    above_zero (pos a) (pos (suc h)) ∙ lt-leb (suc h) a (omega arith) ∙ ap not (sym (leb-zero a))
turns (negsuc a) h l = above_zero (pos h) (pos (suc a)) ∙ le-leb (suc a) h l
