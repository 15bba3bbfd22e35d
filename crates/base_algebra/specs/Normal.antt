-- Expressions of +, *, unary minus and numerals, and their normal form: a sum of terms, each a coefficient and the
-- sorted list of its variables. A coefficient is a difference p - n of two naturals. At k = 0 it is cut to its shortest
-- form, so that the normal form holds modulo every number; at any other k to its remainder modulo k. Assumes nothing.
use Rattle.std.specs.Prelude.{◌≡◌, ℕ, zero, suc, ◌+◌, ◌-◌, ◌*◌, ◌%◌, min, Bool, true, false, T, List, [], ◌∷◌, ◌==◌}
use Rattle.std.specs.Prelude.{nat_le, slice_index, refl}
use Rattle.std.proofs.Common.{sym, ap, ap₂, ◌∙◌, subst, zero-add, add_assoc, add_comm, mul-zero, zero-mul, one-mul}
use Rattle.std.proofs.Common.{mul_assoc, mul_left_comm, eqb→eq}
use Prim.Native.Nat.{compare, Ordering}
use Rattle.std.proofs.Math.Nat.{add_left_comm, add-mul}
use native.Mathlib.Omega.{arith}
use Rattle.std.proofs.Math.Dec.{compare_is_eq}
use Rattle.base_algebra.specs.Mod.{Mod, m_refl, m_eq, m_sym, m_trans, m_add, m_mul, m_cancel, neg_self, neg_twice}
use Rattle.base_algebra.specs.Mod.{Under, under_mul}

infixl 65 ◌⊕◌
infixl 70 ◌⊗◌
pub data Ex : Type 0 where
  con : ℕ → Ex
  var : ℕ → Ex
  ◌⊕◌ : Ex → Ex → Ex
  ◌⊗◌ : Ex → Ex → Ex
  ⊖ : Ex → Ex

-- the value modulo m, where the variables have the values ρ
abbrev pub val : ℕ → List ℕ → Ex → ℕ
val m ρ (con n) = n
val m ρ (var i) = slice_index ρ i
val m ρ (e ⊕ f) = val m ρ e + val m ρ f
val m ρ (e ⊗ f) = val m ρ e * val m ρ f
val m ρ (⊖ e) = (m - 1) * val m ρ e

pub data Poly : Type 0 where
  nil : Poly
  tm : ℕ → ℕ → List ℕ → Poly → Poly

abbrev pub cmp : List ℕ → List ℕ → Ordering
cmp [] [] = Ordering.eq
cmp [] (j ∷ l) = Ordering.lt
cmp (i ∷ k) [] = Ordering.gt
cmp (i ∷ k) (j ∷ l) =
    elim (compare i j) [ Ordering.lt ↦ Ordering.lt | Ordering.eq ↦ cmp k l | Ordering.gt ↦ Ordering.gt ]

-- the two parts of a coefficient, cut
abbrev pub plus : ℕ → ℕ → ℕ → ℕ
plus k p n = elim (k == 0) [ true ↦ p - n | false ↦ (p + (k - 1) * n) % k ]

abbrev pub minus : ℕ → ℕ → ℕ → ℕ
minus k p n = elim (k == 0) [ true ↦ n - p | false ↦ 0 ]

-- a term before q, left out where its coefficient is 0
abbrev pub put : ℕ → ℕ → ℕ → List ℕ → Poly → Poly
put k p n l q = elim (plus k p n == minus k p n) [ true ↦ q | false ↦ tm (plus k p n) (minus k p n) l q ]

-- a term with a cut coefficient, at its place in q
abbrev pub ins : ℕ → ℕ → ℕ → List ℕ → Poly → Poly
ins k p n l nil = tm p n l nil
ins k p n l (tm p' n' l' q) = elim (cmp l l') [
  | Ordering.lt ↦ tm p n l (tm p' n' l' q)
  | Ordering.eq ↦ put k (p + p') (n + n') l' q
  | Ordering.gt ↦ tm p' n' l' (ins k p n l q)
]

abbrev pub add1 : ℕ → ℕ → ℕ → List ℕ → Poly → Poly
add1 k p n l q = elim (plus k p n == minus k p n) [ true ↦ q | false ↦ ins k (plus k p n) (minus k p n) l q ]

abbrev pub padd : ℕ → Poly → Poly → Poly
padd k nil q = q
padd k (tm p n l r) q = ins k p n l (padd k r q)

abbrev pub mins : ℕ → List ℕ → List ℕ
mins i [] = i ∷ []
mins i (j ∷ l) = elim (nat_le i j) [ true ↦ i ∷ j ∷ l | false ↦ j ∷ mins i l ]

abbrev pub mmul : List ℕ → List ℕ → List ℕ
mmul [] l = l
mmul (i ∷ k) l = mins i (mmul k l)

abbrev pub tmul : ℕ → ℕ → ℕ → List ℕ → Poly → Poly
tmul k p n l nil = nil
tmul k p n l (tm p' n' l' q) = add1 k (p * p' + n * n') (p * n' + n * p') (mmul l l') (tmul k p n l q)

abbrev pub pmul : ℕ → Poly → Poly → Poly
pmul k nil q = nil
pmul k (tm p n l r) q = padd k (tmul k p n l q) (pmul k r q)

abbrev pub pneg : ℕ → Poly → Poly
pneg k nil = nil
pneg k (tm p n l r) = put k n p l (pneg k r)

abbrev pub nf : ℕ → Ex → Poly
nf k (con n) = put k n 0 [] nil
nf k (var i) = tm 1 0 (i ∷ []) nil
nf k (e ⊕ f) = padd k (nf k f) (nf k e)
nf k (e ⊗ f) = pmul k (nf k e) (nf k f)
nf k (⊖ e) = pneg k (nf k e)

-- ---- the value of a normal form

unfoldable mono : List ℕ → List ℕ → ℕ
mono ρ [] = 1
mono ρ (i ∷ k) = slice_index ρ i * mono ρ k

ord_eq : (i j : ℕ) → compare i j ≡ Ordering.eq → i ≡ j
ord_eq i j h = eqb→eq i j (subst (λ (o : Ordering). T (compare_is_eq o)) (sym h) tt)

cmp_eq : (k l : List ℕ) → T (compare_is_eq (cmp k l)) → k ≡ l
cmp_eq [] [] t = refl
cmp_eq [] (j ∷ l) t = elim t [ ]
cmp_eq (i ∷ k) [] t = elim t [ ]
cmp_eq (i ∷ k) (j ∷ l) t = go (compare i j) refl (cmp_eq k l) t
  where
    go : (o : Ordering) → compare i j ≡ o → (T (compare_is_eq (cmp k l)) → k ≡ l)
        → T (compare_is_eq (elim o [ Ordering.lt ↦ Ordering.lt | Ordering.eq ↦ cmp k l | Ordering.gt ↦ Ordering.gt ]))
        → ◌≡◌ {A = List ℕ} (i ∷ k) (j ∷ l)
    go Ordering.lt e h u = elim u [ ]
    go Ordering.gt e h u = elim u [ ]
    go Ordering.eq e h u = ap₂ (λ (x : ℕ) (y : List ℕ). x ∷ y) (ord_eq i j e) (h u)

mono_mins : (ρ : List ℕ) (i : ℕ) (l : List ℕ) → mono ρ (mins i l) ≡ slice_index ρ i * mono ρ l
unfolding mono
mono_mins ρ i [] = refl
mono_mins ρ i (j ∷ l) = go (nat_le i j) (mono_mins ρ i l)
  where
    go : (b : Bool) → mono ρ (mins i l) ≡ slice_index ρ i * mono ρ l
        → mono ρ (elim b [ true ↦ i ∷ j ∷ l | false ↦ j ∷ mins i l ]) ≡ slice_index ρ i * (slice_index ρ j * mono ρ l)
    go true h = refl
    go false h = ap (λ (x : ℕ). slice_index ρ j * x) h ∙ mul_left_comm (slice_index ρ j) (slice_index ρ i) (mono ρ l)

mono_mmul : (ρ k l : List ℕ) → mono ρ (mmul k l) ≡ mono ρ k * mono ρ l
unfolding mono
mono_mmul ρ [] l = sym (one-mul (mono ρ l))
mono_mmul ρ (i ∷ k) l =
    mono_mins ρ i (mmul k l) ∙ ap (λ (x : ℕ). slice_index ρ i * x) (mono_mmul ρ k l)
    ∙ sym (mul_assoc (slice_index ρ i) (mono ρ k) (mono ρ l))

module _ (k m : ℕ) (u : Under k m) (ρ : List ℕ) where
  cv : ℕ → ℕ → ℕ
  cv p n = p + (m - 1) * n

  poly : Poly → ℕ
  poly nil = 0
  poly (tm p n l q) = cv p n * mono ρ l + poly q

  cv_same : (p : ℕ) → Mod m (cv p p) 0
  unfolding cv
  cv_same p = m_trans (m_eq (add_comm p ((m - 1) * p))) (neg_self m p u.some)

  cv_short : (p n : ℕ) → Mod m (cv (p - n) (n - p)) (cv p n)
  unfolding cv
  cv_short p n = m_sym
      (m_trans (m_eq (split (m - 1) p n))
      (m_trans (m_add (neg_self m (min p n) u.some) (m_refl {a = p - n + (m - 1) * (n - p)}))
      (m_eq (zero-add (p - n + (m - 1) * (n - p))))))
    where
      left : (p n : ℕ) → p ≡ min p n + (p - n)
      left p n = omega arith

      right : (p n : ℕ) → n ≡ min p n + (n - p)
      right p n = omega arith

      dist : (k a x y : ℕ) → a + x + k * (a + y) ≡ k * a + a + (x + k * y)
      dist k a x y = omega arith

      split : (k p n : ℕ) → p + k * n ≡ k * min p n + min p n + (p - n + k * (n - p))
      split k p n = ap₂ (λ (x y : ℕ). x + k * y) (left p n) (right p n) ∙ dist k (min p n) (p - n) (n - p)

  -- (k - 1) * n is -n modulo m as well
  cv_rest : (p n : ℕ) → (T (k == 0) → ⊥) → Mod m (cv ((p + (k - 1) * n) % k) 0) (cv p n)
  unfolding cv
  cv_rest p n some =
      m_trans (m_eq (plain (m - 1) ((p + (k - 1) * n) % k)))
      (m_trans (u.cut (p + (k - 1) * n))
      (m_cancel n
      (m_trans (m_eq (add_assoc p ((k - 1) * n) n))
      (m_trans (m_add (m_refl {a = p})
      (m_trans (m_eq (whole k n (above k some))) (m_trans (under_mul u n) (m_sym (neg_self m n u.some)))))
      (m_eq (sym (add_assoc p ((m - 1) * n) n)))))))
    where
      plain : (j x : ℕ) → x + j * 0 ≡ x
      plain j x = omega arith

      above : (k : ℕ) → (T (k == 0) → ⊥) → k ≡ suc (k - 1)
      above zero h = absurd (h tt)
      above (suc k) h = omega arith

      dist : (j n : ℕ) → j * n + n ≡ suc j * n
      dist j n = omega arith

      whole : (k n : ℕ) → k ≡ suc (k - 1) → (k - 1) * n + n ≡ k * n
      whole k n e = dist (k - 1) n ∙ ap (λ (x : ℕ). x * n) (sym e)

  cut_ok : (p n : ℕ) → Mod m (cv (plus k p n) (minus k p n)) (cv p n)
  cut_ok p n = go (k == 0) (λ h. h)
    where
      go : (b : Bool) → (T (k == 0) → T b)
          → Mod m (cv (elim b [ true ↦ p - n | false ↦ (p + (k - 1) * n) % k ]) (elim b [ true ↦ n - p | false ↦ 0 ]))
          (cv p n)
      go true h = cv_short p n
      go false h = cv_rest p n h

  cv_add : (p n p' n' : ℕ) → cv (p + p') (n + n') ≡ cv p n + cv p' n'
  unfolding cv
  cv_add p n p' n' = dist (m - 1) p n p' n'
    where
      dist : (k p n p' n' : ℕ) → p + p' + k * (n + n') ≡ p + k * n + (p' + k * n')
      dist k p n p' n' = omega arith

  cv_mul : (p n p' n' : ℕ) → Mod m (cv (p * p' + n * n') (p * n' + n * p')) (cv p n * cv p' n')
  unfolding cv
  cv_mul p n p' n' =
      m_trans (m_add (m_add (m_refl {a = p * p'}) (m_sym (neg_twice m u.some (n * n'))))
      (m_refl {a = (m - 1) * (p * n' + n * p')}))
      (m_eq (dist (m - 1) p n p' n'))
    where
      dist : (k p n p' n' : ℕ) → p * p' + k * (k * (n * n')) + k * (p * n' + n * p') ≡ (p + k * n) * (p' + k * n')
      dist k p n p' n' = omega arith

  cv_neg : (p n : ℕ) → Mod m (cv n p) ((m - 1) * cv p n)
  unfolding cv
  cv_neg p n = m_trans (m_add (m_sym (neg_twice m u.some n)) (m_refl {a = (m - 1) * p})) (m_eq (dist (m - 1) p n))
    where
      dist : (k p n : ℕ) → k * (k * n) + k * p ≡ k * (p + k * n)
      dist k p n = omega arith

  -- a term whose coefficient's parts are equal adds nothing
  nothing : (p n x y : ℕ) → p ≡ n → Mod m (cv p n * x + y) y
  nothing p n x y h = rw h
      (m_trans (m_add (m_mul (cv_same n) (m_refl {a = x})) (m_refl {a = y}))
      (m_eq (ap (λ (z : ℕ). z + y) (zero-mul x) ∙ zero-add y)))

  -- a term whose coefficient is cut, and that is left out where it is 0
  cut_term : (p n : ℕ) (l : List ℕ) (q r : Poly) → Mod m (poly r) (cv (plus k p n) (minus k p n) * mono ρ l + poly q)
      → Mod m (poly (elim (plus k p n == minus k p n) [ true ↦ q | false ↦ r ])) (cv p n * mono ρ l + poly q)
  cut_term p n l q r whole = m_trans (go (plus k p n == minus k p n) (λ t. eqb→eq (plus k p n) (minus k p n) t))
      (m_add (m_mul (cut_ok p n) (m_refl {a = mono ρ l})) (m_refl {a = poly q}))
    where
      go : (b : Bool) → (T b → plus k p n ≡ minus k p n)
          → Mod m (poly (elim b [ true ↦ q | false ↦ r ])) (cv (plus k p n) (minus k p n) * mono ρ l + poly q)
      go true h = m_sym (nothing (plus k p n) (minus k p n) (mono ρ l) (poly q) (h tt))
      go false h = whole

  put_ok : (p n : ℕ) (l : List ℕ) (q : Poly) → Mod m (poly (put k p n l q)) (cv p n * mono ρ l + poly q)
  unfolding poly
  put_ok p n l q = cut_term p n l q (tm (plus k p n) (minus k p n) l q) m_refl

  ins_ok : (p n : ℕ) (l : List ℕ) (q : Poly) → Mod m (poly (ins k p n l q)) (cv p n * mono ρ l + poly q)
  unfolding poly
  ins_ok p n l nil = m_refl
  ins_ok p n l (tm p' n' l' q) = go (cmp l l') (cmp_eq l l') (ins_ok p n l q)
    where
      go : (o : Ordering) → (T (compare_is_eq o) → l ≡ l') → Mod m (poly (ins k p n l q)) (cv p n * mono ρ l + poly q)
          → Mod m (poly (elim o [
            | Ordering.lt ↦ tm p n l (tm p' n' l' q)
            | Ordering.eq ↦ put k (p + p') (n + n') l' q
            | Ordering.gt ↦ tm p' n' l' (ins k p n l q)
          ])) (cv p n * mono ρ l + (cv p' n' * mono ρ l' + poly q))
      go Ordering.lt e h = m_refl
      go Ordering.eq e h = m_trans (put_ok (p + p') (n + n') l' q) (m_eq (rw (e tt, cv_add, add-mul, add_assoc)))
      go Ordering.gt e h =
          m_trans (m_add (m_refl {a = cv p' n' * mono ρ l'}) h)
          (m_eq (add_left_comm (cv p' n' * mono ρ l') (cv p n * mono ρ l) (poly q)))

  add1_ok : (p n : ℕ) (l : List ℕ) (q : Poly) → Mod m (poly (add1 k p n l q)) (cv p n * mono ρ l + poly q)
  add1_ok p n l q = cut_term p n l q (ins k (plus k p n) (minus k p n) l q) (ins_ok (plus k p n) (minus k p n) l q)

  padd_ok : (p q : Poly) → Mod m (poly (padd k p q)) (poly p + poly q)
  unfolding poly
  padd_ok nil q = m_eq (sym (zero-add (poly q)))
  padd_ok (tm p n l r) q =
      m_trans (ins_ok p n l (padd k r q))
      (m_trans (m_add (m_refl {a = cv p n * mono ρ l}) (padd_ok r q))
      (m_eq (sym (add_assoc (cv p n * mono ρ l) (poly r) (poly q)))))

  tmul_ok : (p n : ℕ) (l : List ℕ) (q : Poly) → Mod m (poly (tmul k p n l q)) (cv p n * mono ρ l * poly q)
  unfolding poly
  tmul_ok p n l nil = m_eq (sym (mul-zero (cv p n * mono ρ l)))
  tmul_ok p n l (tm p' n' l' q) =
      m_trans (add1_ok (p * p' + n * n') (p * n' + n * p') (mmul l l') (tmul k p n l q))
      (m_trans (m_add (m_mul (cv_mul p n p' n') (m_eq (mono_mmul ρ l l'))) (tmul_ok p n l q))
      (m_eq (regroup (cv p n) (cv p' n') (mono ρ l) (mono ρ l') (poly q))))
    where
      regroup : (c d x y z : ℕ) → c * d * (x * y) + c * x * z ≡ c * x * (d * y + z)
      regroup c d x y z = omega arith

  pmul_ok : (p q : Poly) → Mod m (poly (pmul k p q)) (poly p * poly q)
  unfolding poly
  pmul_ok nil q = m_eq (sym (zero-mul (poly q)))
  pmul_ok (tm p n l r) q =
      m_trans (padd_ok (tmul k p n l q) (pmul k r q))
      (m_trans (m_add (tmul_ok p n l q) (pmul_ok r q)) (m_eq (sym (add-mul (cv p n * mono ρ l) (poly r) (poly q)))))

  pneg_ok : (p : Poly) → Mod m (poly (pneg k p)) ((m - 1) * poly p)
  unfolding poly
  pneg_ok nil = m_eq (sym (mul-zero (m - 1)))
  pneg_ok (tm p n l r) =
      m_trans (put_ok n p l (pneg k r))
      (m_trans (m_add (m_mul (cv_neg p n) (m_refl {a = mono ρ l})) (pneg_ok r))
      (m_eq (dist (m - 1) (cv p n) (mono ρ l) (poly r))))
    where
      dist : (k c x y : ℕ) → k * c * x + k * y ≡ k * (c * x + y)
      dist k c x y = omega arith

  nf_ok : (e : Ex) → Mod m (poly (nf k e)) (val m ρ e)
  unfolding poly cv mono
  nf_ok (con n) = m_trans (put_ok n 0 [] nil) (m_eq (flat (m - 1) n))
    where
      flat : (k n : ℕ) → (n + k * 0) * 1 + 0 ≡ n
      flat k n = omega arith
  nf_ok (var i) = m_eq (flat (m - 1) (slice_index ρ i))
    where
      flat : (k x : ℕ) → (1 + k * 0) * (x * 1) + 0 ≡ x
      flat k x = omega arith
  nf_ok (e ⊕ f) =
      m_trans (padd_ok (nf k f) (nf k e))
      (m_trans (m_add (nf_ok f) (nf_ok e)) (m_eq (add_comm (val m ρ f) (val m ρ e))))
  nf_ok (e ⊗ f) = m_trans (pmul_ok (nf k e) (nf k f)) (m_mul (nf_ok e) (nf_ok f))
  nf_ok (⊖ e) = m_trans (pneg_ok (nf k e)) (m_mul (m_refl {a = m - 1}) (nf_ok e))

  -- two expressions with one normal form are congruent
  pub solve : (e f : Ex) → nf k e ≡ nf k f → Mod m (val m ρ e) (val m ρ f)
  solve e f h = m_trans (m_sym (nf_ok e)) (m_trans (m_eq (ap poly h)) (nf_ok f))
