-- Integers: their residues modulo m, and the ring tactic over ℤ with no modulus and no bound.
-- `ringℤ (x ∷ y ∷ []) (search reifyℤ depth 20 fits 5000) refl` proves x ≡ y of ℤ. Assumes nothing.
use Rattle.std.specs.Prelude.{◌≡◌, ℕ, zero, suc, ◌+◌, ◌-◌, ◌*◌, ◌<◌, ◌≤◌, Bool, true, false, cond, not, T, ltb, List}
use Rattle.std.specs.Prelude.{◌∷◌, map, ℤ, pos, negsuc, ◌+ℤ◌, ◌*ℤ◌, neg_ℤ, ◌==◌, nat_lt, slice_index, refl}
use Rattle.std.proofs.Common.{sym, ◌∙◌, mul-zero, ltb→lt, nltb→le}
use Rattle.std.proofs.Math.Path.{ap}
use native.Mathlib.Omega.{arith}
use Rattle.std.proofs.Math.IntN.{sub_ℕ}
use Rattle.std.specs.Int.Signed.{mag}
use Rattle.base_algebra.specs.Mod.{Mod, m_refl, m_eq, m_sym, m_trans, m_add, m_mul, m_words, neg_self, neg_twice}
use Rattle.base_algebra.specs.Mod.{Under, under_zero, under_mod}
use Rattle.base_algebra.specs.Normal.{Ex, con, var, ◌⊕◌, ◌⊗◌, ⊖, val, nf, solve}
use Rattle.base_algebra.specs.Ring.{some_suc, Read}

-- an integer as a number modulo m: itself, and (m - 1) * n for -n
unfoldable pub residue : ℕ → ℤ → ℕ
residue m (pos n) = n
residue m (negsuc n) = (m - 1) * suc n

pub residue_pos : (m n : ℕ) → n ≡ residue m (pos n)
unfolding residue
residue_pos m n = refl

module _ (m : ℕ) (p : ltb 0 m ≡ true) where
  pub residue_neg : (z : ℤ) → Mod m (residue m (neg_ℤ z)) ((m - 1) * residue m z)
  unfolding residue
  residue_neg (pos zero) = m_eq (sym (mul-zero (m - 1)))
  residue_neg (pos (suc n)) = m_refl
  residue_neg (negsuc n) = m_sym (neg_twice m p (suc n))

  cond_ind : (c : Bool) (x y : ℤ) (P : ℤ → Type 0) → (T c → P x) → (T (not c) → P y) → P (cond c x y)
  cond_ind true x y P f g = f tt
  cond_ind false x y P f g = g tt

  residue_sub : (a b : ℕ) → Mod m (residue m (sub_ℕ a b)) (a + (m - 1) * b)
  unfolding residue
  residue_sub a b =
      cond_ind (nat_lt a b) (negsuc (b - suc a)) (pos (a - b)) (λ z. Mod m (residue m z) (a + (m - 1) * b))
      (λ t. m_sym
      (m_trans (m_eq (below (m - 1) a b (ltb→lt a b t)))
      (m_trans (m_add (neg_self m a p) (m_refl {a = (m - 1) * suc (b - suc a)}))
      (m_eq (zadd ((m - 1) * suc (b - suc a)))))))
      (λ t. m_sym
      (m_trans (m_eq (above (m - 1) a b (nltb→le a b t)))
      (m_trans (m_add (neg_self m b p) (m_refl {a = a - b})) (m_eq (zadd (a - b))))))
    where
      zadd : (x : ℕ) → 0 + x ≡ x
      zadd x = omega arith

      dist : (k a d : ℕ) → a + k * (a + d) ≡ k * a + a + k * d
      dist k a d = omega arith

      dist' : (k b d : ℕ) → b + d + k * b ≡ k * b + b + d
      dist' k b d = omega arith

      diff : (a b : ℕ) → a < b → a + suc (b - suc a) ≡ b
      diff a b h = omega arith

      diff' : (a b : ℕ) → b ≤ a → b + (a - b) ≡ a
      diff' a b h = omega arith

      below : (k a b : ℕ) → a < b → a + k * b ≡ k * a + a + k * suc (b - suc a)
      below k a b h = ap (λ (x : ℕ). a + k * x) (sym (diff a b h)) ∙ dist k a (suc (b - suc a))

      above : (k a b : ℕ) → b ≤ a → a + k * b ≡ k * b + b + (a - b)
      above k a b h = ap (λ (x : ℕ). x + k * b) (sym (diff' a b h)) ∙ dist' k b (a - b)

  pub residue_add : (x y : ℤ) → Mod m (residue m (x +ℤ y)) (residue m x + residue m y)
  unfolding residue
  residue_add (pos a) (pos b) = m_refl
  residue_add (pos a) (negsuc b) = residue_sub a (suc b)
  residue_add (negsuc a) (pos b) = m_trans (residue_sub b (suc a)) (m_eq (swap b ((m - 1) * suc a)))
    where
      swap : (a b : ℕ) → a + b ≡ b + a
      swap a b = omega arith
  residue_add (negsuc a) (negsuc b) = m_eq (dist (m - 1) a b)
    where
      dist : (k a b : ℕ) → k * suc (suc (a + b)) ≡ k * suc a + k * suc b
      dist k a b = omega arith

  pub residue_mul : (x y : ℤ) → Mod m (residue m (x *ℤ y)) (residue m x * residue m y)
  unfolding residue
  residue_mul (pos a) (pos b) = m_refl
  residue_mul (pos a) (negsuc b) = m_trans (residue_neg (pos (a * suc b))) (m_eq (dist (m - 1) a (suc b)))
    where
      dist : (k a b : ℕ) → k * (a * b) ≡ a * (k * b)
      dist k a b = omega arith
  residue_mul (negsuc a) (pos b) = m_trans (residue_neg (pos (suc a * b))) (m_eq (dist (m - 1) (suc a) b))
    where
      dist : (k a b : ℕ) → k * (a * b) ≡ k * a * b
      dist k a b = omega arith
  residue_mul (negsuc a) (negsuc b) =
      m_trans (m_sym (neg_twice m p (suc a * suc b))) (m_eq (dist (m - 1) (suc a) (suc b)))
    where
      dist : (k a b : ℕ) → k * (k * (a * b)) ≡ k * a * (k * b)
      dist k a b = omega arith

  minus : (a b : ℕ) → a + suc b < m → Mod m a ((m - 1) * suc b) → ⊥
  minus a b l h = none (m_words (m_trans (m_add h (m_refl {a = suc b})) (neg_self m (suc b) p)) l (omega arith))
    where
      none : a + suc b ≡ 0 → ⊥
      none e = omega arith

  -- two integers that are near enough are equal if their residues are
  pub residue_inj : (x y : ℤ) → mag x + suc (mag y) < m → Mod m (residue m x) (residue m y) → x ≡ y
  unfolding residue
  residue_inj (pos a) (pos b) l h = ap pos (m_words h (omega arith) (omega arith))
  residue_inj (pos a) (negsuc b) l h = absurd (minus a b l h)
  residue_inj (negsuc a) (pos b) l h = absurd (minus b a (omega arith) (m_sym h))
  residue_inj (negsuc a) (negsuc b) l h = ap negsuc (less
      (m_words (m_trans (m_sym (neg_twice m p (suc a)))
      (m_trans (m_mul (m_refl {a = m - 1}) h) (neg_twice m p (suc b)))) (omega arith) (omega arith)))
    where
      less : suc a ≡ suc b → a ≡ b
      less e = omega arith

-- two integers are equal if they are modulo every number
every : (x y : ℤ) → ((m : ℕ) → Under 0 m → Mod m (residue m x) (residue m y)) → x ≡ y
every x y h = residue_inj (suc big) (some_suc big) x y (omega arith) (h (suc big) (under_zero (suc big) (some_suc big)))
  where
    big : ℕ
    big = mag x + suc (mag y)

-- ---- reading the residue of an integer, among numbers modulo k

abbrev pub r_pos : {k n : ℕ} {ρ : List ℕ} → Read k ρ n → Read k ρ (residue k (pos n))
r_pos {k} {n} A = record { ex = A.ex; ok = λ m u. m_trans (A.ok m u) (m_eq (residue_pos k n)) }

abbrev pub r_addℤ : {k : ℕ} {ρ : List ℕ} (x y : ℤ) → nat_lt 0 k ≡ true → Read k ρ (residue k x) → Read k ρ (residue k y)
    → Read k ρ (residue k (x +ℤ y))
r_addℤ {k} x y p A B = record {
  ex = A.ex ⊕ B.ex;
  ok = λ m u. m_trans (m_add (A.ok m u) (B.ok m u)) (m_sym (under_mod u (residue_add k p x y)));
}

abbrev pub r_mulℤ : {k : ℕ} {ρ : List ℕ} (x y : ℤ) → nat_lt 0 k ≡ true → Read k ρ (residue k x) → Read k ρ (residue k y)
    → Read k ρ (residue k (x *ℤ y))
r_mulℤ {k} x y p A B = record {
  ex = A.ex ⊗ B.ex;
  ok = λ m u. m_trans (m_mul (A.ok m u) (B.ok m u)) (m_sym (under_mod u (residue_mul k p x y)));
}

abbrev pub r_negℤ : {k : ℕ} {ρ : List ℕ} (x : ℤ) → nat_lt 0 k ≡ true → Read k ρ (residue k x)
    → Read k ρ (residue k (neg_ℤ x))
r_negℤ {k} x p A = record {
  ex = con (k - 1) ⊗ A.ex;
  ok = λ m u. m_trans (m_mul (m_refl {a = k - 1}) (A.ok m u)) (m_sym (under_mod u (residue_neg k p x)));
}

pub ruleset residues = (r_pos, r_addℤ, r_mulℤ, r_negℤ)

-- ---- reading an integer

pub record Readℤ (ρ : List ℤ) (z : ℤ) : Type 0 where
  pub ex : Ex
  pub ok : (m : ℕ) → Under 0 m → Mod m (val m (map (residue m) ρ) ex) (residue m z)

pub record Atℤ (ρ : List ℤ) (z : ℤ) : Type 0 where
  pub place : ℕ
  pub is : (m : ℕ) → slice_index (map (residue m) ρ) place ≡ residue m z

abbrev pub hereℤ : {x : ℤ} {ρ : List ℤ} → Atℤ (x ∷ ρ) x
hereℤ = record { place = 0; is = λ m. refl }

abbrev pub thereℤ : {x y : ℤ} {ρ : List ℤ} → Atℤ ρ x → Atℤ (y ∷ ρ) x
thereℤ A = record { place = suc A.place; is = A.is }

abbrev pub z_var : {z : ℤ} {ρ : List ℤ} → Atℤ ρ z → Readℤ ρ z
z_var A = record { ex = var A.place; ok = λ m u. m_eq (A.is m) }

abbrev pub z_pos : {ρ : List ℤ} (n : ℕ) → (n == n) ≡ true → Readℤ ρ (pos n)
z_pos n t = record { ex = con n; ok = λ m u. m_eq (residue_pos m n) }

abbrev pub z_negsuc : {ρ : List ℤ} (n : ℕ) → (n == n) ≡ true → Readℤ ρ (negsuc n)
z_negsuc n t = record {
  ex = ⊖ (con (suc n));
  ok = λ m u. m_trans (m_mul (m_refl {a = m - 1}) (m_eq (residue_pos m (suc n))))
      (m_sym (residue_neg m u.some (pos (suc n))));
}

abbrev pub z_add : {ρ : List ℤ} (x y : ℤ) → Readℤ ρ x → Readℤ ρ y → Readℤ ρ (x +ℤ y)
z_add x y A B = record {
  ex = A.ex ⊕ B.ex;
  ok = λ m u. m_trans (m_add (A.ok m u) (B.ok m u)) (m_sym (residue_add m u.some x y));
}

abbrev pub z_mul : {ρ : List ℤ} (x y : ℤ) → Readℤ ρ x → Readℤ ρ y → Readℤ ρ (x *ℤ y)
z_mul x y A B = record {
  ex = A.ex ⊗ B.ex;
  ok = λ m u. m_trans (m_mul (A.ok m u) (B.ok m u)) (m_sym (residue_mul m u.some x y));
}

abbrev pub z_neg : {ρ : List ℤ} (x : ℤ) → Readℤ ρ x → Readℤ ρ (neg_ℤ x)
z_neg x A = record {
  ex = ⊖ A.ex;
  ok = λ m u. m_trans (m_mul (m_refl {a = m - 1}) (A.ok m u)) (m_sym (residue_neg m u.some x));
}

pub record Bothℤ (ρ : List ℤ) (a b : ℤ) : Type 0 where
  pub l : Readℤ ρ a
  pub r : Readℤ ρ b

abbrev pub z_both : {ρ : List ℤ} {a b : ℤ} → Readℤ ρ a → Readℤ ρ b → Bothℤ ρ a b
z_both A B = record { l = A; r = B }

pub ruleset reifyℤ = (z_both, z_add, z_mul, z_neg, z_var, hereℤ, thereℤ, z_pos, z_negsuc)

pub ringℤ : {a b : ℤ} (ρ : List ℤ) (E : Bothℤ ρ a b) → nf 0 E.l.ex ≡ nf 0 E.r.ex → a ≡ b
ringℤ {a} {b} ρ E h = every a b
    (λ m u.
    m_trans (m_sym (E.l.ok m u)) (m_trans (solve 0 m u (map (residue m) ρ) E.l.ex E.r.ex h) (E.r.ok m u)))
