-- THE RING TACTIC. `ring (x ∷ y ∷ []) (search reify depth 20 fits 5000) refl` proves `Mod k a b`, for a numeral k,
-- where a and b are sums, products and differences of x, y and numerals; k = 0 means as they stand. A hypothesis
-- `Mod k v w` in scope defines v. Assumes nothing.
use Rattle.std.specs.Prelude.{◌≡◌, ℕ, zero, suc, ◌+◌, ◌-◌, ◌*◌, ◌%◌, ◌≤◌, true, List, ◌∷◌, ◌==◌, nat_lt}
use Rattle.std.specs.Prelude.{slice_index_or, refl}
use Rattle.std.proofs.Common.{◌∙◌, sub-add_cancel, arith}
use Rattle.std.proofs.Math.Dec.{leb-suc-suc, leb-zero}
use Rattle.base_algebra.specs.Mod.{Mod, m_refl, m_eq, m_sym, m_trans, m_add, m_mul, m_sub, m_words, m_exact}
use Rattle.base_algebra.specs.Mod.{Under, under_self, under_zero, under_mod}
use Rattle.base_algebra.specs.Normal.{Ex, con, var, ◌⊕◌, ◌⊗◌, ⊖, val, nf, solve}

-- 1 + a is not 0, as `refl` says of a numeral
pub some_suc : (a : ℕ) → nat_lt 0 (suc a) ≡ true
some_suc a = leb-suc-suc 0 a ∙ leb-zero a

-- two numbers that are congruent modulo every number are equal
every : (a b : ℕ) → ((m : ℕ) → Under 0 m → Mod m a b) → a ≡ b
every a b h = m_words (h (suc (a + b)) (under_zero (suc (a + b)) (some_suc (a + b)))) (omega arith) (omega arith)

-- ---- reading a number as an expression

pub record Read (k : ℕ) (ρ : List ℕ) (v : ℕ) : Type 0 where
  pub ex : Ex
  pub ok : (m : ℕ) → Under k m → Mod m (val m ρ ex) v

-- where a variable stands in the environment
pub record At (ρ : List ℕ) (v : ℕ) : Type 0 where
  pub place : ℕ
  pub is : slice_index_or ρ place 0 ≡ v

abbrev pub here : {x : ℕ} {ρ : List ℕ} → At (x ∷ ρ) x
here = record { place = 0; is = refl }

abbrev pub there : {x y : ℕ} {ρ : List ℕ} → At ρ x → At (y ∷ ρ) x
there A = record { place = suc A.place; is = A.is }

abbrev pub r_var : {k v : ℕ} {ρ : List ℕ} → At ρ v → Read k ρ v
r_var A = record { ex = var A.place; ok = λ m u. m_eq A.is }

-- (the test is stuck unless n is a numeral, so that `search` takes nothing else for one)
abbrev pub r_lit : {k : ℕ} {ρ : List ℕ} (n : ℕ) → (n == n) ≡ true → Read k ρ n
r_lit n t = record { ex = con n; ok = λ m u. m_refl }

abbrev pub r_add : {k a b : ℕ} {ρ : List ℕ} → Read k ρ a → Read k ρ b → Read k ρ (a + b)
r_add A B = record { ex = A.ex ⊕ B.ex; ok = λ m u. m_add (A.ok m u) (B.ok m u) }

abbrev pub r_mul : {k a b : ℕ} {ρ : List ℕ} → Read k ρ a → Read k ρ b → Read k ρ (a * b)
r_mul A B = record { ex = A.ex ⊗ B.ex; ok = λ m u. m_mul (A.ok m u) (B.ok m u) }

-- a remainder inside is left out
abbrev pub r_mod : {k a : ℕ} {ρ : List ℕ} → Read k ρ a → Read k ρ (a % k)
r_mod {k} {a} A = record { ex = A.ex; ok = λ m u. m_trans (A.ok m u) (m_sym (u.cut a)) }

-- a difference a - b that does not go below 0
abbrev pub r_minus : {k a b : ℕ} {ρ : List ℕ} → b ≤ a → Read k ρ a → Read k ρ b → Read k ρ (a - b)
r_minus {k} {a} {b} l A B = record {
  ex = A.ex ⊕ ⊖ B.ex;
  ok = λ m u.
      m_sym (m_trans (m_sub b u.some (m_eq (sub-add_cancel l)))
      (m_add (m_sym (A.ok m u)) (m_mul (m_refl {a = m - 1}) (m_sym (B.ok m u)))));
}

-- a number that a hypothesis gives, read by what it gives
abbrev pub r_by : {k v w : ℕ} {ρ : List ℕ} → Mod k v w → Read k ρ w → Read k ρ v
r_by h W = record { ex = W.ex; ok = λ m u. m_trans (W.ok m u) (m_sym (under_mod u h)) }

-- the two sides of a congruence
pub record Both (k : ℕ) (ρ : List ℕ) (a b : ℕ) : Type 0 where
  pub l : Read k ρ a
  pub r : Read k ρ b

abbrev pub r_both : {k a b : ℕ} {ρ : List ℕ} → Read k ρ a → Read k ρ b → Both k ρ a b
r_both A B = record { l = A; r = B }

pub ruleset reify = (r_both, r_add, r_mul, r_mod, r_minus, r_by, r_var, here, there, r_lit)

same : {k a b : ℕ} (ρ : List ℕ) (E : Both k ρ a b) → nf k E.l.ex ≡ nf k E.r.ex → (m : ℕ) → Under k m → Mod m a b
same {k} ρ E h m u = m_trans (m_sym (E.l.ok m u)) (m_trans (solve k m u ρ E.l.ex E.r.ex h) (E.r.ok m u))

pub ring : {k a b : ℕ} (ρ : List ℕ) (E : Both k ρ a b) → nf k E.l.ex ≡ nf k E.r.ex → Mod k a b
ring {k = zero} {a} {b} ρ E h = m_eq (every a b (same ρ E h))
ring {k = suc k} ρ E h = same ρ E h (suc k) (under_self (suc k) (some_suc k))

-- the same for an equation of ℕ, and for an equation of remainders; the `_` are read off the goal:
-- `ring= _ _ ρ (search reify) refl`
pub ring= : (a b : ℕ) (ρ : List ℕ) (E : Both 0 ρ a b) → nf 0 E.l.ex ≡ nf 0 E.r.ex → a ≡ b
ring= a b ρ E h = m_exact (ring ρ E h)

pub ring% : (k a b : ℕ) (ρ : List ℕ) (E : Both k ρ a b) → nf k E.l.ex ≡ nf k E.r.ex → a % k ≡ b % k
ring% k a b ρ E h = (ring ρ E h).same
