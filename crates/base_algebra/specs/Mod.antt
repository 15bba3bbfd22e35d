-- Congruence of natural numbers modulo m, and its laws; modulo 0 it is equality.
-- Assumes nothing.
use Rattle.std.specs.Prelude.{◌≡◌, ℕ, zero, suc, ◌+◌, ◌-◌, ◌*◌, ◌/◌, ◌%◌, ◌<◌, true, T, ltb, nat_lt, refl}
use Rattle.std.proofs.Common.{sym, ap, ap₂, ◌∙◌, subst, add-zero, add_assoc, mul_comm, mod-eq_of_lt, arith}
use Rattle.std.proofs.Math.Nat.{mod-mod, mod-zero, zero-mod, mul-mod_left, mul-mod_right, add-mod, mod-add-div'}
use Rattle.std.proofs.Math.Nat.{add-mul-mod_self_right}

pub record Mod (m a b : ℕ) : Type 0 where
  pub same : a % m ≡ b % m

pub m_refl : {m a : ℕ} → Mod m a a
m_refl = record { same = refl }

pub m_eq : {m a b : ℕ} → a ≡ b → Mod m a b
m_eq {m} p = record { same = ap (λ (x : ℕ). x % m) p }

pub m_sym : {m a b : ℕ} → Mod m a b → Mod m b a
m_sym h = record { same = sym h.same }

pub m_trans : {m a b c : ℕ} → Mod m a b → Mod m b c → Mod m a c
m_trans h k = record { same = h.same ∙ k.same }

pub m_add : {m a b c d : ℕ} → Mod m a b → Mod m c d → Mod m (a + c) (b + d)
m_add {m} {a} {b} {c} {d} h k =
    record { same = add-mod a c m ∙ ap₂ (λ (x y : ℕ). (x + y) % m) h.same k.same ∙ sym (add-mod b d m) }

-- a number and its remainder
pub m_mod : (m a : ℕ) → Mod m (a % m) a
m_mod m a = record { same = mod-mod a m }

mul_mod_l : (m a b : ℕ) → (a % m * b) % m ≡ (a * b) % m
mul_mod_l m a b =
    sym (add-mul-mod_self_right (a % m * b) (a / m * b) m)
    ∙ ap (λ (x : ℕ). x % m) (regroup (a % m) (a / m) b m ∙ ap (λ (x : ℕ). x * b) (mod-add-div' a m))
  where
    regroup : (r q b m : ℕ) → r * b + q * b * m ≡ (r + q * m) * b
    regroup r q b m = omega arith

mul_mod_lr : (m : ℕ) {a b : ℕ} (c : ℕ) → Mod m a b → (a * c) % m ≡ (b * c) % m
mul_mod_lr m {a} {b} c h = sym (mul_mod_l m a c) ∙ ap (λ (x : ℕ). (x * c) % m) h.same ∙ mul_mod_l m b c

pub m_mul : {m a b c d : ℕ} → Mod m a b → Mod m c d → Mod m (a * c) (b * d)
m_mul {m} {a} {b} {c} {d} h k = record {
  same = mul_mod_lr m c h ∙ ap (λ (x : ℕ). x % m) (mul_comm b c)
      ∙ mul_mod_lr m b k ∙ ap (λ (x : ℕ). x % m) (mul_comm d b);
}

-- what was added to both sides is taken away again
pub m_cancel : {m a b : ℕ} (c : ℕ) → Mod m (a + c) (b + c) → Mod m a b
m_cancel {m = zero} {a} {b} c h = m_eq (exact a b c (sym (mod-zero (a + c)) ∙ h.same ∙ mod-zero (b + c)))
  where
    exact : (a b c : ℕ) → a + c ≡ b + c → a ≡ b
    exact a b c h = omega arith
m_cancel {m = suc m} {a} {b} c h = m_trans (m_sym (back m a c)) (m_trans (m_add h (m_refl {a = m * c})) (back m b c))
  where
    group : (m a c : ℕ) → a + c + m * c ≡ a + c * suc m
    group m a c = omega arith

    back : (m a c : ℕ) → Mod (suc m) (a + c + m * c) a
    back m a c = record { same = ap (λ (x : ℕ). x % suc m) (group m a c) ∙ add-mul-mod_self_right a c (suc m) }

-- the equation of a remainder, and back
pub m_of : {m a b : ℕ} → a % m ≡ b → Mod m a b
m_of {m} {a} {b} h = record { same = sym (mod-mod a m) ∙ ap (λ (x : ℕ). x % m) h }

pub m_is : {m r : ℕ} (a : ℕ) → r ≡ a % m → Mod m r a
m_is {m} {r} a h = m_sym (m_of (sym h))

-- congruent numbers below m are equal
pub m_word : {m a b : ℕ} → Mod m a b → b < m → a % m ≡ b
m_word h l = h.same ∙ mod-eq_of_lt l

pub m_words : {m a b : ℕ} → Mod m a b → a < m → b < m → a ≡ b
m_words h k l = sym (mod-eq_of_lt k) ∙ m_word h l

pub m_exact : {a b : ℕ} → Mod 0 a b → a ≡ b
m_exact {a} {b} h = sym (mod-zero a) ∙ h.same ∙ mod-zero b

-- a ≡ b by k times the hypothesis l ≡ r, where a + k * r ≡ b + k * l holds as it stands
pub m_by : {m a b l r : ℕ} → Mod m l r → (k : ℕ) → Mod m (a + k * r) (b + k * l) → Mod m a b
m_by {m} {a} {b} {l} {r} h k e = m_cancel (k * l) (m_trans (m_add (m_refl {a = a}) (m_mul (m_refl {a = k}) h)) e)

-- (m - 1) * b is -b, for a modulus that is not 0 (at a numeral, `refl` says that)
pub neg_self : (m b : ℕ) → nat_lt 0 m ≡ true → Mod m ((m - 1) * b + b) 0
neg_self zero b h = absurd (subst T (sym h) tt)
neg_self (suc m) b h =
    record { same = ap (λ (x : ℕ). x % suc m) (group m b) ∙ mul-mod_left b (suc m) ∙ sym (zero-mod (suc m)) }
  where
    less : (m : ℕ) → suc m - 1 ≡ m
    less m = omega arith

    group : (m b : ℕ) → (suc m - 1) * b + b ≡ b * suc m
    group m b = rw (less m) (omega arith)

-- a difference that is given by its sum, as wrapping_sub's contract gives it
pub m_sub : {m a r : ℕ} (b : ℕ) → nat_lt 0 m ≡ true → Mod m (r + b) a → Mod m r (a + (m - 1) * b)
m_sub {m} {a} {r} b p h = m_cancel b
    (m_trans h
    (m_trans (m_eq (sym (add-zero a)))
    (m_trans (m_add (m_refl {a = a}) (m_sym (neg_self m b p)))
    (m_eq (sym (add_assoc a ((m - 1) * b) b))))))

-- -(-k) is k
pub neg_twice : (m : ℕ) → nat_lt 0 m ≡ true → (k : ℕ) → Mod m ((m - 1) * ((m - 1) * k)) k
neg_twice m p k = m_cancel ((m - 1) * k)
    (m_trans (neg_self m ((m - 1) * k) p) (m_sym (m_trans (m_eq (swap k ((m - 1) * k))) (neg_self m k p))))
  where
    swap : (a b : ℕ) → a + b ≡ b + a
    swap a b = omega arith

-- The moduli m at which a calculation with remainders modulo k holds: k itself, and every m where k is 0.
pub record Under (k m : ℕ) : Type 0 where
  pub some : ltb 0 m ≡ true
  pub cut : (a : ℕ) → Mod m (a % k) a

pub under_self : (k : ℕ) → nat_lt 0 k ≡ true → Under k k
under_self k p = record { some = p; cut = m_mod k }

pub under_zero : (m : ℕ) → nat_lt 0 m ≡ true → Under 0 m
under_zero m p = record { some = p; cut = λ a. m_eq (mod-zero a) }

pub under_mod : {k m a b : ℕ} → Under k m → Mod k a b → Mod m a b
under_mod {k} {m} {a} {b} u h = m_trans (m_sym (u.cut a)) (m_trans (m_eq h.same) (u.cut b))

pub under_mul : {k m : ℕ} → Under k m → (n : ℕ) → Mod m (k * n) 0
under_mul {k} {m} u n = m_trans (m_sym (u.cut (k * n))) (m_eq (mul-mod_right k n))
