-- Words: numbers below 2^32, whose sums, differences and products are taken modulo 2^32 (01, "Measures"); and how the
-- ring tactic reads them. `ring (x ∷ y ∷ []) (search words depth 40 fits 5000) refl` proves `a ≈ b`. Assumes nothing.
-- [SPEC 2.1, 2.2]
use Rattle.std.specs.Prelude.{◌≡◌, ℕ, ◌+◌, ◌-◌, ◌*◌, ◌%◌, ◌^◌, ◌<◌, Bool, true, false, cond, List, ℤ, pos, ◌-ℤ◌}
use Rattle.std.specs.Prelude.{neg_ℤ, nat_lt, refl}
use Rattle.std.proofs.Common.{sym, arith}
use Rattle.base_algebra.specs.Mod.{Mod, m_refl, m_eq, m_of, m_sym, m_trans, m_add, m_mul, m_mod, m_sub, m_words}
use Rattle.base_algebra.specs.Mod.{m_cancel, neg_self, under_mod}
use Rattle.base_algebra.specs.Normal.{◌⊕◌, ◌⊗◌, con}
use Rattle.base_algebra.specs.Ring.{Read, reify}
use Rattle.base_algebra.specs.Integer.{residue, residue_pos, residue_add, residues}

unfoldable pub add : ℕ → ℕ → ℕ
add a b = (a + b) % 2 ^ 32

unfoldable pub sub : ℕ → ℕ → ℕ
sub a b = (a + (2 ^ 32 - b % 2 ^ 32)) % 2 ^ 32

unfoldable pub neg : ℕ → ℕ
neg a = (2 ^ 32 - a % 2 ^ 32) % 2 ^ 32

unfoldable pub mul : ℕ → ℕ → ℕ
mul a b = a * b % 2 ^ 32

-- a negative number stands for itself plus 2^32 [SPEC 2.3, 2.4]
unfoldable pub signed : ℕ → ℤ
signed w = cond (nat_lt w (2 ^ 31)) (pos w) (pos w -ℤ pos (2 ^ 32))

infix 50 ◌≈◌
abbrev pub ◌≈◌ : ℕ → ℕ → Type 0
a ≈ b = Mod (2 ^ 32) a b

-- ---- each operation is that of the ring

pub add≈ : (a b : ℕ) → add a b ≈ a + b
unfolding add
add≈ a b = m_mod (2 ^ 32) (a + b)

pub mul≈ : (a b : ℕ) → mul a b ≈ a * b
unfolding mul
mul≈ a b = m_mod (2 ^ 32) (a * b)

rest≈ : (b : ℕ) → 2 ^ 32 - b % 2 ^ 32 ≈ (2 ^ 32 - 1) * b
rest≈ b =
    m_cancel b (m_trans (m_trans (m_add m_refl (m_sym (m_mod (2 ^ 32) b))) whole) (m_sym (neg_self (2 ^ 32) b refl)))
  where
    whole : 2 ^ 32 - b % 2 ^ 32 + b % 2 ^ 32 ≈ 0
    whole = m_of (omega arith)

pub sub≈ : (a b : ℕ) → sub a b ≈ a + (2 ^ 32 - 1) * b
unfolding sub
sub≈ a b = m_trans (m_mod (2 ^ 32) (a + (2 ^ 32 - b % 2 ^ 32))) (m_add m_refl (rest≈ b))

pub neg≈ : (a : ℕ) → neg a ≈ (2 ^ 32 - 1) * a
unfolding neg
neg≈ a = m_trans (m_mod (2 ^ 32) (2 ^ 32 - a % 2 ^ 32)) (rest≈ a)

-- ---- each is a word

pub add_lt : (a b : ℕ) → add a b < 2 ^ 32
unfolding add
add_lt a b = omega arith

pub sub_lt : (a b : ℕ) → sub a b < 2 ^ 32
unfolding sub
sub_lt a b = omega arith

pub neg_lt : (a : ℕ) → neg a < 2 ^ 32
unfolding neg
neg_lt a = omega arith

-- words that are congruent are equal
pub same_word : {a b : ℕ} → a ≈ b → a < 2 ^ 32 → b < 2 ^ 32 → a ≡ b
same_word h k l = m_words h k l

-- the difference as std::num's contract gives it: the word that b is added to for a
pub sub_by : {r a : ℕ} (b : ℕ) → (r + b) % 2 ^ 32 ≡ a → r < 2 ^ 32 → r ≡ sub a b
sub_by {r} {a} b h l = same_word (m_trans (m_sub b refl (m_of h)) (m_sym (sub≈ a b))) l (sub_lt a b)

-- ---- reading words

abbrev pub r_wadd : {a b : ℕ} {ρ : List ℕ} → Read (2 ^ 32) ρ a → Read (2 ^ 32) ρ b → Read (2 ^ 32) ρ (add a b)
r_wadd {a} {b} A B =
    record { ex = A.ex ⊕ B.ex; ok = λ m u. m_trans (m_add (A.ok m u) (B.ok m u)) (m_sym (under_mod u (add≈ a b))) }

abbrev pub r_wmul : {a b : ℕ} {ρ : List ℕ} → Read (2 ^ 32) ρ a → Read (2 ^ 32) ρ b → Read (2 ^ 32) ρ (mul a b)
r_wmul {a} {b} A B =
    record { ex = A.ex ⊗ B.ex; ok = λ m u. m_trans (m_mul (A.ok m u) (B.ok m u)) (m_sym (under_mod u (mul≈ a b))) }

abbrev pub r_wsub : {a b : ℕ} {ρ : List ℕ} → Read (2 ^ 32) ρ a → Read (2 ^ 32) ρ b → Read (2 ^ 32) ρ (sub a b)
r_wsub {a} {b} A B = record {
  ex = A.ex ⊕ con (2 ^ 32 - 1) ⊗ B.ex;
  ok = λ m u.
      m_trans (m_add (A.ok m u) (m_mul (m_refl {a = 2 ^ 32 - 1}) (B.ok m u))) (m_sym (under_mod u (sub≈ a b)));
}

abbrev pub r_wneg : {a : ℕ} {ρ : List ℕ} → Read (2 ^ 32) ρ a → Read (2 ^ 32) ρ (neg a)
r_wneg {a} A = record {
  ex = con (2 ^ 32 - 1) ⊗ A.ex;
  ok = λ m u. m_trans (m_mul (m_refl {a = 2 ^ 32 - 1}) (A.ok m u)) (m_sym (under_mod u (neg≈ a)));
}

-- (before `reify`: a hypothesis defines only what no rule takes apart)
pub ruleset words = (r_wadd, r_wmul, r_wsub, r_wneg, residues, reify)

-- ---- the signed value

-- a word is the residue of its signed value
pub signed≈ : (w : ℕ) → residue (2 ^ 32) (signed w) ≈ w
unfolding signed residue
signed≈ w = go (nat_lt w (2 ^ 31))
  where
    go : (b : Bool) → residue (2 ^ 32) (cond b (pos w) (pos w -ℤ pos (2 ^ 32))) ≈ w
    go true = m_eq (sym (residue_pos (2 ^ 32) w))
    go false = m_trans (residue_add (2 ^ 32) refl (pos w) (neg_ℤ (pos (2 ^ 32))))
        (m_trans (m_add (m_eq (sym (residue_pos (2 ^ 32) w))) (m_of whole)) (m_eq (omega arith)))
      where
        whole : residue (2 ^ 32) (neg_ℤ (pos (2 ^ 32))) % 2 ^ 32 ≡ 0
        whole = refl
