-- Flags and tests as numbers: what 01 writes as "if" and as [a < b]. Assumes nothing. [SPEC 0.6, 8.3, 8.6, 18.4]
use Rattle.std.specs.Prelude.{◌≡◌, ℕ, ◌%◌, ◌<◌, ◌≤◌, Bool, true, false, ◌&&◌, T, ◌==◌, nat_lt, refl}
use Rattle.std.proofs.Common.{sym, subst, arith, lt-ltb, le-ltb, eqb-true}
use Rattle.std.proofs.lemmas.Bool.{eqb-false}

-- x if the flag is set, else 0
unfoldable pub only : Bool → ℕ → ℕ
only true x = x
only false x = 0

-- [p < q]: 1 if so, else 0
unfoldable pub less : ℕ → ℕ → ℕ
less p q = only (nat_lt p q) 1

-- the lowest bit
unfoldable pub odd : ℕ → Bool
odd x = x % 2 == 1

-- ---- laws

pub bit_le : (b : Bool) → only b 1 ≤ 1
unfolding only
bit_le true = omega arith
bit_le false = omega arith

pub less_lt : (p q : ℕ) → p < q → less p q ≡ 1
unfolding less only
less_lt p q h = rw (lt-ltb p q h)

pub less_ge : (p q : ℕ) → q ≤ p → less p q ≡ 0
unfolding less only
less_ge p q h = rw (le-ltb p q h)

pub less_le : (p q : ℕ) → less p q ≤ 1
unfolding less
less_le p q = bit_le (nat_lt p q)

pub only_odd : (x : ℕ) → only (odd x) 1 ≡ x % 2
unfolding only odd
only_odd x = go (x % 2 == 1) refl
  where
    go : (b : Bool) → (x % 2 == 1) ≡ b → only b 1 ≡ x % 2
    go true e = sym (eqb-true _ _ e)
    go false e = omega (arith, eqb-false (x % 2) 1 e)

pub odd_only : (b : Bool) → odd (only b 1) ≡ b
unfolding only odd
odd_only true = refl
odd_only false = refl

-- a test that is passed and failed
pub neither {ℓ} : {X : Type ℓ} → false ≡ true → X
neither h = absurd (subst T (sym h) tt)

-- two tests that are both passed
pub both : (a b : Bool) → a && b ≡ true → (a ≡ true) × (b ≡ true)
both true b h = (refl, h)
both false b h = neither h
