-- How a caller tells a chain of refusals from its tests, each of which returns its number at once; what is new and what
-- stays; and what a name that fits is (Messages). Assumes nothing.
use Rattle.std.specs.Prelude.{◌≡◌, refl, Bool, true, false, not, cond, ◌&&◌, List, ◌++◌, ℕ, suc, ◌-◌, ◌≤◌, T, leb}
use Rattle.std.specs.Prelude.{length, replicate}
use Rattle.std.proofs.Common.{sym, ap, subst, ◌∙◌, append-nil, arith, leb-true, eq-eqb, ne_eqb}
use Rattle.std.proofs.lemmas.Bool.{not-true, not-false}
use Rattle.base_messages.specs.Messages.{unless, if_taken, printable, name_fits, padded}

-- ---- a chain of refusals

-- the test fails: k is why not
pub unless_false : (b : Bool) (k rest : ℕ) → b ≡ false → k ≡ unless b k rest
unfolding unless
unless_false b k rest e = ap (λ (t : Bool). cond t rest k) (sym e)

-- it holds: what comes after it decides
pub unless_true : (b : Bool) (k rest : ℕ) {r : ℕ} → b ≡ true → r ≡ rest → r ≡ unless b k rest
unfolding unless
unless_true b k rest e h = h ∙ ap (λ (t : Bool). cond t rest k) (sym e)

-- the same of the code's `if !b { return k; }`
pub turned_down : (b : Bool) (k rest : ℕ) → not b ≡ true → k ≡ unless b k rest
turned_down b k rest e = unless_false b k rest (not-true b e)

pub goes_on : (b : Bool) (k rest : ℕ) {r : ℕ} → not b ≡ false → r ≡ rest → r ≡ unless b k rest
goes_on b k rest e h = unless_true b k rest (not-false b e) h

-- where nothing refuses, the test holds and nothing after it refuses
pub passed : {b : Bool} (k : ℕ) {rest : ℕ} → unless b (suc k) rest ≡ 0 → (b ≡ true) × (rest ≡ 0)
unfolding unless
passed {b = true} k e = (refl, e)
passed {b = false} k e = absurd (omega arith)

-- no number in the chain is above n
pub unless_most : (b : Bool) (k rest n : ℕ) → k ≤ n → rest ≤ n → unless b k rest ≤ n
unfolding unless
unless_most true k rest n h l = l
unless_most false k rest n h l = h

-- ---- what a call hands back, where the code's number r is why not

-- nothing refuses: what is new
pub taken : {A : Type 0} {r why : ℕ} (new old : A) → r ≡ why → r ≡ 0 → new ≡ if_taken why new old
unfolding if_taken
taken {why} new old e h = ap (λ (t : Bool). cond t new old) (sym (eq-eqb why 0 (sym e ∙ h)))

-- something does: what was there
pub refused : {A : Type 0} {r why : ℕ} (new old : A) → r ≡ why → (r ≡ 0 → ⊥) → old ≡ if_taken why new old
unfolding if_taken
refused {why} new old e h = ap (λ (t : Bool). cond t new old) (sym (ne_eqb why 0 (λ z. h (e ∙ z))))

-- ---- names

-- a name that a start takes can be padded
pub fits_short : (s : List ℕ) → name_fits s ≡ true → length s ≤ 16
unfolding name_fits
fits_short s h = go (leb 1 (length s)) (leb (length s) 16) refl h
  where
    go : (a b : Bool) → leb (length s) 16 ≡ b → a && (b && printable s) ≡ true → length s ≤ 16
    go a true e h = leb-true (length s) 16 e
    go true false e h = absurd (subst T (sym h) tt)
    go false false e h = absurd (subst T (sym h) tt)

-- a name of 16 bytes is padded already
pub padded_whole : (s : List ℕ) → length s ≡ 16 → padded s ≡ s
unfolding padded
padded_whole s h = ap (λ (n : ℕ). s ++ replicate {A = ℕ} (16 - n) 0) h ∙ append-nil s
