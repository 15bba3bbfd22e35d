-- The lock's start and join from their tests, each of which returns its number at once, lowest first. Assumes nothing.
use mathlib.Core.Path.{◌≡◌, refl, sym, ap, ◌∙◌}
use mathlib.Core.Bool.{Bool, true, false, not, ◌&&◌}
use mathlib.Core.List.{List}
use Prim.Native.Nat.{ℕ}
use native.Mathlib.Omega.{arith}
use lib.Dec.{eqb, leb, ltb}
use lib.ListN.{length}
use Rattle.base_algebra.specs.Word.{add}
use Rattle.base_messages.specs.declared.Label.{Label}
use Rattle.base_messages.specs.Messages.{unless, is_name, expected, name_fits, padded}
use Rattle.base_messages.specs.Laws.{turned_down, goes_on, taken, refused}
use Rattle.call_lock.specs.Lock.{no_lock, why_not_lock, start_lock, why_not_join}
use Rattle.call_lock.specs.Laws.{alike}
use Rattle.call_lock.specs.declared.Lock.{Lock}

-- ---- start

module _ (name : List ℕ) (floor : ℕ) (b : Bool) (e : b ≡ name_fits name) where
  pub name_refused : not b ≡ true → record { why = 1; lock = no_lock; bit = 0 } ≡ start_lock name floor
  unfolding start_lock why_not_lock
  name_refused h =
      let why : 1 ≡ why_not_lock name = turned_down _ _ _ (ap not (sym e) ∙ h) in
      alike why (refused _ _ why (λ z. omega arith)) refl

  pub started : (p : List ℕ) → not b ≡ false → p ≡ padded name
      → record { why = 0; lock = record { name = p; last = floor }; bit = 0 } ≡ start_lock name floor
  unfolding start_lock why_not_lock
  started p h ep =
      let why : 0 ≡ why_not_lock name = goes_on _ _ _ (ap not (sym e) ∙ h) refl in
      alike why (ap (λ (l : List ℕ). record { name = l; last = floor }) ep ∙ taken _ _ why refl) refl

-- ---- join

-- what decides a join's refusals, as the code has it
pub why_is : (s : Lock) (l0 : Label) (n0 : List ℕ) (a0 : ℕ) (l1 : Label) (n1 : List ℕ) (a1 : ℕ) (f g : Bool) (t : ℕ)
    → f ≡ expected 2 s.name 0 l0 n0 → g ≡ expected 2 s.name 1 l1 n1 → t ≡ add a0 a1
    → unless (eqb (length n0) 16 && eqb (length n1) 16) 4
    (unless (f && g) 6 (unless (ltb s.last l0.number && eqb l1.number l0.number) 7 (unless (leb t 1) 12 0)))
    ≡ why_not_join s l0 n0 a0 l1 n1 a1
unfolding why_not_join is_name
why_is s l0 n0 a0 l1 n1 a1 f g t ef eg et = rw (ef, eg, et) refl
