-- A search over two lists side by side, as an iterator makes it and as `specs/Search.antt` defines it.
-- Assumes nothing.
use Rattle.std.proofs.Common.{◌≡◌, refl, sym, subst, ℕ, suc, ◌+◌, ◌≤◌, ◌<◌}
use Rattle.std.proofs.Common.{Bool, true, false, not, cond, List, []}
use Rattle.std.proofs.Common.{◌∷◌, length, get_or, Option, Some, None, arith, ltb, ltb-true, ltb-false}
use Rattle.std.specs.List.{zip, position_or_len}
use Rattle.std.specs.Option.{MatchOption}
use Rattle.std.proofs.lemmas.Slice.Zip.{length-zip}
use Rattle.call_day.specs.Search.{least}

flip : (b : Bool) {k l : ℕ} → k ≡ l → cond (not b) (1 + k) 0 ≡ cond b 0 (suc l)
flip true e = refl
flip false e = omega arith

module _ (q : ℕ → ℕ → Bool) where
  abbrev at : List ℕ → List ℕ → ℕ → Bool
  at xs ys i = q (get_or xs i 0) (get_or ys i 0)

  abbrev pub of_pair : ℕ × ℕ → Bool
  of_pair p = q p.0 p.1

  position-zip : (xs ys : List ℕ) → length ys ≡ length xs
      → position_or_len of_pair (zip xs ys) ≡ least (at xs ys) (length xs)
  unfolding least
  position-zip [] ys h = refl
  position-zip (x ∷ xs) [] h = absurd (omega arith)
  position-zip (x ∷ xs) (y ∷ ys) h = flip (q x y) (position-zip xs ys (omega arith))

  abbrev place : List ℕ → List ℕ → ℕ
  place xs ys = position_or_len of_pair (zip xs ys)

  -- what `position` finds: the least, where it is below the length
  pub least-zip : (xs ys : List ℕ) → length ys ≡ length xs → (r : Option ℕ)
      → r ≡ cond (ltb (position_or_len of_pair (zip xs ys)) (length (zip xs ys)))
      (Some (position_or_len of_pair (zip xs ys))) None
      → MatchOption r (length xs ≤ least (λ i. q (get_or xs i 0) (get_or ys i 0)) (length xs))
      (λ k. (k ≡ least (λ i. q (get_or xs i 0) (get_or ys i 0)) (length xs)) × (k < length xs))
  least-zip xs ys h r e =
      subst (λ r. MatchOption r (length xs ≤ least (at xs ys) (length xs)) Found) (sym e)
      (go (ltb (place xs ys) (length (zip xs ys))) refl)
    where
      Found : ℕ → Type 0
      Found k = (k ≡ least (at xs ys) (length xs)) × (k < length xs)

      go : (b : Bool) → ltb (place xs ys) (length (zip xs ys)) ≡ b
          → MatchOption (cond b (Some (place xs ys)) None) (length xs ≤ least (at xs ys) (length xs)) Found
      go true t =
          (position-zip xs ys h, omega (arith, ltb-true _ _ t, length-zip xs ys))
      go false t =
          omega (arith, ltb-false _ _ t, length-zip xs ys, position-zip xs ys h)
