-- No other minute than those that are tried can be the lowest bad one (`specs/Turns.antt`): how many rows hold a minute
-- changes only where a row begins or has just ended. Assumes nothing.
use Rattle.std.specs.Prelude.{◌≡◌, Bool, ◌&&◌, ◌||◌, List, eqb, length, get_or}
use Rattle.std.proofs.Math.Path.{refl, sym, ap}
use Rattle.std.proofs.Common.{ap₂, subst, ◌∙◌, arith, add-one}
use Rattle.std.proofs.Math.Bool.{true, false, not}
use Prim.Native.Nat.{ℕ, zero, suc, ◌≤◌, ◌<◌}
use borrow.Author.Tests.{ltb-true, ltb-false, eqb-true, eqb-false, leb-true, leb-false}
use borrow.Author.Tests.{le-leb, lt-leb}
use Rattle.std.proofs.Math.Dec.{leb, ltb}
use Rattle.base_algebra.specs.Bit.{neither}
use Rattle.call_day.specs.Search.{Least, least, least_least, least_only, count_same}
use Rattle.call_day.specs.Table.{day, in_row, holds, rows_with, bad_minute, first_bad_minute}
use Rattle.call_day.specs.Turns.{Tried}

module _ (firsts lasts : List ℕ) where
  -- whether a row begins at minute m + 1, or ended at m
  abbrev turns : ℕ → ℕ → Bool
  turns m i = eqb (get_or firsts i 0) (suc m) || eqb (get_or lasts i 0) m

  stays : (m i : ℕ) → turns m i ≡ false → holds firsts lasts (suc m) i ≡ holds firsts lasts m i
  unfolding holds
  stays m i e = go (eqb (get_or firsts i 0) (suc m)) refl (eqb (get_or lasts i 0) m) refl e
    where
      from : (a b : ℕ) → (a ≡ suc b → ⊥) → leb a (suc b) ≡ leb a b
      from a b n = same (leb a b) refl
        where
          same : (t : Bool) → leb a b ≡ t → leb a (suc b) ≡ leb a b
          same true f = le-leb a (suc b) (omega (arith, leb-true a b f)) ∙ sym f
          same false f = lt-leb a (suc b) (omega (arith, leb-false a b f, n)) ∙ sym f

      to : (a b : ℕ) → (b ≡ a → ⊥) → leb (suc a) b ≡ leb a b
      to a b n = same (leb a b) refl
        where
          same : (t : Bool) → leb a b ≡ t → leb (suc a) b ≡ leb a b
          same true f = le-leb (suc a) b (omega (arith, leb-true a b f, n)) ∙ sym f
          same false f = lt-leb (suc a) b (omega (arith, leb-false a b f)) ∙ sym f

      go : (a : Bool) → eqb (get_or firsts i 0) (suc m) ≡ a → (b : Bool) → eqb (get_or lasts i 0) m ≡ b → a || b ≡ false
          → in_row (get_or firsts i 0) (get_or lasts i 0) (suc m) ≡ in_row (get_or firsts i 0) (get_or lasts i 0) m
      go true f b g e = neither (sym e)
      go false f true g e = neither (sym e)
      go false f false g e =
          ap₂ ◌&&◌ (from (get_or firsts i 0) m (eqb-false _ _ f)) (to m (get_or lasts i 0) (eqb-false _ _ g))

  -- where no row turns, as many rows hold a minute as the one before it
  none_turns : (m : ℕ) → ((i : ℕ) → i < length firsts → turns m i ≡ false)
      → bad_minute firsts lasts (suc m) ≡ bad_minute firsts lasts m
  unfolding bad_minute rows_with
  none_turns m h =
      ap (λ k. not (eqb k 1))
      (count_same (holds firsts lasts (suc m)) (holds firsts lasts m) (length firsts) (λ i l. stays m i (h i l)))

  module _ (lowest : ℕ) (t : Tried firsts lasts (length firsts) lowest) where
    -- a row that turns at a minute below the lowest
    turn_good : (m i : ℕ) → suc m < lowest → i < length firsts → turns m i ≡ true
        → bad_minute firsts lasts (suc m) ≡ false
    turn_good m i l h e = go (eqb (get_or firsts i 0) (suc m)) refl (eqb (get_or lasts i 0) m) refl e
      where
        go : (a : Bool) → eqb (get_or firsts i 0) (suc m) ≡ a → (b : Bool) → eqb (get_or lasts i 0) m ≡ b
            → a || b ≡ true
            → bad_minute firsts lasts (suc m) ≡ false
        go true f b g e =
            let at = eqb-true _ _ f in
            subst (λ k. bad_minute firsts lasts k ≡ false) at (t.begins i h (subst (λ k. k < lowest) (sym at) l))
        go false f true g e =
            let at = add-one (get_or lasts i 0) ∙ ap suc (eqb-true _ _ g) in
            subst (λ k. bad_minute firsts lasts k ≡ false) at (t.ends i h (subst (λ k. k < lowest) (sym at) l))
        go false f false g e = neither e

    -- so none below it is bad
    all_good : (m : ℕ) → m < lowest → bad_minute firsts lasts m ≡ false
    all_good zero l = t.at_0 l
    all_good (suc m) l = go (ltb (least (turns m) (length firsts)) (length firsts)) refl (all_good m (omega arith))
      where
        at : Least (turns m) (length firsts) (least (turns m) (length firsts))
        at = least_least (turns m) (length firsts)

        go : (b : Bool) → ltb (least (turns m) (length firsts)) (length firsts) ≡ b
            → bad_minute firsts lasts m ≡ false → bad_minute firsts lasts (suc m) ≡ false
        go true e before =
            let h = ltb-true _ _ e in turn_good m (least (turns m) (length firsts)) l h (at.at h)
        go false e before =
            let h : length firsts ≤ least (turns m) (length firsts) = ltb-false _ _ e in
            none_turns m (λ i k. at.before i (omega arith)) ∙ before

    pub found_lowest : lowest ≡ first_bad_minute firsts lasts
    unfolding first_bad_minute
    found_lowest =
        least_only (bad_minute firsts lasts) day lowest
        record { within = t.within; before = all_good; at = t.bad }
