-- How the lowest bad minute is found without trying all 1,440: how many rows hold a minute changes only where a row
-- begins or has just ended. Assumes nothing.
use Rattle.std.specs.Prelude.{◌≡◌, Bool, cond, List, get_or}
use Rattle.std.proofs.Math.Path.{refl}
use Rattle.std.proofs.Common.{arith, below_more}
use Rattle.std.proofs.Math.Bool.{true, false}
use Prim.Native.Nat.{ℕ, ◌+◌, ◌≤◌, ◌<◌}
use borrow.Author.Tests.{ltb-true, ltb-false, lt-ltb, le-ltb, eq-eqb, ne_eqb}
use Rattle.std.proofs.Math.Dec.{ltb}
use Rattle.call_day.specs.Table.{day, rows_with, bad_minute}

module _ (firsts lasts : List ℕ) where
  -- the minute where it is below the lowest so far and bad too, else that one
  unfoldable pub lower_of : ℕ → ℕ → ℕ
  lower_of lowest minute = cond (ltb minute lowest) (cond (bad_minute firsts lasts minute) minute lowest) lowest

  -- minute 0 and the turns of the first n rows were tried: none below `lowest` is bad, and it is unless it is 1,440
  pub record Tried (n lowest : ℕ) : Type 0 where
    pub within : lowest ≤ day
    pub bad : lowest < day → bad_minute firsts lasts lowest ≡ true
    pub at_0 : 0 < lowest → bad_minute firsts lasts 0 ≡ false
    pub begins : (i : ℕ) → i < n → get_or firsts i 0 < lowest → bad_minute firsts lasts (get_or firsts i 0) ≡ false
    pub ends : (i : ℕ) → i < n → get_or lasts i 0 + 1 < lowest → bad_minute firsts lasts (get_or lasts i 0 + 1) ≡ false

  -- ---- one minute more is tried

  lower_cases : (P : ℕ → Type 0) (lowest minute : ℕ)
      → (minute < lowest → bad_minute firsts lasts minute ≡ true → P minute)
      → ((minute < lowest → bad_minute firsts lasts minute ≡ false) → P lowest)
      → P (lower_of lowest minute)
  unfolding lower_of
  lower_cases P lowest minute f g = go (ltb minute lowest) refl (bad_minute firsts lasts minute) refl
    where
      go : (a : Bool) → ltb minute lowest ≡ a → (b : Bool) → bad_minute firsts lasts minute ≡ b
          → P (cond a (cond b minute lowest) lowest)
      go true e true e2 = f (ltb-true _ _ e) e2
      go true e false e2 = g (λ l. e2)
      go false e b e2 = g (λ l. absurd (omega (arith, l, ltb-false minute lowest e)))

  pub lower_bad : {lowest minute : ℕ} → minute < lowest → (rows_with firsts lasts minute ≡ 1 → ⊥)
      → minute ≡ lower_of lowest minute
  unfolding lower_of bad_minute
  lower_bad l n = simp (lt-ltb _ _ l, ne_eqb _ 1 n)

  pub lower_good : {lowest minute : ℕ} → minute < lowest → rows_with firsts lasts minute ≡ 1
      → lowest ≡ lower_of lowest minute
  unfolding lower_of bad_minute
  lower_good l e = simp (lt-ltb _ _ l, eq-eqb _ 1 e)

  pub lower_past : {lowest minute : ℕ} → lowest ≤ minute → lowest ≡ lower_of lowest minute
  unfolding lower_of
  lower_past l = simp (le-ltb _ _ l)

  -- what was tried stays tried, and the minute is
  pub record Lowered (lowest minute next : ℕ) : Type 0 where
    pub below : next ≤ lowest
    pub tried : minute < next → bad_minute firsts lasts minute ≡ false
    pub bad : (lowest < day → bad_minute firsts lasts lowest ≡ true) → next < day → bad_minute firsts lasts next ≡ true

  pub lowered : (lowest minute : ℕ) → Lowered lowest minute (lower_of lowest minute)
  lowered lowest minute =
      lower_cases (Lowered lowest minute) lowest minute
      (λ l b. record { below = omega arith; tried = λ h. absurd (omega arith); bad = λ f h. b })
      (λ g. record { below = omega arith; tried = g; bad = λ f h. f h })

  pub tried_none : Tried 0 (lower_of day 0)
  tried_none =
      let k = lowered day 0 in
      record {
        within = k.below;
        bad = k.bad (λ h. absurd (omega arith));
        at_0 = k.tried;
        begins = λ i h. absurd (omega arith);
        ends = λ i h. absurd (omega arith);
      }

  -- one row more
  pub tried_more : (n lowest : ℕ) → Tried n lowest
      → Tried (n + 1) (lower_of (lower_of lowest (get_or firsts n 0)) (get_or lasts n 0 + 1))
  tried_more n lowest t =
      let a = lowered lowest (get_or firsts n 0) in
      let b = lowered (lower_of lowest (get_or firsts n 0)) (get_or lasts n 0 + 1) in
      record {
        within = omega (arith, a.below, b.below, t.within);
        bad = b.bad (a.bad t.bad);
        at_0 = λ h. t.at_0 (omega (arith, a.below, b.below));
        begins = below_more _ n
            (λ i l h. t.begins i l (omega (arith, a.below, b.below))) (λ h. a.tried (omega (arith, b.below)));
        ends = below_more _ n (λ i l h. t.ends i l (omega (arith, a.below, b.below))) b.tried;
      }
