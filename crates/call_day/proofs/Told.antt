-- What code tells of a table and of a minute, from what the callees say. Assumes nothing.
use mathlib.Core.Path.{◌≡◌, refl, sym, ap, subst, ◌∙◌}
use mathlib.Core.Bool.{Bool, true, false, ◌&&◌}
use Prim.Native.Nat.{ℕ, suc, ◌+◌, ◌≤◌, ◌<◌}
use native.Mathlib.Numerals.{add-one}
use native.Mathlib.Omega.{arith}
use borrow.Author.Tests.{lt-ltb, le-ltb}
use lib.Dec.{eqb, ltb}
use lib.ListN.{length, get_or}
use Rattle.std.specs.Prelude.{Option, Some, None, MatchOption, IsSome}
use Rattle.base_messages.specs.declared.Refusal.{Refusal}
use Rattle.base_messages.specs.Refusals.{number_of, numbered}
use Rattle.base_messages.specs.Messages.{bad_rows, no_row, more_rows}
use Rattle.call_day.specs.Table.{Table, day, no_threshold, rows_with, first_bad_row, first_bad_minute, row_at, shaped}
use Rattle.call_day.specs.Table.{Finds, fault, why_not_table, choose}
use Rattle.call_day.specs.Laws as laws
use Rattle.call_day.specs.Claims.{Shaped, shaped_of, Good, row_below}
use Rattle.call_day.proofs.Claims.{taken_good}
use Rattle.call_day.specs.Table.{Choice}
use Rattle.call_day.specs.Table.{Fault}

module _ (t : Table) where
  pub lists : {b : Bool} → b ≡ shaped t → b ≡ false → fault bad_rows 0 ≡ why_not_table t
  lists e f = sym (laws.lists t (sym e ∙ f))

  module _ {b : Bool} (is : b ≡ shaped t) (yes : b ≡ true) where
    s : shaped t ≡ true
    s = sym is ∙ yes

    pub is_shaped : Shaped t
    is_shaped = shaped_of t s

    pub row : (i : ℕ) → i ≡ first_bad_row t.firsts t.lasts → i < length t.firsts
        → fault bad_rows (i + 1) ≡ why_not_table t
    row i e l = ap (fault bad_rows) (add-one i ∙ ap suc e) ∙ sym (laws.row t s (omega arith))

    module _ (r : length t.firsts ≤ first_bad_row t.firsts t.lasts) (m : ℕ)
        (f : m ≡ first_bad_minute t.firsts t.lasts) where
      pub good : day ≤ m → fault 0 0 ≡ why_not_table t
      good l = sym (laws.good t s (omega arith) (omega arith))

      module _ (l : m < day) (k : ℕ) (h : k ≡ rows_with t.firsts t.lasts m) where
        pub none : k ≡ 0 → fault no_row m ≡ why_not_table t
        none z =
            ap (fault no_row) f
            ∙ sym (laws.none t s (omega arith) (omega arith)
            (ap (rows_with t.firsts t.lasts) (sym f) ∙ sym h ∙ z))

        pub more : (k ≡ 0 → ⊥) → fault more_rows m ≡ why_not_table t
        more z =
            ap (fault more_rows) f
            ∙ sym (laws.more t s (omega arith) (omega arith)
            (λ n. z (h ∙ ap (rows_with t.firsts t.lasts) f ∙ n)))

module _ (t : Table) (minute : ℕ) where
  no_row_lem : (v : Fault) → v ≡ why_not_table t → eqb v.why 0 && ltb minute day ≡ false
      → ◌≡◌ {A = Choice} record { why = v.why; place = v.place; threshold = no_threshold } (choose t minute)
  unfolding choose
  no_row_lem v e b = rw (sym e, b) refl

  -- a bad table
  pub turned_down : (why : Refusal) (place : ℕ) → fault (number_of why) place ≡ why_not_table t
      → ◌≡◌ {A = Choice} record { why = number_of why; place = place; threshold = no_threshold } (choose t minute)
  turned_down why place e = no_row_lem _ e (ap (λ (b : Bool). b && ltb minute day) (numbered why))

  -- what a search for the minute's row has found
  abbrev Found : ℕ → Type 0
  Found r = (r ≡ row_at t.firsts t.lasts minute) × (r < length t.firsts)

  pub found : {o : Option ℕ} {r : ℕ}
      → Finds o (length t.firsts) (row_at t.firsts t.lasts minute) → o ≡ Some r → Found r
  found m e = subst (λ o. MatchOption o (length t.firsts ≤ row_at t.firsts t.lasts minute) Found) e m

  module _ (e : fault 0 0 ≡ why_not_table t) where
    pub past_day_lem : day ≤ minute
        → ◌≡◌ {A = Choice} record { why = 0; place = 0; threshold = no_threshold } (choose t minute)
    past_day_lem h = no_row_lem _ e (le-ltb minute day h)

    pub taken : Good t
    taken = taken_good t (ap (λ (v : Fault). v.why) (sym e))

    -- a good table, and a row that holds the minute
    module _ (h : minute < day) where
      pub below : row_at t.firsts t.lasts minute < length t.firsts
      below = row_below t minute taken h

      pub is_row : (o : Option ℕ) (Q : ℕ → Type 0)
          → MatchOption o (length t.firsts ≤ row_at t.firsts t.lasts minute) Q → IsSome o
      is_row (Some r) Q m = refl
      is_row None Q m = absurd (omega (arith, below))

      pub row_of : (r : ℕ) → r ≡ row_at t.firsts t.lasts minute
          → ◌≡◌ {A = Choice} record { why = 0; place = r + 1; threshold = get_or t.thresholds r 0 } (choose t minute)
      unfolding choose
      row_of r f = rw (sym e, lt-ltb minute day h, f, add-one (row_at t.firsts t.lasts minute)) refl
