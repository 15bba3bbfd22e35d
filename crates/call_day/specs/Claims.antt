-- What is told of a table is what 02, §5 asks for: which tables are good, which row holds a minute, and what each
-- refusal and its place mean. Assumes nothing. [SPEC 23.14 to 23.16, 33.1 to 33.4]
use Rattle.std.specs.Prelude.{◌≡◌, Bool, ◌&&◌, List, [], ◌∷◌, ℕ, suc, ◌≤◌, ◌<◌, eqb, get_or}
use Rattle.std.proofs.Math.Path.{refl, ap}
use Rattle.std.proofs.Common.{◌∙◌, arith}
use Rattle.std.proofs.Math.Bool.{true, false}
use borrow.Author.Tests.{leb-true, le-leb, ltb-true, eqb-true, ne_eqb}
use Rattle.std.proofs.lemmas.Bool.{not-false}
use Rattle.std.proofs.Math.Dec.{leb}
use Rattle.std.proofs.Math.ListN.{length}
use Rattle.base_algebra.specs.Bit.{both}
use Rattle.base_messages.specs.Messages.{bad_rows, no_row, more_rows}
use Rattle.call_day.specs.Search.{least, count, least_least, found}
use Rattle.call_day.specs.Table.{Table, table_of, day, most_rows, holds, bad_row, rows_with, bad_minute}
use Rattle.call_day.specs.Table.{first_bad_row, first_bad_minute, row_at, shaped, fault, why_not_table, choose}
use Rattle.call_day.specs.Table.{Choice}

-- ---- what a table is, in 02's words, with no test and no search. Rows are counted from 0.

-- "three lists of one length", "1 to 32 rows"
pub record Shaped (t : Table) : Type 0 where
  pub lasts_too : length t.lasts ≡ length t.firsts
  pub thresholds_too : length t.thresholds ≡ length t.firsts
  pub some : 1 ≤ length t.firsts
  pub few : length t.firsts ≤ most_rows

module _ (firsts lasts : List ℕ) where
  -- row i does not run backwards or past 1,439
  pub record GoodRow (i : ℕ) : Type 0 where
    pub forward : get_or firsts i 0 ≤ get_or lasts i 0
    pub in_day : get_or lasts i 0 < day

  -- the minute lies in row i
  pub record InRow (minute i : ℕ) : Type 0 where
    pub row : i < length firsts
    pub from : get_or firsts i 0 ≤ minute
    pub to : minute ≤ get_or lasts i 0

  -- "in one row and no more"
  pub record OneRow (minute : ℕ) : Type 0 where
    pub row : ℕ
    pub in_row : InRow minute row
    pub only : (j : ℕ) → InRow minute j → j ≡ row

  pub record TwoRows (minute : ℕ) : Type 0 where
    pub row : ℕ
    pub other : ℕ
    pub apart : row ≡ other → ⊥
    pub in_row : InRow minute row
    pub in_other : InRow minute other

  abbrev pub GoodRows : Type 0
  GoodRows = (i : ℕ) → i < length firsts → GoodRow i

  -- "Every minute must lie in one row and no more": every one below this
  abbrev pub OneRowBelow : ℕ → Type 0
  OneRowBelow minute = (m : ℕ) → m < minute → OneRow m

-- a good table
pub record Good (t : Table) : Type 0 where
  pub is_shaped : Shaped t
  pub rows : GoodRows t.firsts t.lasts
  pub minutes : OneRowBelow t.firsts t.lasts day

-- what a number and its place say of a table
pub data Says (t : Table) : ℕ → ℕ → Type 0 where
  good : Good t → Says t 0 0
  lists : (Shaped t → ⊥) → Says t bad_rows 0
  -- the first bad row
  row : Shaped t → (i : ℕ) → i < length t.firsts → (GoodRow t.firsts t.lasts i → ⊥)
      → ((j : ℕ) → j < i → GoodRow t.firsts t.lasts j)
      → Says t bad_rows (suc i)
  -- the lowest bad minute
  none : Shaped t → GoodRows t.firsts t.lasts
      → (m : ℕ) → m < day → OneRowBelow t.firsts t.lasts m → ((i : ℕ) → InRow t.firsts t.lasts m i → ⊥)
      → Says t no_row m
  more : Shaped t → GoodRows t.firsts t.lasts
      → (m : ℕ) → m < day → OneRowBelow t.firsts t.lasts m → TwoRows t.firsts t.lasts m
      → Says t more_rows m

-- ---- the tests say so

pub both_back : {a b : Bool} → a ≡ true → b ≡ true → a && b ≡ true
both_back {a} {b} e f = ap (λ (t : Bool). t && b) e ∙ f

pub shaped_of : (t : Table) → shaped t ≡ true → Shaped t
unfolding shaped
shaped_of t h =
    let a = both (eqb (length t.lasts) (length t.firsts)) _ h in
    let b = both (eqb (length t.thresholds) (length t.firsts)) _ a.1 in
    let d = both (leb 1 (length t.firsts)) _ b.1 in
    record {
      lasts_too = eqb-true _ _ a.0;
      thresholds_too = eqb-true _ _ b.0;
      some = leb-true _ _ d.0;
      few = leb-true _ _ d.1;
    }

module _ (firsts lasts : List ℕ) where
  pub good_row : (i : ℕ) → bad_row firsts lasts i ≡ false → GoodRow firsts lasts i
  unfolding bad_row
  good_row i h =
      let a = both (leb (get_or firsts i 0) (get_or lasts i 0)) _ (not-false _ h) in
      record { forward = leb-true _ _ a.0; in_day = ltb-true _ _ a.1 }

  pub in_row : (m i : ℕ) → i < length firsts → holds firsts lasts m i ≡ true → InRow firsts lasts m i
  unfolding holds
  in_row m i l h =
      let a = both (leb (get_or firsts i 0) m) _ h in
      record { row = l; from = leb-true _ _ a.0; to = leb-true _ _ a.1 }

  pub of_in : (m i : ℕ) → InRow firsts lasts m i → holds firsts lasts m i ≡ true
  unfolding holds
  of_in m i r = both_back {a = leb (get_or firsts i 0) m} (le-leb _ _ r.from) (le-leb _ _ r.to)

  -- no bad row, no bad minute
  pub all_rows : length firsts ≤ first_bad_row firsts lasts → GoodRows firsts lasts
  unfolding first_bad_row
  all_rows h i l = good_row i ((least_least (bad_row firsts lasts) (length firsts)).before i (omega arith))

  -- the row that is found is the one
  pub row_only : (m : ℕ) (o : OneRow firsts lasts m) → o.row ≡ row_at firsts lasts m
  unfolding row_at
  row_only m o =
      found o.in_row.row (λ k h. earlier k h (holds firsts lasts m k) refl) (of_in m o.row o.in_row)
    where
      earlier : (k : ℕ) → k < o.row → (b : Bool) → holds firsts lasts m k ≡ b → holds firsts lasts m k ≡ false
      earlier k h true e = absurd (omega (arith, o.only k (in_row m k (omega (arith, o.in_row.row)) e)))
      earlier k h false e = e

-- ---- the claims (those that say it of the number, the place and the row are in `proofs/Claims.antt`)

-- what is told of a minute: its threshold and its place, counted from 1, are those of the only row that holds it
pub record Chosen (t : Table) (minute : ℕ) (c : Choice) : Type 0 where
  pub row : ℕ
  pub in_row : InRow t.firsts t.lasts minute row
  pub only : (j : ℕ) → InRow t.firsts t.lasts minute j → j ≡ row
  pub taken : c.why ≡ 0
  pub place_is : c.place ≡ suc row
  pub threshold_is : c.threshold ≡ get_or t.thresholds row 0

module _ (t : Table) (minute : ℕ) where
  -- a good table and a minute of the day
  pub row_below : Good t → minute < day → row_at t.firsts t.lasts minute < length t.firsts
  row_below g h =
      let o = g.minutes minute h in
      omega (arith, row_only t.firsts t.lasts minute o, o.in_row.row)

  -- "A good table must be taken" whatever its thresholds: only how many there are counts
  pub any_thresholds : (u : Table) → u.firsts ≡ t.firsts → u.lasts ≡ t.lasts
      → length u.thresholds ≡ length t.thresholds → why_not_table u ≡ why_not_table t
  unfolding why_not_table shaped
  any_thresholds u f l n = rw (f, l, n) refl

  -- a bad table: its number and place, whatever the minute
  pub choose_why : (choose t minute).why ≡ (why_not_table t).why
  unfolding choose
  choose_why = refl

  pub bad_chosen : ((why_not_table t).why ≡ 0 → ⊥) → (choose t minute).place ≡ (why_not_table t).place
  unfolding choose
  bad_chosen n = rw (ne_eqb (why_not_table t).why 0 n) refl

-- ---- there is a good table (others are worked out in `claims_cases`)

-- one row of the whole day, whatever its threshold: so there is a good table
abbrev pub whole_day : ℕ → Table
whole_day threshold = table_of (0 ∷ []) (1439 ∷ []) (threshold ∷ [])

pub whole_day_lem : (threshold : ℕ) → why_not_table (whole_day threshold) ≡ fault 0 0
unfolding why_not_table shaped first_bad_row first_bad_minute rows_with bad_row bad_minute holds least count
whole_day_lem threshold = refl
