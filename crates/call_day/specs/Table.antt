-- The table of the day (02, §5): which tables are turned down, by which number and at which place, and which row holds
-- a minute. Rows are counted from 0 here, and from 1 where a place is told. Assumes nothing.
-- [SPEC 14.6, 23.14 to 23.16, 33.1 to 33.5]
use Rattle.std.specs.Prelude.{Bool, not, cond, ◌&&◌, List, ℕ, suc, eqb, leb, ltb, length, get_or}
use Rattle.std.specs.Prelude.{◌≡◌, ◌≤◌, ◌<◌, Option, Some, None, MatchOption, Result, Ok, Err}
use Rattle.base_messages.specs.Messages.{bad_rows, no_row, more_rows}
use Rattle.base_messages.specs.Refusals.{number_of}
use Rattle.call_day.specs.Search.{least, count}
use Rattle.call_day.specs.declared.Lists.{Lists}
use Rattle.call_day.specs.declared.BadTable.{BadTable}
use Rattle.call_day.specs.declared.Row.{Row}

-- "A table of 1 to 32 rows holds first minute, last minute and threshold, handed in as three lists" [SPEC 33.1]
pub record Table : Type 0 where
  pub firsts : List ℕ
  pub lasts : List ℕ
  pub thresholds : List ℕ

abbrev pub table_of : List ℕ → List ℕ → List ℕ → Table
table_of firsts lasts thresholds = record { firsts = firsts; lasts = lasts; thresholds = thresholds }

-- the same from the lists as code has them
abbrev pub table_in : Lists → Table
table_in l = table_of l.firsts.now l.lasts.now l.thresholds.now

abbrev pub most_rows : ℕ
most_rows = 32

-- "minutes run 0 to 1,439" [SPEC 33.2]
abbrev pub day : ℕ
day = 1440

-- a minute lies in the row from a first to a last one: both count [SPEC 33.2]
abbrev pub in_row : ℕ → ℕ → ℕ → Bool
in_row first last minute = leb first minute && leb minute last

-- a row runs neither backwards nor past 1,439 [SPEC 33.3]
abbrev pub row_fits : ℕ → ℕ → Bool
row_fits first last = leb first last && ltb last day

module _ (firsts lasts : List ℕ) where
  -- row i holds the minute
  unfoldable pub holds : ℕ → ℕ → Bool
  holds minute i = in_row (get_or firsts i 0) (get_or lasts i 0) minute

  -- "a row running backwards or past 1,439"
  unfoldable pub bad_row : ℕ → Bool
  bad_row i = not (row_fits (get_or firsts i 0) (get_or lasts i 0))

  -- how many rows hold the minute
  unfoldable pub rows_with : ℕ → ℕ
  rows_with minute = count (holds minute) (length firsts)

  -- a "minute not in just one row"
  unfoldable pub bad_minute : ℕ → Bool
  bad_minute minute = not (eqb (rows_with minute) 1)

  -- the first bad row, or the row count
  unfoldable pub first_bad_row : ℕ
  first_bad_row = least bad_row (length firsts)

  -- the lowest bad minute, or 1,440
  unfoldable pub first_bad_minute : ℕ
  first_bad_minute = least bad_minute day

  -- the first row that holds the minute, or the row count
  unfoldable pub row_at : ℕ → ℕ
  row_at minute = least (holds minute) (length firsts)

-- what a search below n finds, where k is what it looks for: k, if it is below n
abbrev pub Finds : Option ℕ → ℕ → ℕ → Type 0
Finds found n k = MatchOption found (n ≤ k) (λ i. (i ≡ k) × (i < n))

-- three lists of one length, 1 to 32
unfoldable pub shaped : Table → Bool
shaped t =
    eqb (length t.lasts) (length t.firsts)
    && (eqb (length t.thresholds) (length t.firsts)
    && (leb 1 (length t.firsts) && leb (length t.firsts) most_rows))

-- why a table is turned down, or 0; and the place beside it
pub record Fault : Type 0 where
  pub why : ℕ
  pub place : ℕ

-- the same, and for a good table the row that holds a minute: its place, counted from 1, and its threshold
pub record Choice : Type 0 where
  pub why : ℕ
  pub place : ℕ
  pub threshold : ℕ

abbrev pub fault : ℕ → ℕ → Fault
fault why place = record { why = why; place = place }

-- "Number 14 means lists of unequal length or a row count outside 1 to 32 (place 0) or else a row running backwards or
-- past 1,439 (the first such row, counted from 1); then the lowest minute not in just one row is reported, with 15 if
-- it has none and 16 if it has more" [SPEC 23.14 to 23.16]
unfoldable pub why_not_table : Table → Fault
why_not_table t =
    let row : ℕ = first_bad_row t.firsts t.lasts in
    let minute : ℕ = first_bad_minute t.firsts t.lasts in
    cond (not (shaped t)) (fault bad_rows 0)
    (cond (ltb row (length t.firsts)) (fault bad_rows (suc row))
    (cond (not (ltb minute day)) (fault 0 0)
    (cond (eqb (rows_with t.firsts t.lasts minute) 0) (fault no_row minute) (fault more_rows minute))))

-- where no row is chosen: no measure takes this threshold (`call_dealer` ClockLaws.`nobody-takes`)
abbrev pub no_threshold : ℕ
no_threshold = 2147483648

-- "For a given minute the dealer uses that row's threshold and reports the row's place, counted from 1". Where the
-- table is bad, its number and place; where the minute is not of the day, place 0. [SPEC 14.5, 14.6]
unfoldable pub choose : Table → ℕ → Choice
choose t minute =
    let v : Fault = why_not_table t in
    let is_row : Bool = eqb v.why 0 && ltb minute day in
    let row : ℕ = row_at t.firsts t.lasts minute in
    record {
      why = v.why;
      place = cond is_row (suc row) v.place;
      threshold = cond is_row (get_or t.thresholds row 0) no_threshold;
    }

-- ---- the two as code tells them

abbrev pub fault_of : Result (Unit {0}) BadTable → Fault
fault_of (Ok _) = fault 0 0
fault_of (Err b) = fault (number_of b.why) b.place

abbrev pub choice_of : Result (Option Row) BadTable → Choice
choice_of (Ok (Some r)) = record { why = 0; place = r.place; threshold = r.threshold }
choice_of (Ok None) = record { why = 0; place = 0; threshold = no_threshold }
choice_of (Err b) = record { why = number_of b.why; place = b.place; threshold = no_threshold }

-- a row that is told has its place, counted from 1: for a minute that is not of the day none is told, and no row of
-- place 0 in its stead, which to `choice_of` is the same
abbrev pub Placed : Result (Option Row) BadTable → Type 0
Placed (Ok (Some r)) = 1 ≤ r.place
Placed (Ok None) = Unit {0}
Placed (Err _) = Unit {0}
