-- The fault on a table, from its tests. Assumes nothing.
use Rattle.std.specs.Prelude.{◌≡◌, true, false, ℕ, suc, ◌≤◌, ◌<◌, length}
use borrow.Author.Tests.{lt-ltb, le-ltb, eq-eqb, ne_eqb}
use Rattle.base_messages.specs.Messages.{bad_rows, no_row, more_rows}
use Rattle.call_day.specs.Table.{Table, day, rows_with, first_bad_row, first_bad_minute, shaped, fault, why_not_table}

module _ (t : Table) where
  abbrev bad_row_of : ℕ
  bad_row_of = first_bad_row t.firsts t.lasts

  abbrev bad_minute_of : ℕ
  bad_minute_of = first_bad_minute t.firsts t.lasts

  pub lists : shaped t ≡ false → why_not_table t ≡ fault bad_rows 0
  unfolding why_not_table
  lists s = simp s

  pub row : shaped t ≡ true → bad_row_of < length t.firsts → why_not_table t ≡ fault bad_rows (suc bad_row_of)
  unfolding why_not_table
  row s r = simp (s, lt-ltb _ _ r)

  module _ (s : shaped t ≡ true) (r : length t.firsts ≤ bad_row_of) where
    pub none : bad_minute_of < day → rows_with t.firsts t.lasts bad_minute_of ≡ 0
        → why_not_table t ≡ fault no_row bad_minute_of
    unfolding why_not_table
    none m e = simp (s, le-ltb _ _ r, lt-ltb _ _ m, eq-eqb _ 0 e)

    pub more : bad_minute_of < day → (rows_with t.firsts t.lasts bad_minute_of ≡ 0 → ⊥)
        → why_not_table t ≡ fault more_rows bad_minute_of
    unfolding why_not_table
    more m e = simp (s, le-ltb _ _ r, lt-ltb _ _ m, ne_eqb _ 0 e)

    pub good : day ≤ bad_minute_of → why_not_table t ≡ fault 0 0
    unfolding why_not_table
    good m = simp (s, le-ltb _ _ r, le-ltb _ _ m)
