use native.Mathlib.Omega.{arith}
use Rattle.std.proofs.lemmas.Result.{err_from_is_err_and}
use Rattle.call_day.specs.Table.{table_in}
use Rattle.call_day.proofs.Told as told
use Rattle.call_day.proofs.choose.Goals as goal

-- A table that is turned down:
-- its number and its place are told.
pub returns-in_err-why_not-clause-value : goal.returns-in_err-why_not-clause-value
returns-in_err-why_not-clause-value c =
    let p = err_from_is_err_and c.from_residual.result c.from_residual.ensures.1 in
    rw (p.1, p.2) (told.turned_down (table_in c.args.table) c.args.minute _ _ c.in_err-why_not.ensures)

pub returns-then-not-minute-clause-value : goal.returns-then-not-minute-clause-value
returns-then-not-minute-clause-value c =
    told.past_day_lem (table_in c.args.table) c.args.minute c.in_ok-why_not.ensures c.if-not-minute.true

pub invariant_of-rows : goal.invariant_of-rows
invariant_of-rows c =
    let good = told.taken (table_in c.args.table) c.args.minute c.in_ok-why_not.ensures in
    record { same_length = good.is_shaped.lasts_too }

pub unwrap-at-requires : goal.unwrap-at-requires
unwrap-at-requires c =
    told.is_row (table_in c.args.table) c.args.minute c.in_ok-why_not.ensures c.if-not-minute.false c.at.result _
    c.at.ensures

pub overflow_cast-result : goal.overflow_cast-result
overflow_cast-result c =
    let t = table_in c.args.table in
    let good = told.taken t c.args.minute c.in_ok-why_not.ensures in
    let at = told.found t c.args.minute c.at.ensures c.unwrap-at.ensures in
    record { fits = omega (arith, at.1, good.is_shaped.few) }

pub overflow_add-result : goal.overflow_add-result
overflow_add-result c =
    let t = table_in c.args.table in
    let good = told.taken t c.args.minute c.in_ok-why_not.ensures in
    let at = told.found t c.args.minute c.at.ensures c.unwrap-at.ensures in
    record { fits = omega (arith, at.1, good.is_shaped.few) }

pub bounds-table-at : goal.bounds-table-at
bounds-table-at c =
    let t = table_in c.args.table in
    let good = told.taken t c.args.minute c.in_ok-why_not.ensures in
    let at = told.found t c.args.minute c.at.ensures c.unwrap-at.ensures in
    omega (arith, at.1, good.is_shaped.thresholds_too)

pub returns-clause-value : goal.returns-clause-value
returns-clause-value c =
    let t = table_in c.args.table in
    let at = told.found t c.args.minute c.at.ensures c.unwrap-at.ensures in
    told.row_of t c.args.minute c.in_ok-why_not.ensures c.if-not-minute.false _ at.0
