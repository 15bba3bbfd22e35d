use native.Mathlib.Omega.{arith}
use Rattle.call_day.specs.Table.{table_in}
use Rattle.call_day.proofs.Told as told
use Rattle.call_day.proofs.why_not.Goals as goal

pub returns-then-not-shaped : goal.returns-then-not-shaped
returns-then-not-shaped c = told.lists (table_in c.args.table) c.shaped.ensures c.if-not-shaped.true

pub invariant_of-rows : goal.invariant_of-rows
invariant_of-rows c =
    record { same_length = (told.is_shaped (table_in c.args.table) c.shaped.ensures c.if-not-shaped.false).lasts_too }

pub overflow_cast-result : goal.overflow_cast-result
overflow_cast-result c =
    let few = (told.is_shaped (table_in c.args.table) c.shaped.ensures c.if-not-shaped.false).few in
    record { fits = omega (arith, few, c.in-Some.ensures) }

pub overflow_add-result : goal.overflow_add-result
overflow_add-result c =
    let few = (told.is_shaped (table_in c.args.table) c.shaped.ensures c.if-not-shaped.false).few in
    record { fits = omega (arith, few, c.in-Some.ensures) }

pub returns-in-Some : goal.returns-in-Some
returns-in-Some c =
    let found = c.in-Some.ensures in
    told.row (table_in c.args.table) c.shaped.ensures c.if-not-shaped.false _ found.0 found.1

pub returns-then-not-lowest : goal.returns-then-not-lowest
returns-then-not-lowest c =
    told.good (table_in c.args.table) c.shaped.ensures c.if-not-shaped.false
    c.in_default.ensures _ c.first_bad_minute-lowest.ensures c.if-not-lowest.true

pub returns-then-with-eq0 : goal.returns-then-with-eq0
returns-then-with-eq0 c =
    told.none (table_in c.args.table) c.shaped.ensures c.if-not-shaped.false
    c.in_default.ensures _ c.first_bad_minute-lowest.ensures c.if-not-lowest.false
    _ c.with.ensures c.if-with-eq0.true

pub returns : goal.returns
returns c =
    told.more (table_in c.args.table) c.shaped.ensures c.if-not-shaped.false
    c.in_default.ensures _ c.first_bad_minute-lowest.ensures c.if-not-lowest.false
    _ c.with.ensures c.if-with-eq0.false
