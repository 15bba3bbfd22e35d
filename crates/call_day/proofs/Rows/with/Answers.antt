use mathlib.Core.Path.{◌≡◌, sym, ◌∙◌}
use native.Mathlib.Omega.{arith}
use lib.ListN.{length}
use Rattle.call_day.specs.Search.{count, count_yes, count_no}
use Rattle.call_day.specs.Table.{holds, rows_with}
use Rattle.std.proofs.Common.{rules}
use Rattle.call_day.proofs.Rows.with.Goals as goal
use Rattle.call_day.proofs.Rows.with.Goals.{then-in_row, else-in_row}

pub loop-i-init : goal.loop-i-init
unfolding count
loop-i-init c = search rules

pub loop-i-preserved : goal.loop-i-preserved
unfolding holds
loop-i-preserved c =
    let rows = c.args.self in
    let in_row = holds rows.firsts.now rows.lasts.now c.args.minute in
    let tested = sym c.in_row.ensures in
    elim c.if-in_row.branch [
      | then-in_row w ↦ (omega (arith, count_yes in_row c.loop-i.i (tested ∙ w.if-in_row.true)), omega arith)
      | else-in_row w ↦ (omega (arith, count_no in_row c.loop-i.i (tested ∙ w.if-in_row.false)), omega arith)
    ]

pub returns : goal.returns
unfolding rows_with
returns c =
    let all : c.loop-i.i ≡ length c.args.self.firsts.now = omega arith in
    rw all at c.loop-i.invariant.0
