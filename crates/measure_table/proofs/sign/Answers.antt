use Rattle.measure_table.proofs.Rows.{ordinary_sign, marked_word}
use Rattle.measure_table.proofs.sign.Goals as goal

pub returns-then-mark-eq-ORDINARY_MARK : goal.returns-then-mark-eq-ORDINARY_MARK
returns-then-mark-eq-ORDINARY_MARK c = ordinary_sign _ _ _ c.if-mark-eq-ORDINARY_MARK.true c.row_of-row.ensures.7

pub returns-else-mark-eq-ORDINARY_MARK : goal.returns-else-mark-eq-ORDINARY_MARK
returns-else-mark-eq-ORDINARY_MARK c = marked_word _ _ c.if-mark-eq-ORDINARY_MARK.false
