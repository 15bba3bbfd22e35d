use Rattle.measure_table.proofs.Rows.{element_range}
use Rattle.measure_table.proofs.in_range.Goals as goal

pub returns : goal.returns
returns c =
    let row = c.row_of-row in
    element_range _ _ row.result.low row.result.high _ row.ensures.2 row.ensures.3 c.between.ensures
