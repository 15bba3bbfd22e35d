use Rattle.measure_table.proofs.Rows.{threshold_range}
use Rattle.measure_table.proofs.threshold_fits.Goals as goal

pub returns : goal.returns
returns c =
    let row = c.row_of-row in
    threshold_range _ _ row.result.least row.result.most _
    row.ensures.4 row.ensures.5 c.between.ensures
