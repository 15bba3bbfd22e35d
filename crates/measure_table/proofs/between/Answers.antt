use Rattle.measure_table.proofs.Rows.{within_words}
use Rattle.std.proofs.Common.{rules}
use Rattle.measure_table.proofs.between.Goals as goal

pub returns : goal.returns
returns c =
    let a = c.args in
    rw (c.add-at.ensures, c.add.ensures, c.add-2.ensures)
    (within_words a.w a.low a.high (search rules) (search rules) (search rules))
