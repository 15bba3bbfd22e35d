use Rattle.measure_table.specs.Measure.{k_word}
use Rattle.measure_table.proofs.k.Goals as goal

pub returns : goal.returns
unfolding k_word
returns c = c.row_of-row.ensures.1
