use Rattle.measure_table.specs.Measure.{offset_of}
use Rattle.std.proofs.Common.{rules}
use Rattle.measure_table.proofs.offset_of.Goals as goal

pub returns-in-Threshold : goal.returns-in-Threshold
unfolding offset_of
returns-in-Threshold c = search rules

pub returns-in-Between : goal.returns-in-Between
unfolding offset_of
returns-in-Between c = search rules
