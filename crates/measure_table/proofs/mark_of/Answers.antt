use Rattle.measure_table.specs.Measure.{mark_of}
use Rattle.std.proofs.Common.{rules}
use Rattle.measure_table.proofs.mark_of.Goals as goal

pub returns-in-Threshold : goal.returns-in-Threshold
unfolding mark_of
returns-in-Threshold c = search rules

pub returns-in-Between : goal.returns-in-Between
unfolding mark_of
returns-in-Between c = search rules
