use mathlib.Core.Path.{◌∙◌, sym, ap}
use Rattle.measure_table.specs.Measure.{width_of}
use Rattle.std.proofs.Common.{rules}
use Rattle.measure_table.proofs.width_of.Goals as goal

pub returns-in-Threshold : goal.returns-in-Threshold
unfolding width_of
returns-in-Threshold c = search rules

pub returns-in-Between : goal.returns-in-Between
unfolding width_of
returns-in-Between c = c.sub.ensures ∙ sym (ap width_of c.in-Between.is)
