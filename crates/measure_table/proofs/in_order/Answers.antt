use mathlib.Core.Path.{◌∙◌, sym, ap}
use Rattle.measure_table.specs.Measure.{in_order}
use Rattle.std.proofs.Common.{rules}
use Rattle.measure_table.proofs.in_order.Goals as goal

pub returns-in-Threshold : goal.returns-in-Threshold
unfolding in_order
returns-in-Threshold c = search rules

pub returns-in-Between : goal.returns-in-Between
returns-in-Between c = c.ordered.ensures ∙ sym (ap in_order c.in-Between.is)
