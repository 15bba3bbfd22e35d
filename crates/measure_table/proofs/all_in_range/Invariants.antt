use mathlib.Core.Path.{◌≡◌}
use lib.ListN.{take}
use Rattle.measure_table.specs.Measure.{all_in_range}
use Rattle.measure_table.proofs.all_in_range.Given as goal

abbrev pub invariant-loop-w : goal.invariant-loop-w
invariant-loop-w l = l.all ≡ all_in_range l.terms (take l.w-index l.v)
