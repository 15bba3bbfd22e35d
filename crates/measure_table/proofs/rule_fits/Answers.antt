use mathlib.Core.Path.{◌∙◌, sym, ap, ap₂}
use mathlib.Core.Bool.{◌&&◌}
use Rattle.measure_table.specs.Measure.{rule_fits}
use Rattle.measure_table.proofs.rule_fits.Goals as goal

pub returns-in-Threshold : goal.returns-in-Threshold
unfolding rule_fits
returns-in-Threshold c = c.threshold_fits.ensures ∙ sym (ap (rule_fits _) c.in-Threshold.is)

pub returns-in-Between : goal.returns-in-Between
unfolding rule_fits
returns-in-Between c =
    ap₂ ◌&&◌ c.threshold_fits-in-Between.ensures c.threshold_fits-in-Between-2.ensures
    ∙ sym (ap (rule_fits _) c.in-Between.is)
