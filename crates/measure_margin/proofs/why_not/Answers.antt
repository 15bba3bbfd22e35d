use mathlib.Core.Path.{ap}
use mathlib.Core.Bool.{not}
use Rattle.measure_margin.specs.Laws.{lengths_refused, ranges_refused, all_passed}
use Rattle.measure_margin.proofs.why_not.Goals as goal

pub returns-then-not-long : goal.returns-then-not-long
returns-then-not-long c = lengths_refused _ _ _ c.length_fits.ensures (ap not c.if-not-long.true)

pub returns-then-not-ranges : goal.returns-then-not-ranges
returns-then-not-ranges c =
    ranges_refused _ _ _ c.length_fits.ensures (ap not c.if-not-long.false)
    c.all_in_range.ensures c.all_in_range-2.ensures c.threshold_fits.ensures
    (ap not c.if-not-ranges.true)

pub returns : goal.returns
returns c =
    all_passed _ _ _ c.length_fits.ensures (ap not c.if-not-long.false)
    c.all_in_range.ensures c.all_in_range-2.ensures c.threshold_fits.ensures
    (ap not c.if-not-ranges.false)
