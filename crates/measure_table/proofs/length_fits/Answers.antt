use mathlib.Core.Path.{ap}
use mathlib.Core.Bool.{◌&&◌}
use lib.Dec.{leb}
use Rattle.measure_table.specs.Measure.{length_fits}
use Rattle.measure_table.proofs.length_fits.Goals as goal

pub returns : goal.returns
unfolding length_fits
returns c =
    let n = c.args.terms.n in
    ap (λ longest. leb 1 n && leb n longest) c.row_of-row.ensures.6
