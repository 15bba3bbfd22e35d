use mathlib.Core.Path.{◌∙◌}
use native.Mathlib.Omega.{arith}
use Rattle.half_content.specs.Content.{offset, widths, sum_first}
use Rattle.half_reading.proofs.Read.{terms_law}
use Rattle.half_reading.proofs.terms_in.Goals as goal

pub bounds-b-17 : goal.bounds-b-17
unfolding offset widths sum_first
bounds-b-17 c = omega arith

pub returns : goal.returns
returns c =
    let long = c.from-2.ensures ∙ c.length_in.ensures in
    (terms_law c.args.b.now _ long _ c.from.ensures, long, omega arith)
