use native.Mathlib.Omega.{arith}
use Rattle.half_content.specs.Content.{offset, widths, sum_first}
use Rattle.half_content.specs.Laws.{length_in_bytes}
use Rattle.half_reading.proofs.length_in.Goals as goal

pub bounds-b-18 : goal.bounds-b-18
unfolding offset widths sum_first
bounds-b-18 c = omega arith

pub bounds-b : goal.bounds-b
unfolding offset widths sum_first
bounds-b c = omega arith

pub returns : goal.returns
unfolding offset widths sum_first
returns c = omega (arith, length_in_bytes c.args.b.now)
