use native.Mathlib.Omega.{arith}
use Rattle.half_content.specs.Content.{offset, widths, sum_first}
use Rattle.half_content.proofs.x_at.Goals as goal

pub returns : goal.returns
unfolding offset widths sum_first
returns c = omega arith
