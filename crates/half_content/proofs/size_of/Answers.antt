use native.Mathlib.Omega.{arith}
use Rattle.half_content.specs.Content.{size, offset, widths, sum_first}
use Rattle.half_content.proofs.size_of.Goals as goal

pub overflow_add-result : goal.overflow_add-result
unfolding offset widths sum_first
overflow_add-result c = omega arith

pub returns : goal.returns
unfolding size offset widths sum_first
returns c = omega arith
