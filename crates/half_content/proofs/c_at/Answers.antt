use native.Mathlib.Omega.{arith}
use Rattle.half_content.specs.Content.{offset, widths, sum_first}
use Rattle.half_content.proofs.c_at.Goals as goal

pub overflow_add-result : goal.overflow_add-result
unfolding offset widths sum_first
overflow_add-result c = omega arith

pub returns : goal.returns
unfolding offset widths sum_first
returns c = omega arith
