use native.Mathlib.Omega.{arith}
use Rattle.half_content.specs.Content.{block_count}
use Rattle.half_content.proofs.blocks_of.Goals as goal

pub returns : goal.returns
unfolding block_count
returns c = omega arith
