use Rattle.half_content.specs.Content.{offset, widths, sum_first}
use Rattle.std.proofs.Common.{rules}
use Rattle.test_halves.proofs.changed.blocks_before.Goals as goal

pub returns : goal.returns
unfolding offset widths sum_first
returns c = search rules
