use Rattle.half_content.specs.Content.{offset, size, widths, sum_first}
use Rattle.half_reading.proofs.Read.{key_law}
use Rattle.std.proofs.Common.{rules}
use Rattle.half_reading.proofs.key_in.Goals as goal

pub slice_bounds-corrections_in-count : goal.slice_bounds-corrections_in-count
unfolding offset widths sum_first
slice_bounds-corrections_in-count c = search rules

pub slice_bounds-corrections_in-start : goal.slice_bounds-corrections_in-start
unfolding offset widths sum_first
slice_bounds-corrections_in-start c = search rules

pub slice_bounds-corrections_in-end : goal.slice_bounds-corrections_in-end
unfolding size offset widths sum_first
slice_bounds-corrections_in-end c = search rules

pub corrections_in-requires : goal.corrections_in-requires
unfolding offset widths sum_first
corrections_in-requires c = search rules

pub load-requires : goal.load-requires
unfolding size offset widths sum_first
load-requires c = search rules

pub returns : goal.returns
returns c =
    key_law c.args.b.now c.args.n c.requires.0 _ _ _ _
    c.corrections_at-corrections_at.ensures c.last_at-last_at.ensures
    c.corrections_in.ensures c.load.ensures
