use native.Mathlib.Omega.{arith}
use Rattle.half_content.specs.Content.{offset, size, widths, sum_first}
use Rattle.half_reading.proofs.Read.{set_law}
use Rattle.std.proofs.Common.{rules}
use Rattle.half_reading.proofs.read_set.Goals as goal

pub terms_in-terms-requires : goal.terms_in-terms-requires
unfolding size offset widths sum_first
terms_in-terms-requires c = search rules

pub slice_bounds-vector-count : goal.slice_bounds-vector-count
unfolding offset widths sum_first
slice_bounds-vector-count c = search rules

pub slice_bounds-vector-start : goal.slice_bounds-vector-start
unfolding offset widths sum_first
slice_bounds-vector-start c = search rules

pub slice_bounds-vector-end : goal.slice_bounds-vector-end
unfolding size offset widths sum_first
slice_bounds-vector-end c = search rules

pub vector-requires : goal.vector-requires
unfolding offset widths sum_first
vector-requires c = search rules

pub slice_bounds-vector-count-2 : goal.slice_bounds-vector-count-2
unfolding offset widths sum_first
slice_bounds-vector-count-2 c = search rules

pub slice_bounds-vector-start-2 : goal.slice_bounds-vector-start-2
unfolding offset widths sum_first
slice_bounds-vector-start-2 c = search rules

pub slice_bounds-vector-end-2 : goal.slice_bounds-vector-end-2
unfolding size offset widths sum_first
slice_bounds-vector-end-2 c = search rules

pub vector-requires-2 : goal.vector-requires-2
unfolding offset widths sum_first
vector-requires-2 c = search rules

pub slice_bounds-vector-count-3 : goal.slice_bounds-vector-count-3
unfolding offset widths sum_first
slice_bounds-vector-count-3 c = search rules

pub slice_bounds-vector-start-3 : goal.slice_bounds-vector-start-3
unfolding offset widths sum_first
slice_bounds-vector-start-3 c = search rules

pub slice_bounds-vector-end-3 : goal.slice_bounds-vector-end-3
unfolding size offset widths sum_first
slice_bounds-vector-end-3 c = search rules

pub vector-requires-3 : goal.vector-requires-3
unfolding offset widths sum_first
vector-requires-3 c = search rules

pub load-requires : goal.load-requires
unfolding size offset widths sum_first
load-requires c = search rules

pub load-requires-2 : goal.load-requires-2
unfolding size offset widths sum_first
load-requires-2 c = search rules

pub slice_bounds-seed_in-count : goal.slice_bounds-seed_in-count
unfolding offset widths sum_first
slice_bounds-seed_in-count c = search rules

pub slice_bounds-seed_in-start : goal.slice_bounds-seed_in-start
unfolding offset widths sum_first
slice_bounds-seed_in-start c = search rules

pub slice_bounds-seed_in-end : goal.slice_bounds-seed_in-end
unfolding size offset widths sum_first
slice_bounds-seed_in-end c = search rules

pub seed_in-requires : goal.seed_in-requires
unfolding offset widths sum_first
seed_in-requires c = search rules

pub key_in-requires : goal.key_in-requires
unfolding size widths sum_first
key_in-requires c = search rules

pub load-requires-3 : goal.load-requires-3
unfolding size offset widths sum_first
load-requires-3 c = search rules

pub bounds-b-mark_at : goal.bounds-b-mark_at
unfolding size offset widths sum_first
bounds-b-mark_at c = omega (arith, c.mark_at.ensures, c.terms_in-terms.ensures.1, c.requires.1)

pub returns : goal.returns
returns c =
    set_law c.args.number c.args.b.now c.terms_in-terms.result c.terms_in-terms.ensures.0
    _ _ _ _ _ _ _ _
    c.x_at-x_at.ensures c.y_at-y_at.ensures c.c_at-c_at.ensures c.r_at.ensures
    c.seed_at-seed_at.ensures c.corrections_at-corrections_at.ensures c.width_at.ensures
    c.mark_at.ensures _ _ _ _ _ _ _ _ _
    c.vector.ensures c.vector-2.ensures c.vector-3.ensures c.load.ensures
    c.load-2.ensures
    c.seed_in.ensures c.key_in.ensures c.load-3.ensures c.from.ensures
