use mathlib.Core.Path.{sym, ap}
use mathlib.Core.Bool.{not}
use lib.Seq.{length-take-le}
use Rattle.half_content.specs.Content.{offset, size, block_count, widths, sum_first}
use Rattle.half_reading.proofs.Checked.{out_of_range_lem, other_count, fits_law}
use Rattle.std.proofs.Common.{rules}
use Rattle.half_reading.proofs.content_fits.Goals as goal

pub terms_in-terms-requires : goal.terms_in-terms-requires
unfolding offset widths sum_first
terms_in-terms-requires c = search rules

pub returns-then-not-length_fits : goal.returns-then-not-length_fits
returns-then-not-length_fits c =
    let a = c.args in
    out_of_range_lem a.name a.party a.count a.b.now c.terms_in-terms.result c.terms_in-terms.ensures.0
    c.length_fits.result c.length_fits.ensures (ap not c.if-not-length_fits.true)

pub returns-then-blocks_of-count : goal.returns-then-blocks_of-count
returns-then-blocks_of-count c =
    let a = c.args in
    other_count a.name a.party a.count a.b.now c.terms_in-terms.result c.terms_in-terms.ensures.0
    _ c.blocks_of.ensures (search rules)

pub slice_bounds-equal-end : goal.slice_bounds-equal-end
slice_bounds-equal-end c =
    sym (length-take-le 16 c.args.b.now (search rules))

pub slice_bounds-flags_fit-count : goal.slice_bounds-flags_fit-count
unfolding offset widths sum_first
slice_bounds-flags_fit-count c = search rules

pub slice_bounds-flags_fit-start : goal.slice_bounds-flags_fit-start
unfolding offset widths sum_first
slice_bounds-flags_fit-start c = search rules

pub slice_bounds-flags_fit-end : goal.slice_bounds-flags_fit-end
unfolding block_count size offset widths sum_first
slice_bounds-flags_fit-end c = search rules

pub flags_fit-flags-requires : goal.flags_fit-flags-requires
unfolding offset widths sum_first
flags_fit-flags-requires c = search rules

pub load-requires : goal.load-requires
unfolding block_count size offset widths sum_first
load-requires c = search rules

pub bounds-b-mark_at : goal.bounds-b-mark_at
unfolding block_count size offset widths sum_first
bounds-b-mark_at c = search rules

pub slice_bounds-all_zero-count : goal.slice_bounds-all_zero-count
unfolding block_count size offset widths sum_first
slice_bounds-all_zero-count c = search rules

pub slice_bounds-all_zero-start : goal.slice_bounds-all_zero-start
unfolding block_count size offset widths sum_first
slice_bounds-all_zero-start c = search rules

pub returns : goal.returns
returns c =
    let a = c.args in
    fits_law a.name a.party a.count a.b.now c.terms_in-terms.result c.terms_in-terms.ensures.0
    c.length_fits.result _ _ _ _ _ _ _ _ _ _ _ _ _ _ c.length_fits.ensures (ap not c.if-not-length_fits.false)
    c.blocks_of.ensures c.if-blocks_of-count.false
    c.corrections_at-corrections_at.ensures c.last_at-last_at.ensures c.width_at-width_at.ensures
    c.mark_at-mark_at.ensures c.size_of-end.ensures
    c.equal-named.ensures c.from.ensures c.is_code-code.ensures c.flags_fit-flags.ensures
    c.load.ensures c.from-2.ensures c.width_fits-width.ensures c.all_zero.ensures
