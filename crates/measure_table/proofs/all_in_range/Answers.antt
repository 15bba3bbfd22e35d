use mathlib.Core.Path.{◌≡◌, refl, sym, ap₂, ◌∙◌}
use mathlib.Core.Bool.{◌&&◌}
use native.Mathlib.Omega.{arith}
use lib.ListN.{length}
use Rattle.measure_table.specs.Measure.{all_in_range}
use Rattle.measure_table.proofs.Rows.{all_more, all_whole}
use Rattle.std.proofs.Common.{rules}
use Rattle.measure_table.proofs.all_in_range.Goals as goal

pub loop-w-init : goal.loop-w-init
unfolding all_in_range
loop-w-init c = refl

pub loop-w-preserved : goal.loop-w-preserved
loop-w-preserved c =
    let args = c.args in
    let more = all_more args.terms args.v.now c.loop-w.w-index (omega arith) in
    ap₂ ◌&&◌ c.loop-w.invariant c.in_range-all.ensures ∙ sym more

pub returns : goal.returns
returns c =
    let all : c.loop-w.w-index ≡ length c.args.v.now = omega arith in
    c.loop-w.invariant ∙ all_whole _ _ _ all
