use mathlib.Core.Path.{refl, sym, ap, ◌∙◌}
use mathlib.Core.Bool.{◌&&◌}
use native.Mathlib.Omega.{arith}
use lib.Dec.{eqb}
use lib.ListN.{get_or}
use lib.Seq.{take_all}
use Rattle.half_content.specs.Content.{zeros}
use Rattle.half_reading.proofs.Checked.{zeros_more}
use Rattle.half_reading.proofs.all_zero.Goals as goal

pub loop-x-init : goal.loop-x-init
unfolding zeros
loop-x-init c = refl

pub loop-x-preserved : goal.loop-x-preserved
loop-x-preserved c =
    let b = c.args.b.now in
    let i = c.loop-x.x-index in
    ap (λ all. all && eqb (get_or b i 0) 0) c.loop-x.invariant ∙ sym (zeros_more b i (omega arith))

pub returns : goal.returns
returns c = c.loop-x.invariant ∙ ap zeros (take_all c.loop-x.x-index c.args.b.now (omega arith))
