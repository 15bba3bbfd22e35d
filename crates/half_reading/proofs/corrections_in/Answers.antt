use mathlib.Core.Path.{refl, ◌∙◌}
use native.Mathlib.Omega.{arith}
use Rattle.half_content.specs.Content.{corrections_in}
use Rattle.half_reading.proofs.Read.{correction_in_law, corrections_more, corrections_all}
use Rattle.half_reading.proofs.corrections_in.Goals as goal

pub loop-i-init : goal.loop-i-init
unfolding corrections_in
loop-i-init c = refl

pub loop-i-preserved : goal.loop-i-preserved
loop-i-preserved c =
    let f = c.args.f.now in
    corrections_more f _ _ _ c.loop-i.i (omega arith) c.loop-i.invariant
    (c.correction_in.ensures ∙ correction_in_law f c.loop-i.i)

pub returns : goal.returns
returns c = corrections_all c.args.f.now _ _ c.loop-i.i 32 c.loop-i.invariant (omega arith) refl
