use mathlib.Core.Path.{◌≡◌, refl, sym, ap, ◌∙◌}
use mathlib.Core.Bool.{◌&&◌}
use Prim.Native.Nat.{◌+◌, ◌*◌}
use native.Mathlib.Omega.{arith}
use lib.Dec.{ltb}
use lib.ListN.{get_or}
use Rattle.half_content.specs.Content.{flags_fit, corrections_in}
use Rattle.half_reading.proofs.Checked.{flags_more}
use Rattle.half_reading.proofs.flags_fit.Goals as goal

pub loop-i-init : goal.loop-i-init
unfolding flags_fit corrections_in
loop-i-init c = refl

pub loop-i-preserved : goal.loop-i-preserved
loop-i-preserved c =
    let f = c.args.f.now in
    let i = c.loop-i.i in
    ap (λ all. all && ltb (get_or f (37 * i + 36) 0) 4) c.loop-i.invariant ∙ sym (flags_more f i)

pub returns : goal.returns
returns c =
    let last : c.loop-i.i ≡ 32 = omega arith in
    c.loop-i.invariant ∙ ap (λ k. flags_fit (corrections_in c.args.f.now k)) last
