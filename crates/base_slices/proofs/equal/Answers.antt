use Rattle.base_words.specs.List.{same, same_more, same_unequal, same_whole}
use mathlib.Core.Path.{◌≡◌, refl, sym, ◌∙◌}
use native.Mathlib.Omega.{arith}
use lib.ListN.{length}
use Rattle.base_slices.proofs.equal.Goals as goal

pub returns-then-a-b : goal.returns-then-a-b
returns-then-a-b c = sym (same_unequal _ _ c.if-a-b.true)

pub loop-i-init : goal.loop-i-init
unfolding same
loop-i-init c = refl

pub loop-i-preserved : goal.loop-i-preserved
loop-i-preserved c =
    let more = same_more c.args.a.now c.args.b.now c.loop-i.i (omega arith) (omega arith) in
    rw more (rw c.loop-i.invariant refl)

pub returns : goal.returns
returns c =
    let all : c.loop-i.i ≡ length c.args.a.now = omega arith in
    let both : c.loop-i.i ≡ length c.args.b.now = omega arith in
    c.loop-i.invariant ∙ same_whole _ _ _ all both
