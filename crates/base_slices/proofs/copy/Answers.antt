use mathlib.Core.Path.{◌≡◌, refl, ◌∙◌}
use native.Mathlib.Omega.{arith}
use lib.ListN.{length, length-set}
use lib.Seq.{take-length}
use Rattle.base_words.specs.List.{over, over_store}
use Rattle.base_slices.proofs.copy.Goals as goal

pub loop-i-init : goal.loop-i-init
unfolding over
loop-i-init c = (refl, refl)

pub loop-i-preserved : goal.loop-i-preserved
loop-i-preserved c =
    (over_store _ _ _ _ _ (omega arith) c.loop-i.invariant.0, simp length-set (omega arith))

pub returns : goal.returns
returns c =
    let all : c.loop-i.i ≡ length c.args.src.now = omega arith in
    c.loop-i.invariant.0 ∙ rw (all, take-length)
