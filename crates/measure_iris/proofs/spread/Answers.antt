use mathlib.Core.Path.{◌≡◌, refl}
use native.Mathlib.Omega.{arith}
use lib.ListN.{length-set}
use Rattle.base_words.specs.List.{over, tab}
use Rattle.measure_iris.specs.Iris.{bit, unpacked}
use Rattle.measure_iris.specs.Laws.{store_more}
use Rattle.measure_iris.proofs.spread.Goals as goal

pub loop-i-init : goal.loop-i-init
unfolding over tab
loop-i-init c = (refl, refl)

pub loop-i-preserved : goal.loop-i-preserved
loop-i-preserved c =
    let code = c.args.code.now in
    (store_more (bit code) _ _ _ _ c.bit.ensures.0 c.loop-i.invariant.0, simp length-set (omega arith))

pub returns : goal.returns
unfolding unpacked
returns c =
    let all : c.loop-i.i ≡ 512 = omega arith in
    rw all at c.loop-i.invariant.0
