use mathlib.Core.Path.{◌≡◌, refl}
use native.Mathlib.Omega.{arith}
use Rattle.base_words.specs.List.{tab}
use Rattle.half_reading.proofs.Read.{vector_more, vector_law}
use Rattle.half_reading.proofs.vector.Goals as goal

pub loop-i-init : goal.loop-i-init
unfolding tab
loop-i-init c = refl

pub loop-i-preserved : goal.loop-i-preserved
loop-i-preserved c =
    vector_more c.args.f.now _ _ c.loop-i.i _ (omega arith) c.loop-i.invariant c.load.ensures

pub returns : goal.returns
returns c =
    let last : c.loop-i.i ≡ c.args.n = omega arith in
    vector_law c.args.f.now _ _ c.args.n (omega arith) refl (rw last at c.loop-i.invariant)
