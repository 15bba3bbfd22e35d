use mathlib.Core.Path.{refl}
use Rattle.share_vectors.proofs.Laws.{inner_more}
use Rattle.base_algebra.specs.Sum.{sum}
use Rattle.share_vectors.specs.Share.{inner}
use Rattle.share_vectors.proofs.inner.Goals as goal

pub loop-i-init : goal.loop-i-init
unfolding inner sum
loop-i-init c = refl

pub loop-i-preserved : goal.loop-i-preserved
loop-i-preserved c =
    inner_more _ _ c.loop-i.i _ _ _ c.loop-i.invariant c.mul.ensures c.add-total.ensures
