use mathlib.Core.Path.{◌≡◌, refl, ◌∙◌}
use native.Mathlib.Omega.{arith}
use lib.ListN.{length-set}
use Rattle.share_vectors.proofs.Laws.{add_more}
use Rattle.base_words.specs.List.{over, tab}
use Rattle.share_vectors.specs.Share.{plus}
use Rattle.share_vectors.proofs.add_vectors.Goals as goal

pub loop-i-init : goal.loop-i-init
unfolding over tab
loop-i-init c = (refl, refl)

pub loop-i-preserved : goal.loop-i-preserved
loop-i-preserved c =
    let args = c.args in (
      length-set c.loop-i.out c.loop-i.i c.add.result ∙ c.loop-i.invariant.0,
      add_more args.a.now args.b.now args.out.now c.loop-i.out
          c.loop-i.i c.add.result c.loop-i.invariant.1 c.add.ensures,
    )

pub returns : goal.returns
unfolding plus
returns c =
    let done : c.loop-i.i ≡ c.args.n = omega arith in rw done at c.loop-i.invariant.1
