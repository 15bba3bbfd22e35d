use mathlib.Core.Path.{◌≡◌, refl}
use Prim.Native.Nat.{◌-◌}
use native.Mathlib.Omega.{arith}
use lib.ListN.{length, get_or, length-set}
use Rattle.base_words.specs.List.{over, tab, over_tab}
use Rattle.chacha20_stream.proofs.put_part.Goals as goal

pub loop-i-init : goal.loop-i-init
unfolding over tab
loop-i-init c = (refl, refl)

pub loop-i-preserved : goal.loop-i-preserved
loop-i-preserved c = (
  over_tab (λ i. get_or c.args.k.now i 0) _ _ _ _ c.loop-i.invariant.0,
  simp length-set (omega arith),
)

pub returns : goal.returns
returns c =
    let done : c.loop-i.i ≡ length c.args.out.now - c.args.at =
    omega arith in
    rw done at c.loop-i.invariant.0
