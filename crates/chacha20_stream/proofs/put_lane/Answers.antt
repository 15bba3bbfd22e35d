use mathlib.Core.Path.{◌≡◌, refl, sym, ap, ◌∙◌}
use Prim.Native.Nat.{◌+◌, ◌*◌}
use native.Mathlib.Omega.{arith}
use lib.ListN.{get_or, length-set}
use Rattle.base_words.specs.List.{over, tab, over_tab}
use Rattle.chacha20_lanes.specs.Lanes.{col, row}
use Rattle.std.proofs.Common.{rules}
use Rattle.chacha20_stream.proofs.put_lane.Goals as goal

pub loop-w-init : goal.loop-w-init
unfolding over tab
loop-w-init c = (refl, refl)

pub loop-w-preserved : goal.loop-w-preserved
loop-w-preserved c = (
  over_tab (λ w. get_or c.args.x.now (8 * w + c.args.l) 0)
      _ _ _ _ c.loop-w.invariant.0,
  simp length-set (omega arith),
)

pub returns : goal.returns
unfolding col
returns c =
    let done : c.loop-w.w ≡ 16 = omega arith in
    rw done at c.loop-w.invariant.0
    ∙ ap (λ r. over c.args.at r c.args.out.now)
    (sym (row 8 c.args.l c.args.x.now (search rules)))
