use mathlib.Core.Path.{refl}
use native.Mathlib.Omega.{arith}
use Rattle.chacha20_stream.proofs.Blocks.{store_none, store_more, store_all}
use Rattle.std.proofs.Common.{rules}
use Rattle.chacha20_stream.proofs.store_lanes.Goals as goal

pub loop-l-init : goal.loop-l-init
loop-l-init c = (store_none 8 _ _, refl)

pub loop-l-preserved : goal.loop-l-preserved
loop-l-preserved c = (
  store_more 8 _ _ _ _ _ (search rules) c.loop-l.invariant.0 c.store_lane.ensures,
  search rules,
)

pub returns : goal.returns
returns c = store_all 8 _ _ _ c.loop-l.l (omega arith) (search rules) c.loop-l.invariant.0
