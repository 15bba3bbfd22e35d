use mathlib.Core.Path.{refl}
use native.Mathlib.Omega.{arith}
use Rattle.chacha20_stream.proofs.Blocks.{put_none, put_more, put_all}
use Rattle.std.proofs.Common.{rules}
use Rattle.chacha20_stream.proofs.put_lanes.Goals as goal

pub loop-l-init : goal.loop-l-init
loop-l-init c = (put_none 8 _ _ _, refl)

pub loop-l-preserved : goal.loop-l-preserved
loop-l-preserved c = (
  put_more 8 _ _ _ _ _ _ (search rules) c.loop-l.invariant.0 c.put_lane.ensures,
  search rules,
)

pub returns : goal.returns
returns c = put_all 8 _ _ _ _ c.loop-l.l (omega arith) c.loop-l.invariant.0
