use mathlib.Core.Path.{refl}
use native.Mathlib.Omega.{arith}
use Rattle.aead_one_time.proofs.Laws.{start_more, start_all}
use Rattle.std.proofs.Common.{rules}
use Rattle.aead_one_time.proofs.eight_starts.Goals as goal

pub loop-l-init : goal.loop-l-init
loop-l-init c = refl

pub loop-l-preserved : goal.loop-l-preserved
loop-l-preserved c =
    start_more 8 _ _ _ _ _ _ _ _ _ _ (search rules) c.add-n.ensures c.loop-l.invariant c.start.ensures
    c.set_lane.ensures

pub returns : goal.returns
returns c = start_all 8 _ _ _ _ _ _ c.loop-l.l (omega arith) c.loop-l.invariant
