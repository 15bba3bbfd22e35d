use native.Mathlib.Omega.{arith}
use Rattle.poly1305_x4.proofs.Lanes.{done_none, done_more, length_rows, weaken, lift, done_held, done_all}
use Rattle.std.proofs.Common.{rules}
use Rattle.poly1305_x4.proofs.step4.Goals as goal

pub loop-l-init : goal.loop-l-init
loop-l-init c = done_none _ _ _ _

pub lane-h-requires-clause-held : goal.lane-h-requires-clause-held
lane-h-requires-clause-held c = done_held _ _ _ _ _ _ c.loop-l.invariant c.requires.held_all (search rules)

pub next-a-requires-clause-below : goal.next-a-requires-clause-below
next-a-requires-clause-below c =
    weaken _ (rw c.lane-h.ensures (done_held _ _ _ _ _ _ c.loop-l.invariant c.requires.held_all (search rules)))

pub next-a-requires-clause-held : goal.next-a-requires-clause-held
next-a-requires-clause-held c = lift _ c.block-c.result.in_range

pub loop-l-preserved : goal.loop-l-preserved
loop-l-preserved c =
    done_more _ _ _ _ _ _ _ _ _ _ (length_rows c.loop-l.x) (search rules) c.loop-l.invariant c.lane-h.ensures
    c.block-c.result.in_range c.block-c.ensures c.next-a.ensures.adds c.next-a.ensures.fact c.set_lane.ensures

pub returns : goal.returns
returns c = done_all _ _ _ _ _ _ c.loop-l.invariant (omega arith)
