use native.Mathlib.Omega.{arith}
use Rattle.poly1305_x4.proofs.Lanes.{groups_first, groups_held, groups_more, groups_all, groups_none}
use Rattle.poly1305_x4.proofs.absorb4.Goals as goal

pub returns-then-m-lt64 : goal.returns-then-m-lt64
returns-then-m-lt64 c = groups_none _ _ _ c.requires (omega arith)

pub loop-g-init : goal.loop-g-init
loop-g-init c = λ a f. groups_first _ a _ _ f

pub step4-requires-clause-held_all : goal.step4-requires-clause-held_all
step4-requires-clause-held_all c = groups_held _ _ _ _ _ (c.loop-g.invariant _ c.first4-x.ensures)

pub loop-g-preserved : goal.loop-g-preserved
loop-g-preserved c =
    λ a f. groups_more _ a _ _ _ _ _ (c.loop-g.invariant a f) c.fourth-r4.ensures c.step4.ensures

pub combine-requires : goal.combine-requires
combine-requires c = groups_held _ _ _ _ _ (c.loop-g.invariant _ c.first4-x.ensures)

pub returns : goal.returns
returns c = groups_all _ _ _ _ _ (c.loop-g.invariant _ c.first4-x.ensures) (omega arith) c.combine.ensures
