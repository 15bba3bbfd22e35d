use Rattle.dcf_walk.proofs.Levels.{opened, starts, one_more, ends}
use mathlib.Core.Path.{refl}
use Rattle.std.proofs.Common.{rules}
use Rattle.dcf_walk.proofs.value.Goals as goal

pub loop-i-init : goal.loop-i-init
loop-i-init c = starts _ _ _ _

pub loop-i-preserved : goal.loop-i-preserved
loop-i-preserved c =
    one_more c.args.party c.args.key c.args.seed c.args.u c.loop-i.i _
    c.loop-i.w c.taken-w.result _ _ c.loop-i.invariant refl c.level_bit-d.ensures
    (opened _ _ _ _ _ c.nonce.ensures c.block.ensures) c.taken-w.ensures

pub returns : goal.returns
returns c =
    ends c.args.party c.args.key c.args.seed c.args.u c.loop-i.i _
    c.loop-i.w (search rules) (search rules) c.loop-i.invariant c.finished.ensures
