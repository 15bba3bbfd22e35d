use Rattle.share_vectors.proofs.Laws.{share_none, share_more}
use Rattle.std.proofs.Common.{rules}
use Rattle.share_vectors.proofs.share_of.Goals as goal

pub loop-i-init : goal.loop-i-init
loop-i-init c = share_none _ _ _ _ _ _ (search rules)

pub loop-i-preserved : goal.loop-i-preserved
loop-i-preserved c =
    let args = c.args in
    share_more args.party c.loop-i.i args.c args.mx.now args.my.now args.sx.now
    args.sy.now _ _ _ _ _ _ _ c.loop-i.invariant c.only.ensures c.sub-factor.ensures
    c.mul.ensures c.mul-in-loop-i.ensures c.sub-place.ensures c.add-total.ensures
