use native.Mathlib.Omega.{arith}
use Rattle.half_deal.proofs.Laws.{sets_law}
use Rattle.half_deal.proofs.sets_from.Goals as goal

pub set_for-requires-2 : goal.set_for-requires-2
set_for-requires-2 c =
    (omega arith, c.requires.0, c.requires.1)

pub returns : goal.returns
returns c =
    let a = c.args in
    sets_law a.terms a.number a.rule a.w.now _ _ _ _ _
    c.mask-mask_x.ensures
    c.mask-mask_y.ensures
    c.key_seed-seed0.ensures
    c.key_seed-seed1.ensures
    c.make-key.ensures
    _ _ _ _ _ _
    c.set_for.ensures
    c.other_c-c1.ensures
    c.mark_of-mark.ensures
    c.offset_of.ensures
    c.other_r-r1.ensures
    c.set_for-2.ensures
