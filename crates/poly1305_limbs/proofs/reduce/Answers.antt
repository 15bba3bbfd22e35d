use Rattle.poly1305_limbs.proofs.Limbs.{reduced_below, reduced_value, plain0, plain1}
use Rattle.poly1305_limbs.proofs.reduce.Goals as goal

pub invariant_of-result : goal.invariant_of-result
invariant_of-result c =
    let k = c.carried-c.ensures.carried in
    record { in_range = reduced_below _ c.requires _ _ _ _ _ (plain1 k) k.l2 k.l3 k.l4 (plain0 k) }

pub returns : goal.returns
returns c =
    let k = c.carried-c.ensures.carried in
    reduced_value _ c.requires _ _ _ _ _ (plain1 k) k.l2 k.l3 k.l4 (plain0 k)
