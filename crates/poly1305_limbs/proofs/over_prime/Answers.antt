use Rattle.poly1305_limbs.proofs.Limbs.{carried_out, over_is}
use Rattle.poly1305_limbs.proofs.over_prime.Goals as goal

pub returns : goal.returns
returns c =
    let k = c.carried-d.ensures.carried in
    let is = over_is _ c.args.h.in_range (carried_out _ 5 _ _ _ _ _ k.l0 k.l1 k.l2 k.l3 k.l4) in
    record { upper_bound = is.0; value = is.1 }
