use Prim.Native.Nat.{◌*◌}
use Rattle.poly1305_limbs.proofs.Limbs.{least, carried, remains}
use Rattle.poly1305_limbs.proofs.remainder.Goals as goal

pub invariant_of-result : goal.invariant_of-result
invariant_of-result c = record {
  in_range = record { l0 = least _; l1 = least _; l2 = least _; l3 = least _; l4 = least _ };
}

pub returns : goal.returns
returns c =
    let k = c.carried-d.ensures.carried in
    remains _ c.args.h.in_range c.over_prime-q.ensures.value
    (carried _ (5 * c.over_prime-q.result) _ _ _ _ _ k.l0 k.l1 k.l2 k.l3 k.l4)
