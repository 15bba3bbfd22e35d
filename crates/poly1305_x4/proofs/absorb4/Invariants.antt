use Prim.Native.Nat.{ℕ}
use Rattle.poly1305_limbs.specs.Limbs.{value}
use Rattle.poly1305_x4.specs.Poly4.{rows, First}
use Rattle.poly1305_x4.proofs.Lanes.{Groups}
use Rattle.poly1305_x4.proofs.absorb4.Given as goal

abbrev pub invariant-loop-g : goal.invariant-loop-g
invariant-loop-g l =
    (a : ℕ) → First a l.m (rows l.initial.x) → Groups (value l.r.limbs) a l.m (rows l.x) l.g
