use Rattle.poly1305_limbs.specs.Limbs.{value}
use Rattle.poly1305_x4.specs.Poly4.{rows}
use Rattle.poly1305_x4.proofs.Lanes.{Done}
use Rattle.poly1305_x4.proofs.step4.Given as goal

abbrev pub invariant-loop-l : goal.invariant-loop-l
invariant-loop-l l = Done (value l.r.limbs) l.m l.at (rows l.initial.x) (rows l.x) l.l
