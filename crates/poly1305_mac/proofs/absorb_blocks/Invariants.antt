use Prim.Native.Nat.{◌*◌, ◌^◌}
use Rattle.base_algebra.specs.Mod.{Mod}
use Rattle.poly1305_limbs.specs.Limbs.{prime, value}
use Rattle.poly1305_mac.specs.Blocks.{unreduced}
use Rattle.poly1305_mac.proofs.absorb_blocks.Given as goal

abbrev pub invariant-loop-i : goal.invariant-loop-i
invariant-loop-i l =
    Mod prime (value l.a.limbs) (unreduced (value l.r.limbs) (l.top * 2 ^ 104) (value l.initial.a.limbs) l.m l.i)
