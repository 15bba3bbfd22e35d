use mathlib.Core.Path.{refl}
use Rattle.poly1305_limbs.proofs.Limbs.{add_s_law}
use Rattle.poly1305_limbs.proofs.add_s.Goals as goal

pub returns : goal.returns
returns c =
    let v0 = c.from.ensures in
    let v1 = c.from-2.ensures in
    let v2 = c.from-3.ensures in
    add_s_law _ _ _ _ _ _ _ _ _ _ v0 v1 v2 c.from-4.ensures refl refl refl refl
