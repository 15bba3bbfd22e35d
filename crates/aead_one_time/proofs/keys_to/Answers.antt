use mathlib.Core.Path.{refl}
use native.Mathlib.Omega.{arith}
use Rattle.aead_one_time.proofs.Sixteen.{first_eight, sixteen}
use Rattle.aead_one_time.proofs.keys_to.Goals as goal

pub returns-then-count-gt8 : goal.returns-then-count-gt8
returns-then-count-gt8 c =
    sixteen c.args.key.now c.eight_keys-first.result _ _ c.args.a c.args.b
    c.args.count refl c.eight_keys-first.ensures c.copy.ensures _ _
    c.eight_keys-second.ensures c.copy-then-count-gt8.ensures c.requires

pub returns-else-count-gt8 : goal.returns-else-count-gt8
returns-else-count-gt8 c =
    first_eight c.args.key.now c.eight_keys-first.result _ _ c.args.a c.args.b
    c.args.count refl c.eight_keys-first.ensures c.copy.ensures (omega arith)
