use native.Mathlib.Omega.{arith}
use Rattle.poly1305_mac.proofs.Bytes.{s_law}
use Rattle.poly1305_mac.proofs.key.Goals as goal

pub returns-clause-s_value : goal.returns-clause-s_value
returns-clause-s_value c =
    s_law c.args.k.now (omega arith) c.load-s0.ensures c.load-s1.ensures c.load-s2.ensures c.load-s3.ensures
