use Prim.Native.Nat.{ℕ, ◌+◌, ◌*◌, ◌-◌}
use native.Mathlib.Omega.{arith}
use lib.ListN.{get_or}
use Rattle.measure_iris.specs.CodeBits.{byte_start, byte_more, byte_lt}
use Rattle.std.proofs.Common.{rules}
use Rattle.measure_iris.proofs.packed_byte.Goals as goal

pub loop-k-init : goal.loop-k-init
loop-k-init c = (byte_start _ _, search rules)

pub loop-k-preserved : goal.loop-k-preserved
loop-k-preserved c =
    let v = c.args.v.now in
    let j = c.args.j in
    let k = c.loop-k.k in
    let f : ℕ → ℕ = λ i. get_or v i 0 in
    let more = byte_more f j k _ (omega arith) (omega arith) c.loop-k.invariant.0 in
    let small = byte_lt f c.requires.1 (8 - (k - 1)) (8 * j + (k - 1)) (omega arith) in
    (more, omega (arith, more, small))
