use mathlib.Core.Path.{ap, ◌∙◌}
use Prim.Native.Nat.{ℕ, ◌+◌, ◌*◌, ◌-◌}
use native.Mathlib.Omega.{arith}
use Rattle.measure_iris.specs.Iris.{bit}
use Rattle.measure_iris.specs.Laws.{place_for}
use Rattle.measure_iris.specs.CodeBits.{byte_start, byte_more, byte_lt, bit_lt}
use Rattle.std.proofs.Common.{rules}
use Rattle.measure_iris.proofs.rearranged_byte.Goals as goal

pub loop-k-init : goal.loop-k-init
loop-k-init c = (byte_start _ _, search rules)

pub loop-k-preserved : goal.loop-k-preserved
loop-k-preserved c =
    let code = c.args.code.now in
    let stored = c.args.stored in
    let j = c.args.j in
    let k = c.loop-k.k in
    let f : ℕ → ℕ = λ i. bit code (place_for stored i) in
    let more = byte_more f j k _ (omega arith) (omega arith) c.loop-k.invariant.0 in
    let next = c.bit.ensures.0 ∙ ap (bit code) c.place.ensures.0 in
    let all = ap (λ (b : ℕ). 2 * c.loop-k.byte + b) next ∙ more in
    let small = byte_lt f (λ i. bit_lt code (place_for stored i)) (8 - (k - 1)) (8 * j + (k - 1)) (omega arith) in
    (all, omega (arith, all, small))
