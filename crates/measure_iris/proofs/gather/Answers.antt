use mathlib.Core.Path.{◌≡◌, refl}
use Prim.Native.Nat.{ℕ, ◌*◌}
use native.Mathlib.Omega.{arith}
use lib.ListN.{length-set}
use Rattle.base_words.specs.List.{over, tab}
use lib.ListN.{get_or}
use Rattle.measure_iris.specs.Iris.{from_bits, code_of_bits, packed}
use Rattle.measure_iris.specs.Laws.{store_more}
use Rattle.measure_iris.proofs.gather.Goals as goal

pub loop-j-init : goal.loop-j-init
unfolding over tab
loop-j-init c = (refl, refl)

pub loop-j-preserved : goal.loop-j-preserved
loop-j-preserved c =
    let v = c.args.v.now in
    let byte : ℕ → ℕ = λ m. from_bits (λ i. get_or v i 0) (8 * m) 8 in
    (store_more byte _ _ _ _ c.packed_byte.ensures c.loop-j.invariant.0, simp length-set (omega arith))

pub returns : goal.returns
unfolding code_of_bits packed
returns c =
    let all : c.loop-j.j ≡ 64 = omega arith in
    rw all at c.loop-j.invariant.0
