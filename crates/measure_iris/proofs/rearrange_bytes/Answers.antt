use mathlib.Core.Path.{◌≡◌, refl}
use Prim.Native.Nat.{ℕ, ◌*◌}
use native.Mathlib.Omega.{arith}
use lib.ListN.{length-set}
use Rattle.base_words.specs.List.{over, tab}
use Rattle.measure_iris.specs.Iris.{bit, from_bits, code_of_bits}
use Rattle.measure_iris.specs.Laws.{place_for, store_more}
use Rattle.measure_iris.proofs.rearrange_bytes.Goals as goal

pub loop-j-init : goal.loop-j-init
unfolding over tab
loop-j-init c = (refl, refl)

pub loop-j-preserved : goal.loop-j-preserved
loop-j-preserved c =
    let args = c.args in
    let byte : ℕ → ℕ = λ m. from_bits (λ i. bit args.code.now (place_for args.stored i)) (8 * m) 8 in (
      store_more byte _ _ _ _ c.rearranged_byte.ensures c.loop-j.invariant.0,
      simp length-set (omega arith),
    )

pub returns : goal.returns
unfolding code_of_bits
returns c =
    let all : c.loop-j.j ≡ 64 = omega arith in
    rw all at c.loop-j.invariant.0
