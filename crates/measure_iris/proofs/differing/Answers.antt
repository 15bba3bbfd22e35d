use mathlib.Core.Path.{◌≡◌, refl, ap₂, ◌∙◌}
use Prim.Native.Nat.{ℕ, ◌*◌, ◌<◌}
use native.Mathlib.Omega.{arith}
use lib.Bits.{bit_xor}
use lib.Count.{ones}
use lib.ListN.{get_or}
use Rattle.base_algebra.specs.Sum.{sumℕ}
use Rattle.measure_iris.specs.Iris.{distance}
use Rattle.measure_iris.specs.Laws.{ones_at, word_ones, word_most, sum_four}
use Rattle.std.proofs.Common.{rules}
use Rattle.measure_iris.proofs.differing.Goals as goal

pub loop-i-init : goal.loop-i-init
unfolding sumℕ
loop-i-init c = (refl, search rules)

pub overflow_add-n : goal.overflow_add-n
overflow_add-n c =
    let args = c.args in
    let a = args.a.now in
    let b = args.b.now in
    let i = c.loop-i.i in
    let la : (j : ℕ) → get_or a j 0 < 256 = λ j. search rules in
    let lb : (j : ℕ) → get_or b j 0 < 256 = λ j. search rules in
    let read = ap₂ (λ (x y : ℕ). ones (bit_xor x y)) c.load.ensures c.load-in-loop-i.ensures in
    record { fits = omega (arith, read, word_most a b la lb (4 * i)) }

pub loop-i-preserved : goal.loop-i-preserved
loop-i-preserved c =
    let args = c.args in
    let a = args.a.now in
    let b = args.b.now in
    let i = c.loop-i.i in
    let la : (j : ℕ) → get_or a j 0 < 256 = λ j. search rules in
    let lb : (j : ℕ) → get_or b j 0 < 256 = λ j. search rules in
    let read = ap₂ (λ (x y : ℕ). ones (bit_xor x y)) c.load.ensures c.load-in-loop-i.ensures in
    let four = sum_four (ones_at a b) i _ _ c.loop-i.invariant.0 (read ∙ word_ones a b la lb (4 * i)) in
    (four, omega (arith, read, word_most a b la lb (4 * i)))

pub returns : goal.returns
unfolding distance ones_at
returns c =
    let all : c.loop-i.i ≡ 16 = omega arith in
    rw all at c.loop-i.invariant.0
