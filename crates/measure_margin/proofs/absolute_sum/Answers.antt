use mathlib.Core.Path.{◌≡◌, refl, sym, ap₂, ◌∙◌}
use Prim.Native.Nat.{ℕ, ◌+◌}
use native.Mathlib.Omega.{arith}
use lib.IntN.{nat_abs}
use lib.ListN.{length}
use Rattle.base_algebra.specs.Sum.{sumℕ, sumℕ_more}
use Rattle.measure_table.specs.Measure.{element}
use Rattle.measure_margin.specs.Margin.{absolute_sum}
use Rattle.std.proofs.Common.{rules}
use Rattle.measure_margin.proofs.absolute_sum.Goals as goal

pub loop-w-init : goal.loop-w-init
unfolding sumℕ
loop-w-init c = (refl, search rules)

pub overflow_add-total : goal.overflow_add-total
unfolding element
overflow_add-total c =
    record { fits = omega (arith, c.magnitude-total.ensures, c.requires.1 c.loop-w.w-index, c.requires.0) }

pub loop-w-preserved : goal.loop-w-preserved
unfolding element
loop-w-preserved c =
    let size : ℕ → ℕ = λ j. nat_abs (element c.args.y.now j) in
    let more = ap₂ ◌+◌ c.loop-w.invariant.0 c.magnitude-total.ensures ∙ sym (sumℕ_more size c.loop-w.w-index) in
    (more, omega (arith, c.magnitude-total.ensures, c.requires.1 c.loop-w.w-index, c.loop-w.invariant.1))

pub returns : goal.returns
unfolding absolute_sum
returns c =
    let all : c.loop-w.w-index ≡ length c.args.y.now = omega arith in
    rw all at c.loop-w.invariant.0
