use mathlib.Core.Path.{◌≡◌, refl, ap, ◌∙◌}
use mathlib.Core.List.{append-nil}
use Prim.Native.Nat.{ℕ, ◌+◌, ◌*◌, ◌/◌, ◌%◌}
use native.Mathlib.Omega.{arith}
use lib.ListN.{get_or, set, length-set}
use Rattle.base_words.specs.List.{tab, tab_more}
use Rattle.chacha20_stream.proofs.Blocks.{places}
use Rattle.std.proofs.Common.{rules}
use Rattle.chacha20_stream.proofs.in_order.Goals as goal

pub loop-i-init : goal.loop-i-init
unfolding tab
loop-i-init c = (refl, refl)

pub loop-i-preserved : goal.loop-i-preserved
loop-i-preserved c =
    let x = c.args.x.now in
    let i = c.loop-i.i in
    let rule : ℕ → ℕ = λ j. get_or x (4 * (j % 16) + j / 16) 0 in (
      ap (λ l. set l i (rule i)) c.loop-i.invariant.0 ∙ tab_more rule i _ (search rules),
      simp length-set (omega arith),
    )

pub returns : goal.returns
returns c =
    let done : c.loop-i.i ≡ 64 = omega arith in
    rw done at c.loop-i.invariant.0 ∙ append-nil _ ∙ places 4 _
