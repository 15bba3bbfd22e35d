use mathlib.Core.Path.{◌≡◌, refl, ap, ◌∙◌}
use Prim.Native.Nat.{ℕ, ◌-◌, ◌+◌, min}
use native.Mathlib.Omega.{arith}
use lib.Bits.{bit_xor}
use lib.ListN.{length, get_or, length-set}
use Rattle.base_words.specs.List.{over, tab, over_tab, get_d_over, length_tab}
use Rattle.chacha20_stream.proofs.xor_part.Goals as goal

pub loop-i-init : goal.loop-i-init
unfolding over tab
loop-i-init c = (refl, refl)

pub loop-i-preserved : goal.loop-i-preserved
loop-i-preserved c =
    let args = c.args in
    let b = args.b.now in
    let s = args.bytes.now in
    let at = args.at in
    let i = c.loop-i.i in
    let rule : ℕ → ℕ = λ i. bit_xor (get_or s (at + i) 0) (get_or b i 0) in
    let here : get_or c.loop-i.bytes (at + i) 0 ≡ get_or s (at + i) 0 =
    ap (λ l. get_or l (at + i) 0) c.loop-i.invariant.0
    ∙ get_d_over (tab rule i) s at (at + i) (omega (arith, length_tab rule i)) in
    (rw here (over_tab rule _ _ _ _ c.loop-i.invariant.0), simp length-set (omega arith))

pub returns : goal.returns
returns c =
    let args = c.args in
    let done : c.loop-i.i ≡ min (length args.b.now) (length args.bytes.now - args.at) =
    omega (arith, c.min-n.ensures) in
    rw done at c.loop-i.invariant.0
