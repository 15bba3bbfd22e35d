use mathlib.Core.Path.{refl}
use Prim.Native.Nat.{ℕ}
use lib.ListN.{get_or}
use mir.Syntax.{w8}
use mir.Val.{Fits}
use Rattle.poly1305_limbs.specs.Limbs.{words4}
use Rattle.poly1305_limbs.proofs.Limbs.{weaken}
use Rattle.poly1305_mac.proofs.Bytes.{r_law}
use Rattle.std.proofs.Common.{rules}
use Rattle.poly1305_mac.proofs.clamped_r.Goals as goal

pub invariant_of-result : goal.invariant_of-result
invariant_of-result c = record { in_range = weaken _ c.split-exact.result.in_range }

pub returns : goal.returns
unfolding words4
returns c =
    let byte : (i : ℕ) → Fits w8 (get_or c.args.k.now i 0) = λ i. search rules in
    r_law c.args.k.now _ _ _ _ (λ i. (byte i).fits) c.split-exact.ensures
    refl c.clamped-w1.ensures c.clamped-w2.ensures c.clamped-w3.ensures
    c.load-w0.ensures c.load.ensures c.load-2.ensures c.load-3.ensures
