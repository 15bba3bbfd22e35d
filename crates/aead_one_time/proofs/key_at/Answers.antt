use mathlib.Core.Path.{◌≡◌, ap, ◌∙◌}
use Prim.Native.Nat.{ℕ, ◌+◌, ◌*◌, ◌-◌}
use native.Mathlib.Omega.{arith}
use lib.ListN.{take, drop}
use Rattle.aead_one_time.proofs.key_at.Goals as goal

pub returns : goal.returns
returns c =
    let args = c.args in
    let size : 32 * args.i + 32 - 32 * args.i ≡ 32 = omega arith in
    c.bytes_32.ensures ∙ ap (λ (n : ℕ). take n (drop (32 * args.i) args.keys.now)) size
