-- A word under a mask of ones or zeros. Assumes nothing.
use Rattle.std.proofs.Common.{◌≡◌, ℕ, ◌-◌, ◌^◌, ◌<◌, Bool, true, false, refl, ◌∙◌, arith}
use lib.Bits.{bit_and, and_mask, and_zero_r}
use Rattle.base_algebra.specs.Word.{sub}
use Rattle.base_algebra.specs.Bit.{only}

pub masked : (t : Bool) (x m : ℕ) → m ≡ sub 0 (only t 1) → x < 2 ^ 32 → bit_and x m ≡ only t x
unfolding only sub
masked true x m e h =
    let ones : m ≡ 2 ^ 32 - 1 = e ∙ refl in
    rw ones (and_mask x 32 ∙ omega arith)
masked false x m e h =
    let zeros : m ≡ 0 = e ∙ refl in
    rw zeros (and_zero_r x)
