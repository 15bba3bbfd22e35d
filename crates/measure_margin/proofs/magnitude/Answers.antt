use Rattle.std.proofs.Common.{◌≡◌, ℕ, ◌<◌, ◌^◌, ◌∙◌, ap, Bool, true, false, refl, rules}
use Rattle.std.proofs.Math.Dec.{ltb}
use Rattle.std.proofs.Math.IntN.{nat_abs}
use borrow.Author.Tests.{ltb-true, ltb-false}
use Rattle.std.proofs.Math.Facts.{to_z-of_z}
use Rattle.std.specs.Int.{w32, cast_signed}
use Rattle.base_algebra.specs.Word.{signed}
use Rattle.measure_table.specs.Laws.{signed_low, signed_high}
use Rattle.measure_margin.proofs.magnitude.Goals as goal

cast : (w : ℕ) → w < 2 ^ 32 → cast_signed w32 w ≡ signed w
cast w l = go (ltb w (2 ^ 31)) refl
  where
    go : (b : Bool) → ltb w (2 ^ 31) ≡ b → cast_signed w32 w ≡ signed w
    go true e = rw (e, signed_low w (ltb-true w (2 ^ 31) e)) refl
    go false e = rw (e, signed_high w (ltb-false w (2 ^ 31) e) l) refl

pub returns : goal.returns
returns c =
    c.unsigned_abs.ensures.value
    ∙ ap nat_abs (to_z-of_z {w = w32} (search rules) ∙ c.cast_signed.ensures ∙ cast _ (search rules))
