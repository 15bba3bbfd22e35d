use mathlib.Core.Path.{◌≡◌, sym, ap, ◌∙◌}
use mathlib.Core.Bool.{Bool, true, cond, ◌&&◌, and-true, and_assoc}
use Prim.Native.Nat.{ℕ}
use lib.Dec.{eqb, leb}
use borrow.Author.Tests.{eq-eqb, ne_eqb}
use Rattle.measure_table.specs.Measure.{ordinary_mark, between_mark, ordinary_width}
use Rattle.half_content.specs.Content.{width_fits}
use Rattle.half_content.proofs.width_fits.Goals as goal

-- the test by how the mark's own test goes
by-mark : (w mark : ℕ) (b : Bool) → eqb mark ordinary_mark ≡ b
    → (leb mark between_mark && leb w ordinary_width) && cond b (eqb w ordinary_width) true ≡ width_fits w mark
unfolding width_fits
by-mark w mark b e =
    and_assoc (leb mark between_mark) (leb w ordinary_width) (cond b (eqb w ordinary_width) true)
    ∙ ap (λ (t : Bool). leb mark between_mark && (leb w ordinary_width && cond t (eqb w ordinary_width) true)) (sym e)

pub returns-then-mark-eq-ORDINARY_MARK : goal.returns-then-mark-eq-ORDINARY_MARK
returns-then-mark-eq-ORDINARY_MARK c = by-mark _ _ true (eq-eqb _ ordinary_mark c.if-mark-eq-ORDINARY_MARK.true)

pub returns : goal.returns
returns c = sym (and-true _) ∙ by-mark _ _ _ (ne_eqb _ ordinary_mark c.if-mark-eq-ORDINARY_MARK.false)
