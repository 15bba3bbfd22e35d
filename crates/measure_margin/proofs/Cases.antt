-- The margins of `specs/Cases.antt` hold. Assumes nothing. [SPEC 36.3, 36.5, 36.6]
use Rattle.std.specs.Prelude.{◌≡◌, refl, Bool, true, ◌&&◌, List, [], ◌∷◌, map, eqb, length}
use Rattle.std.proofs.Common.{subst, eqb-true}
use Rattle.base_algebra.specs.Bit.{both}
use Rattle.base_algebra.specs.Sum.{sumℕ, sumℤ}
use Rattle.base_algebra.specs.Word as W
use Rattle.measure_table.specs.Measure.{row, scalar_product, element, own, cross, measure, word}
use Rattle.measure_margin.specs.Margin.{absolute_sum, Largest}
use Rattle.measure_margin.specs.Claims.{quotient, spare, closed_form}
use Rattle.measure_margin.proofs.Claims.{largest}
use Rattle.measure_margin.specs.Cases.{Line, line, Holds, AllHold, table}

-- the closed form of each line, computed
test : Line → Bool
test (line x y t e) =
    eqb (length (map word y)) (length (map word x)) && eqb (closed_form (map word x) (map word y) (word t)) e

tests : List Line → Bool
tests [] = true
tests (l ∷ ls) = test l && tests ls

held : (ls : List Line) → tests ls ≡ true → AllHold ls
unfolding AllHold Holds tests test
held [] h = tt
held (line x y t e ∷ ls) h =
    let here = both (test (line x y t e)) (tests ls) h in
    let parts = both (eqb (length (map word y)) (length (map word x))) _ here.0 in (
      subst (Largest (map word x) (map word y) (word t)) (eqb-true _ _ parts.1)
          (largest (map word x) (map word y) (word t) (eqb-true _ _ parts.0)),
      held ls here.1,
    )

computed : tests table ≡ true
unfolding tests test table closed_form spare quotient absolute_sum sumℕ sumℤ measure own cross element row
    scalar_product word W.signed W.neg
computed = refl

pub the_margins : AllHold table
the_margins = held table computed
