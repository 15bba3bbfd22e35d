use mathlib.Core.Path.{ap}
use Rattle.base_algebra.specs.Word.{neg, signed}
use Rattle.measure_table.specs.Measure.{scalar_product, squared_euclid, hamming, word}
use Rattle.measure_table.proofs.Rows.{row_0, row_1, row_2}
use Rattle.measure_table.proofs.row_of.Goals as goal

pub returns-then-code-eq0 : goal.returns-then-code-eq0
unfolding word neg signed scalar_product
returns-then-code-eq0 c =
    let E = c.new.ensures in
    rw (row_0 _ c.if-code-eq0.true)
    (E.0, E.1, ap signed E.2, ap signed E.3, ap signed E.4, ap signed E.5, E.6, E.7)

pub returns-then-code-eq1 : goal.returns-then-code-eq1
unfolding word neg signed squared_euclid
returns-then-code-eq1 c =
    let E = c.new-then-code-eq1.ensures in
    rw (row_1 _ c.if-code-eq1.true)
    (E.0, E.1, ap signed E.2, ap signed E.3, ap signed E.4, ap signed E.5, E.6, E.7)

pub returns-else-code-eq1 : goal.returns-else-code-eq1
unfolding word neg signed hamming
returns-else-code-eq1 c =
    let E = c.new-else-code-eq1.ensures in
    rw (row_2 _ c.if-code-eq0.false c.if-code-eq1.false)
    (E.0, E.1, ap signed E.2, ap signed E.3, ap signed E.4, ap signed E.5, E.6, E.7)
