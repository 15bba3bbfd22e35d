use mathlib.Core.Path.{◌∙◌, ap, ap₂}
use mathlib.Core.Bool.{◌&&◌}
use lib.Dec.{leb}
use Rattle.measure_table.specs.Measure.{ordinary_width}
use Rattle.measure_table.proofs.Rows.{order_words}
use Rattle.std.proofs.Common.{rules}
use Rattle.measure_table.proofs.ordered.Goals as goal

pub returns : goal.returns
returns c =
    ap₂ ◌&&◌ (ap₂ leb c.add.ensures c.add-2.ensures)
    (ap (λ d. leb d ordinary_width) c.sub.ensures)
    ∙ order_words _ _ (search rules) (search rules)
