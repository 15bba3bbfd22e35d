use mathlib.Core.Path.{ap, ◌∙◌}
use Rattle.chacha20_x2.specs.Pair.{columns, turned_rows}
use Rattle.chacha20_x2.proofs.Table.{double}
use Rattle.std.proofs.Common.{rules}
use Rattle.chacha20_x2.proofs.double_round.Goals as goal

pub returns : goal.returns
returns c =
    let each =
    double c.args.z.now c.columns-2.new.z (search rules)
    (c.columns-2.ensures
    ∙ ap (columns 8)
    (c.turn_rows-2.ensures ∙ ap (turned_rows 1 3) (c.columns.ensures ∙ ap (columns 8) c.turn_rows.ensures))) in
    record { z_after = each.0; z_after_2 = each.1 }
