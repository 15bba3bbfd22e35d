use mathlib.Core.Path.{ap, ◌∙◌}
use Rattle.chacha20_x2.specs.Pair.{turned, turned_rows}
use Rattle.chacha20_x2.proofs.turn_rows.Goals as goal

pub returns : goal.returns
unfolding turned_rows
returns c =
    let args = c.args in
    c.turn-6.ensures
    ∙ ap (turned 52 args.d) (c.turn-5.ensures
    ∙ ap (turned 48 args.d) (c.turn-4.ensures
    ∙ ap (turned 36 2) (c.turn-3.ensures
    ∙ ap (turned 32 2) (c.turn-2.ensures
    ∙ ap (turned 20 args.b) c.turn.ensures))))
