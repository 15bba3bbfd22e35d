use mathlib.Core.Path.{◌∙◌}
use Rattle.chacha20_x2.proofs.Table.{quarter_front}
use Rattle.std.proofs.Common.{rules}
use Rattle.chacha20_x2.proofs.quarter_at.Goals as goal

pub returns : goal.returns
returns c =
    let args = c.args in
    c.pad.ensures
    ∙ quarter_front args.z.now _ args.j _ c.quarter_round-q.result
    (search rules) c.four-p.ensures c.quarter_round-q.ensures c.set_four.ensures
