use Rattle.chacha20_x2.proofs.Table.{past}
use Rattle.std.proofs.Common.{rules}
use Rattle.chacha20_x2.proofs.pad.Goals as goal

pub returns : goal.returns
returns c =
    past _ _ _ 8 c.quarter_round-s.result (search rules) c.set_four.ensures
