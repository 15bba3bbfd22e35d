use Rattle.dcf_node.proofs.Laws.{level_bit}
use Rattle.dcf_node.proofs.level_bit.Goals as goal

pub returns : goal.returns
returns c = level_bit c.args.u c.args.i
