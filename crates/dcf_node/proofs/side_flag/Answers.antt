use Rattle.dcf_node.proofs.Laws.{shifted}
use mathlib.Core.Path.{refl}
use Rattle.dcf_node.specs.Node.{unpacked}
use Rattle.dcf_node.proofs.side_flag.Goals as goal

pub returns : goal.returns
unfolding unpacked
returns c = shifted c.args.c.flags c.args.d (unpacked c.args.c) refl refl
