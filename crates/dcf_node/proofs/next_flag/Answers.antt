use Rattle.dcf_node.proofs.Laws.{next_flag_lem}
use Rattle.dcf_node.proofs.next_flag.Goals as goal

pub returns : goal.returns
returns c = next_flag_lem _ _ _ _ _ c.side_flag.ensures c.only.ensures
