use mathlib.Core.Path.{refl}
use Rattle.dcf_node.specs.Node.{node_nonce}
use Rattle.dcf_node.proofs.nonce.Goals as goal

pub returns : goal.returns
unfolding node_nonce
returns c = refl
