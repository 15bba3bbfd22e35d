use Rattle.dcf_node.proofs.Laws.{by_sign_lem}
use mathlib.Core.Path.{◌∙◌}
use Rattle.std.proofs.Common.{rules}
use Rattle.dcf_node.proofs.by_sign.Goals as goal

pub returns : goal.returns
returns c = c.sub.ensures ∙ by_sign_lem _ _ _ _ c.add.ensures c.only.ensures (search rules)
