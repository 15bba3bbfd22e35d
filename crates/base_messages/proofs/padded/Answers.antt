use mathlib.Core.Path.{◌∙◌}
use Rattle.base_messages.proofs.Names.{padded_over}
use Rattle.std.proofs.Common.{rules}
use Rattle.base_messages.proofs.padded.Goals as goal

pub returns : goal.returns
returns c = c.copy.ensures ∙ padded_over c.args.name.now (search rules)
