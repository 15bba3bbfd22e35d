use mathlib.Core.Path.{ap}
use mathlib.Core.Bool.{Bool, ◌&&◌}
use lib.Dec.{eqb}
use Rattle.base_messages.specs.Messages.{expected}
use Rattle.base_messages.proofs.expected.Goals as goal

pub returns : goal.returns
unfolding expected
returns c =
    let a = c.args in
    ap (λ (t : Bool). eqb a.label.kind a.kind && (t && eqb a.label.sender a.sender))
    c.equal.ensures
