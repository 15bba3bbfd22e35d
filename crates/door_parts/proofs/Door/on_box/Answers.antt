use mathlib.Core.Path.{ap}
use Rattle.door_parts.specs.declared.Door.{Door}
use Rattle.door_parts.specs.declared.DoorAnswer.{DoorAnswer}
use Rattle.door_parts.proofs.Door.on_box.Goals as goal

pub returns : goal.returns
returns c =
    let a = c.args.a in
    ap {B = DoorAnswer} (λ (d : Door). record { why = a.why; word = a.word; door = d }) c.with.ensures
