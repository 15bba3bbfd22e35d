use Rattle.door_parts.proofs.Steps.{take_step}
use Rattle.door_parts.proofs.Door.take.Goals as goal

pub returns : goal.returns
returns c =
    let side = c.args.side in
    take_step _ side c.at-party.ensures _ c.take.ensures c.on_box.ensures
