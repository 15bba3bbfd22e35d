use Rattle.door_parts.proofs.Steps.{finish_step}
use Rattle.door_parts.proofs.Door.finish.Goals as goal

pub returns : goal.returns
returns c =
    let side = c.args.side in
    finish_step _ side c.at-party.ensures _ c.finish.ensures c.on_box.ensures
