use Rattle.door_parts.proofs.Steps.{load_step}
use Rattle.door_parts.proofs.Door.load.Goals as goal

pub returns : goal.returns
returns c =
    let side = c.args.side in
    load_step _ side c.at-party.ensures _ c.load.ensures c.on_box.ensures
