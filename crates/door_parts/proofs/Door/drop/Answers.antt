use Rattle.door_parts.proofs.Steps.{drop_step}
use Rattle.door_parts.proofs.Door.drop.Goals as goal

pub returns : goal.returns
returns c =
    let side = c.args.side in
    drop_step _ side c.at-party.ensures c.drop.ensures c.on_box.ensures
