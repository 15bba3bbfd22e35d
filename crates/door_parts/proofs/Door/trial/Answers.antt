use Rattle.door_parts.proofs.Steps.{trial_step}
use Rattle.door_parts.proofs.Door.trial.Goals as goal

pub returns : goal.returns
returns c =
    trial_step c.args.self c.args.side c.at-party.ensures _ c.trial-a.ensures
