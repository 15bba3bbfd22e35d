use Rattle.door_parts.proofs.Steps.{join_step}
use Rattle.door_parts.proofs.Door.join.Goals as goal

pub returns : goal.returns
returns c = join_step _ _ _ c.join-a.ensures
