use Rattle.measure_iris.specs.Iris.{to_angles}
use Rattle.measure_iris.specs.Laws.{place_for}
use Rattle.measure_iris.proofs.to_angles.Goals as goal

pub returns-clause-out_after : goal.returns-clause-out_after
unfolding to_angles place_for
returns-clause-out_after c = c.rearrange.ensures.out_after
