use Rattle.std.proofs.Common.{◌≡◌, refl, arith}
use Rattle.chacha20_rounds.specs.Rounds.{rounds}
use Rattle.chacha20_x2.proofs.Table.{rounds_more}
use Rattle.chacha20_x2.proofs.twenty_rounds.Goals as goal

pub loop-init : goal.loop-init
unfolding rounds
loop-init c = (refl, refl)

pub loop-preserved : goal.loop-preserved
loop-preserved c = (
  rounds_more 0 _ _ _ _ c.loop.invariant.0 c.double_round.ensures.z_after,
  rounds_more 4 _ _ _ _ c.loop.invariant.1 c.double_round.ensures.z_after_2,
)

pub returns : goal.returns
returns c =
    let done : c.loop.counter ≡ 10 = omega arith in
    record { z_after = rw done at c.loop.invariant.0; z_after_2 = rw done at c.loop.invariant.1 }
