use Rattle.std.proofs.Common.{◌≡◌, refl, ap, ◌∙◌, add-one, arith}
use Rattle.chacha20_rounds.specs.Rounds.{column_round, diagonal_round, double_round, rounds}
use Rattle.chacha20_block.proofs.twenty_rounds.Goals as goal

pub loop-init : goal.loop-init
unfolding rounds
loop-init c = refl

pub loop-preserved : goal.loop-preserved
unfolding rounds double_round
loop-preserved c =
    rw add-one (c.diagonal_round-t.ensures
    ∙ ap diagonal_round (c.column_round.ensures ∙ ap column_round c.loop.invariant))

pub returns : goal.returns
returns c = let done : c.loop.counter ≡ 10 = omega arith in rw done at c.loop.invariant
