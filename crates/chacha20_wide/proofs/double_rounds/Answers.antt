use Rattle.std.proofs.Common.{◌/◌, refl, ap, ◌∙◌, arith, rules}
use Rattle.chacha20_rounds.specs.Rounds.{column_round, diagonal_round, double_round}
use Rattle.chacha20_wide.proofs.Turns.{round_more, round_all}
use Rattle.chacha20_wide.proofs.double_rounds.Goals as goal

pub loop-l-init : goal.loop-l-init
loop-l-init g c = refl

pub loop-l-preserved : goal.loop-l-preserved
unfolding double_round
loop-l-preserved g c =
    round_more (g.row.W / 16) _ _ _ _ _ (search rules) c.loop-l.invariant
    (c.diagonal_round.ensures
    ∙ ap diagonal_round (c.column_round.ensures ∙ ap column_round c.lane-s.ensures))
    c.set_lane.ensures

pub returns : goal.returns
returns g c = round_all (g.row.W / 16) _ _ c.loop-l.l (omega arith) c.loop-l.invariant
