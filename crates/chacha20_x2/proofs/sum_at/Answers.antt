use Rattle.chacha20_rounds.specs.Rounds.{words}
use Rattle.chacha20_x2.proofs.Table.{sum_rows}
use Rattle.chacha20_x2.proofs.sum_at.Goals as goal

pub returns : goal.returns
returns c =
    let args = c.args in
    sum_rows args.at args.z.now (words args.t) _ _ _ _ _ c.four-p.ensures
    c.four-q.ensures c.four-r.ensures c.four-s.ensures c.add_states.ensures
