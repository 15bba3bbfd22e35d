use Rattle.chacha20_x2.proofs.Table.{turned_front}
use Rattle.std.proofs.Common.{rules}
use Rattle.chacha20_x2.proofs.turn.Goals as goal

pub returns : goal.returns
returns c =
    let args = c.args in
    turned_front args.z.now _ args.at args.by _ c.turned-q.result
    (search rules) c.four.ensures c.turned-q.ensures c.set_four.ensures
