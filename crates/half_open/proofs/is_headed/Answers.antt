use Rattle.half_open.proofs.Laws.{headed, headed_words}
use Rattle.std.proofs.Common.{rules}
use Rattle.half_open.proofs.is_headed.Goals as goal

pub returns : goal.returns
returns c =
    let b = c.args.b.now in
    let x = c.load-low in
    let y = c.load-high in
    let z = c.load-index in
    record {
      value = headed b x.result y.result z.result c.args.number c.args.i c.requires
          x.ensures y.ensures z.ensures c.joined.result c.joined.ensures;
      b_value = headed_words b x.result y.result z.result c.args.number c.args.i
          c.requires x.ensures y.ensures z.ensures c.joined.result
          c.joined.ensures (search rules) (search rules) (search rules);
    }
