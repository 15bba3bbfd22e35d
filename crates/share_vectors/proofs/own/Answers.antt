use Rattle.share_vectors.proofs.Laws.{own_squares, own_none}
use Rattle.share_vectors.proofs.own.Goals as goal

pub returns-then-row : goal.returns-then-row
returns-then-row c =
    own_squares _ c.args.v.now _ _ c.if-row.true
    c.row_of-row.ensures.0 c.inner.ensures

pub returns-else-row : goal.returns-else-row
returns-else-row c = own_none _ c.args.v.now _ c.if-row.false c.row_of-row.ensures.0
