use Rattle.half_layout.proofs.Stored.{fields_law}
use Rattle.half_layout.proofs.lay_out.Goals as goal

pub returns : goal.returns
returns c =
    fields_law c.args.name c.args.party c.args.s _ _ _ _
    c.head-h.ensures c.tail-t.ensures c.joined.ensures
