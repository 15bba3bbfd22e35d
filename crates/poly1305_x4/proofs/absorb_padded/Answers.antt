use Rattle.poly1305_x4.proofs.Padded.{front_length, front_whole, padded_after}
use Rattle.poly1305_x4.proofs.absorb_padded.Goals as goal

pub slice_bounds-absorb4-end : goal.slice_bounds-absorb4-end
slice_bounds-absorb4-end c = front_length c.args.m.now

pub absorb4-a-requires : goal.absorb4-a-requires
absorb4-a-requires c = front_whole c.args.m.now

pub returns : goal.returns
returns c = padded_after c.args.m.now _ _ _ c.absorb4-a.ensures c.absorb_padded.ensures
