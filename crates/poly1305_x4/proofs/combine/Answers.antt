use lib.Dec.{lit<}
use native.Mathlib.Omega.{arith}
use Rattle.poly1305_x4.specs.Poly4.{rows}
use Rattle.poly1305_x4.proofs.Lanes.{weaken, combine_rows, held, all28}
use Rattle.poly1305_x4.proofs.combine.Goals as goal

pub lane-x0-requires-clause-held : goal.lane-x0-requires-clause-held
lane-x0-requires-clause-held c = c.requires 0 (omega arith)

pub lane-x1-requires-clause-held : goal.lane-x1-requires-clause-held
lane-x1-requires-clause-held c = c.requires 1 (omega arith)

pub lane-x2-requires-clause-held : goal.lane-x2-requires-clause-held
lane-x2-requires-clause-held c = c.requires 2 (omega arith)

pub lane-x3-requires-clause-held : goal.lane-x3-requires-clause-held
lane-x3-requires-clause-held c = c.requires 3 (omega arith)

pub next-a1-requires-clause-below : goal.next-a1-requires-clause-below
next-a1-requires-clause-below c =
    weaken _ (held (rows c.args.x.now) 0 c.requires (lit< tt) c.lane-x0.ensures)

pub next-a1-requires-clause-held : goal.next-a1-requires-clause-held
next-a1-requires-clause-held c = held (rows c.args.x.now) 1 c.requires (lit< tt) c.lane-x1.ensures

pub next-a2-requires-clause-below : goal.next-a2-requires-clause-below
next-a2-requires-clause-below c =
    all28 _ _ (held (rows c.args.x.now) 1 c.requires (lit< tt) c.lane-x1.ensures) c.next-a1.ensures.adds

pub next-a2-requires-clause-held : goal.next-a2-requires-clause-held
next-a2-requires-clause-held c = held (rows c.args.x.now) 2 c.requires (lit< tt) c.lane-x2.ensures

pub next-a3-requires-clause-below : goal.next-a3-requires-clause-below
next-a3-requires-clause-below c =
    all28 _ _ (held (rows c.args.x.now) 2 c.requires (lit< tt) c.lane-x2.ensures) c.next-a2.ensures.adds

pub next-a3-requires-clause-held : goal.next-a3-requires-clause-held
next-a3-requires-clause-held c = held (rows c.args.x.now) 3 c.requires (lit< tt) c.lane-x3.ensures

pub multiply-d-requires : goal.multiply-d-requires
multiply-d-requires c =
    all28 _ _ (held (rows c.args.x.now) 3 c.requires (lit< tt) c.lane-x3.ensures) c.next-a3.ensures.adds

pub returns : goal.returns
returns c =
    combine_rows _ (rows c.args.x.now) _ _ _ _ c.lane-x0.ensures c.lane-x1.ensures
    c.lane-x2.ensures c.lane-x3.ensures
    c.next-a1.ensures.fact c.next-a2.ensures.fact
    c.next-a3.ensures.fact c.multiply-d.ensures.fact c.reduce.ensures
