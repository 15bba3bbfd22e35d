use Rattle.std.proofs.Common.{◌≡◌, ◌/◌, ap, ◌∙◌, arith}
use Rattle.chacha20_lanes.specs.Lanes.{rows}
use Rattle.chacha20_wide.proofs.Turns.{added_rows, rounds_none, rounds_more}
use Rattle.chacha20_wide.proofs.blocks.Goals as goal

pub loop-init : goal.loop-init
loop-init g c = rounds_none (g.row.W / 16) _

pub loop-preserved : goal.loop-preserved
loop-preserved g c = rounds_more (g.row.W / 16) _ _ _ _ c.loop.invariant c.double_rounds.ensures

pub returns : goal.returns
returns g c =
    let done : c.loop.counter ≡ 10 = omega arith in
    ap (rows (g.row.W / 16)) c.add_words.ensures
    ∙ added_rows g.row.W (g.row.W / 16) _ _ (omega arith) (rw done at c.loop.invariant)
