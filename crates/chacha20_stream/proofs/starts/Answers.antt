use Rattle.std.proofs.Common.{◌/◌, refl, arith, rules}
use Rattle.base_algebra.specs.Word.{add}
use Rattle.chacha20_stream.proofs.Blocks.{start_more, start_all}
use Rattle.chacha20_stream.proofs.starts.Goals as goal

pub loop-l-init : goal.loop-l-init
unfolding add
loop-l-init g c = (search rules, refl)

pub loop-l-preserved : goal.loop-l-preserved
unfolding add
loop-l-preserved g c = (
  omega (arith, c.add-n.ensures, c.loop-l.invariant.0),
  start_more (g.row.W / 16) _ _ _ _ _ _ _ _ _ (search rules) c.loop-l.invariant.0
      c.loop-l.invariant.1 c.start.ensures c.set_lane.ensures,
)

pub returns : goal.returns
returns g c = start_all (g.row.W / 16) _ _ _ _ _ c.loop-l.l (omega arith) c.loop-l.invariant.1
