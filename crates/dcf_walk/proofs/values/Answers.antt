use Rattle.dcf_walk.proofs.Levels.{starts, one_more, ends}
use mathlib.Core.Path.{refl}
use Rattle.std.proofs.Common.{rules}
use Rattle.dcf_walk.proofs.values.Goals as goal

pub loop-i-init : goal.loop-i-init
loop-i-init c = (starts _ _ _ _, starts _ _ _ _)

pub loop-i-preserved : goal.loop-i-preserved
loop-i-preserved c = (
  one_more c.args.party c.args.key c.args.seed c.args.u c.loop-i.i _
      c.loop-i.w.0 c.both_taken-w.result.0 _ _ c.loop-i.invariant.0 refl
      c.level_bit-d.ensures refl c.both_taken-w.ensures.a_value,
  one_more c.args.party c.args.key c.args.seed c.args.v c.loop-i.i _
      c.loop-i.w.1 c.both_taken-w.result.1 _ _ c.loop-i.invariant.1 refl
      c.level_bit-e.ensures refl c.both_taken-w.ensures.b_value,
)

pub returns : goal.returns
returns c = record {
  first_value = ends c.args.party c.args.key c.args.seed c.args.u c.loop-i.i _
      c.loop-i.w.0 (search rules) (search rules) c.loop-i.invariant.0 c.finished.ensures;
  second_value = ends c.args.party c.args.key c.args.seed c.args.v c.loop-i.i _
      c.loop-i.w.1 (search rules) (search rules) c.loop-i.invariant.1 c.finished-2.ensures;
}
