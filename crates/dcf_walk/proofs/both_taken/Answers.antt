use Rattle.dcf_walk.proofs.Levels.{from_start}
use Rattle.dcf_walk.proofs.both_taken.Goals as goal

pub returns : goal.returns
returns c = record {
  a_value = from_start _ _ _ _ c.args.level _ c.args.w.0.seed _ _ c.args.d
      c.nonce-nonce.ensures c.start.ensures c.two_blocks-blocks.ensures.a_value
      c.taken.ensures;
  b_value = from_start _ _ _ _ c.args.level _ c.args.w.1.seed _ _ c.args.e
      c.nonce-nonce.ensures c.start-2.ensures c.two_blocks-blocks.ensures.b_value
      c.taken-2.ensures;
}
