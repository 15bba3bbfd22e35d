use Rattle.dcf_keys.proofs.Levels.{opened_both}
use Rattle.dcf_keys.proofs.open_both.Goals as goal

pub returns : goal.returns
returns c =
    opened_both c.args.level _ _ _ _ _ _ _ c.args.s0 c.args.s1 _ _ _ _
    c.nonce-nonce.ensures c.start.ensures c.set_lane.ensures
    c.start-2.ensures c.set_lane-2.ensures
    c.start-3.ensures c.set_lane-3.ensures
    c.start-4.ensures c.set_lane-4.ensures c.blocks-2.ensures
