use Rattle.dcf_keys.proofs.Levels.{kept_made}
use Rattle.dcf_function.specs.Dcf.{next_flag}
use Rattle.dcf_keys.specs.Keys.{as_child}
use Rattle.dcf_keys.proofs.kept.Goals as goal

pub returns : goal.returns
unfolding next_flag as_child
returns c =
    kept_made _ c.args.g c.args.b c.requires c.args.c
    c.child_at-k0.result c.child_at-k1.result _ _ _ _ _
    c.child_at-k0.ensures c.child_at-k1.ensures
    c.corrected.ensures c.corrected-2.ensures
    c.next_flag.ensures c.next_flag-2.ensures c.next_v.ensures
