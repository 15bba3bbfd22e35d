use Rattle.dcf_keys.proofs.Levels.{correction_made}
use Rattle.dcf_keys.proofs.correction.Goals as goal

pub returns : goal.returns
returns c =
    correction_made _ c.args.g c.args.b c.requires
    c.child_at-e0.result c.child_at-e1.result c.child_at-l0.result
    c.child_at-r0.result c.child_at-l1.result c.child_at-r1.result _ _ _
    c.child_at-e0.ensures c.child_at-e1.ensures c.child_at-l0.ensures
    c.child_at-r0.ensures c.child_at-l1.ensures c.child_at-r1.ensures
    c.corrected.ensures c.word_correction.ensures c.flag_corrections.ensures
