use Rattle.dcf_keys.proofs.Levels.{flags_made}
use Rattle.dcf_keys.proofs.flag_corrections.Goals as goal

pub returns : goal.returns
returns c = flags_made c.args.l0 c.args.l1 c.args.r0 c.args.r1 c.args.b
