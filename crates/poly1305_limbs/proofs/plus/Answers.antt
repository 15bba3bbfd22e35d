use Rattle.poly1305_limbs.proofs.Limbs.{plus_value, sum_below}
use Rattle.poly1305_limbs.proofs.plus.Goals as goal

pub returns-clause-adds : goal.returns-clause-adds
returns-clause-adds c = sum_below _ _ c.args.h.in_range

pub returns-clause-result_value : goal.returns-clause-result_value
returns-clause-result_value c = plus_value c.args.h.limbs c.args.c
