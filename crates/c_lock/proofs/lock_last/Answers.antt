use Rattle.c_lock.specs.Host.{label}
use Rattle.c_lock.specs.Claims.{hands_on}
use Rattle.c_lock.proofs.lock_last.Goals as goal

pub returns : goal.returns
unfolding label
returns c = (hands_on _ _ _ _ _ _ _ _ _ c.answer_on-after.ensures).1
