use native.Mathlib.Omega.{arith}
use Rattle.aead_one_time.proofs.Laws.{store_none, store_more, store_all}
use Rattle.std.proofs.Common.{rules}
use Rattle.aead_one_time.proofs.store_keys.Goals as goal

pub loop-l-init : goal.loop-l-init
loop-l-init c = store_none 8 _ _

pub loop-l-preserved : goal.loop-l-preserved
loop-l-preserved c = store_more 8 _ _ _ _ _ (search rules) c.loop-l.invariant c.store_key.ensures

pub returns : goal.returns
returns c = store_all 8 _ _ _ c.loop-l.l (omega arith) (search rules) c.loop-l.invariant
