use mathlib.Core.Path.{refl, ◌∙◌}
use native.Mathlib.Omega.{arith}
use Rattle.base_messages.specs.Laws.{taken, refused}
use Rattle.c_lock.specs.Host.{label}
use Rattle.c_lock.specs.Claims.{hands_on, why_most}
use Rattle.c_lock.proofs.lock_join.Goals as goal

pub overflow_add-result : goal.overflow_add-result
unfolding label
overflow_add-result c = let small = why_most _ _ _ _ _ _ _ _ _ c.answer_on-a.ensures in omega arith

pub returns-then-a-eq0 : goal.returns-then-a-eq0
unfolding label
returns-then-a-eq0 c = taken _ _ refl c.if-a-eq0.true ∙ (hands_on _ _ _ _ _ _ _ _ _ c.answer_on-a.ensures).0

pub returns-else-a-eq0 : goal.returns-else-a-eq0
unfolding label
returns-else-a-eq0 c =
    refused _ _ refl c.if-a-eq0.false
    ∙ (hands_on _ _ _ _ _ _ _ _ _ c.answer_on-a.ensures).0
