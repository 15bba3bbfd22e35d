use mathlib.Core.Path.{◌≡◌}
use Rattle.base_words.specs.List.{over}
use Rattle.aead_one_time.proofs.Laws.{laid}
use Rattle.aead_one_time.proofs.store_keys.Given as goal

abbrev pub invariant-loop-l : goal.invariant-loop-l
invariant-loop-l l =
    l.out ≡ over 0 (laid 8 l.l l.x) l.initial.out
