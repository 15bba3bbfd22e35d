use Rattle.half_seal.specs.Half.{first_fit, opened_blocks}
use Rattle.base_words.specs.List.{over}
use mathlib.Core.Bool.{true}
use mathlib.Core.Path.{◌≡◌}
use Rattle.half_open.proofs.open_blocks.Given as goal

abbrev pub invariant-loop-i : goal.invariant-loop-i
invariant-loop-i l = (l.fit ≡ first_fit l.key l.h l.i)
    × (l.fit ≡ true → l.out ≡ over 0 (opened_blocks l.key l.h l.i) l.initial.out)
