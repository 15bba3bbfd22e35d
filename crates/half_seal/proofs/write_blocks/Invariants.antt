use Rattle.half_seal.specs.Half.{first_blocks}
use Rattle.base_words.specs.List.{over}
use mathlib.Core.Path.{◌≡◌}
use Rattle.half_seal.proofs.write_blocks.Given as goal

abbrev pub invariant-loop-i : goal.invariant-loop-i
invariant-loop-i l = l.out ≡ over 0 (first_blocks l.key l.number l.p l.i) l.initial.out
