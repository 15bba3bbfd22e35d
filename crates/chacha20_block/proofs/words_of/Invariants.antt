use Rattle.std.proofs.Common.{◌≡◌, ◌*◌, ◌++◌, drop, length}
use Rattle.base_words.specs.List.{tab}
use Rattle.base_words.specs.Bytes.{word_at}
use Rattle.chacha20_block.proofs.words_of.Given as goal

abbrev pub invariant-loop-i : goal.invariant-loop-i
invariant-loop-i g l =
    (l.w ≡ tab (λ j. word_at l.b (4 * j)) l.i ++ drop l.i l.initial.w) × (length l.w ≡ g.row.N)
