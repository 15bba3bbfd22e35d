use Rattle.std.proofs.Common.{◌≡◌, ◌++◌, length, drop, get_or}
use Rattle.base_algebra.specs.Word.{add}
use Rattle.base_words.specs.List.{tab}
use Rattle.chacha20_wide.proofs.add_words.Given as goal

abbrev pub invariant-loop-i : goal.invariant-loop-i
invariant-loop-i g l =
    (l.x ≡ tab (λ i'. add (get_or l.initial.x i' 0) (get_or l.y i' 0)) l.i ++ drop l.i l.initial.x)
    × (length l.x ≡ g.row.W)
