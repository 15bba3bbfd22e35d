use mathlib.Core.Path.{◌≡◌}
use lib.ListN.{length, get_or}
use Rattle.base_algebra.specs.Word.{add}
use Rattle.base_words.specs.List.{over, tab}
use Rattle.share_vectors.proofs.add_vectors.Given as goal

abbrev pub invariant-loop-i : goal.invariant-loop-i
invariant-loop-i l = (length l.out ≡ length l.initial.out)
    × (l.out ≡ over 0 (tab (λ j. add (get_or l.a j 0) (get_or l.b j 0)) l.i) l.initial.out)
