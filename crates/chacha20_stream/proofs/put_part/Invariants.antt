use mathlib.Core.Path.{◌≡◌}
use lib.ListN.{length, get_or}
use Rattle.base_words.specs.List.{over, tab}
use Rattle.chacha20_stream.proofs.put_part.Given as goal

abbrev pub invariant-loop-i : goal.invariant-loop-i
invariant-loop-i l =
    (l.out ≡ over l.at (tab (λ i'. get_or l.k i' 0) l.i) l.initial.out)
    × (length l.out ≡ length l.initial.out)
