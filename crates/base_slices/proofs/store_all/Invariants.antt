use mathlib.Core.Path.{◌≡◌}
use lib.ListN.{length, get_or}
use Rattle.base_words.specs.List.{over, tab}
use Rattle.base_words.specs.Bytes.{bytes_of}
use Rattle.base_slices.proofs.store_all.Given as goal

abbrev pub invariant-loop-i : goal.invariant-loop-i
invariant-loop-i l =
    (l.out ≡ over l.at (bytes_of (tab (λ i'. get_or l.w i' 0) l.i)) l.initial.out)
    × (length l.out ≡ length l.initial.out)
