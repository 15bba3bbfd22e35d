use mathlib.Core.Path.{◌≡◌}
use lib.ListN.{length, take}
use Rattle.base_words.specs.List.{over}
use Rattle.base_slices.proofs.copy.Given as goal

abbrev pub invariant-loop-i : goal.invariant-loop-i
invariant-loop-i l =
    (l.dst ≡ over l.at (take l.i l.src) l.initial.dst) × (length l.dst ≡ length l.initial.dst)
