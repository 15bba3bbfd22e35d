use Rattle.base_words.specs.List.{same}
use mathlib.Core.Path.{◌≡◌}
use lib.ListN.{take}
use Rattle.base_slices.proofs.equal.Given as goal

abbrev pub invariant-loop-i : goal.invariant-loop-i
invariant-loop-i l = l.all ≡ same (take l.i l.a) (take l.i l.b)
