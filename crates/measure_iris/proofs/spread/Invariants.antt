use mathlib.Core.Path.{◌≡◌}
use lib.ListN.{length}
use Rattle.base_words.specs.List.{over, tab}
use Rattle.measure_iris.specs.Iris.{bit}
use Rattle.measure_iris.proofs.spread.Given as goal

abbrev pub invariant-loop-i : goal.invariant-loop-i
invariant-loop-i l =
    (l.out ≡ over 0 (tab (bit l.code) l.i) l.initial.out)
    × (length l.out ≡ length l.initial.out)
