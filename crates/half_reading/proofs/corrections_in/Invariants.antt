use mathlib.Core.Path.{◌≡◌}
use mathlib.Core.List.{◌++◌}
use lib.ListN.{drop}
use Rattle.half_content.specs.Content.{corrections_in}
use Rattle.half_reading.proofs.corrections_in.Given as goal

abbrev pub invariant-loop-i : goal.invariant-loop-i
invariant-loop-i l = l.cs ≡ corrections_in l.f l.i ++ drop l.i l.initial.cs
