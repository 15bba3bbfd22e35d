use mathlib.Core.Path.{◌≡◌}
use lib.ListN.{take}
use Rattle.half_content.specs.Content.{zeros}
use Rattle.half_reading.proofs.all_zero.Given as goal

abbrev pub invariant-loop-x : goal.invariant-loop-x
invariant-loop-x l = l.all ≡ zeros (take l.x-index l.b)
