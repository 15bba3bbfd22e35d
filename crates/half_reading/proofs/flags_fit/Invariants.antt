use mathlib.Core.Path.{◌≡◌}
use Rattle.half_content.specs.Content.{flags_fit, corrections_in}
use Rattle.half_reading.proofs.flags_fit.Given as goal

abbrev pub invariant-loop-i : goal.invariant-loop-i
invariant-loop-i l = l.all ≡ flags_fit (corrections_in l.f l.i)
