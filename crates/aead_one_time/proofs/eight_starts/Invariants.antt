use mathlib.Core.Path.{◌≡◌}
use Rattle.chacha20_lanes.specs.Lanes.{rows, up_to}
use Rattle.aead_one_time.specs.OneTime.{starts}
use Rattle.aead_one_time.proofs.eight_starts.Given as goal

abbrev pub invariant-loop-l : goal.invariant-loop-l
invariant-loop-l l = rows 8 l.x ≡ up_to l.l (starts 8 l.key l.a l.b l.first) (rows 8 l.initial.x)
