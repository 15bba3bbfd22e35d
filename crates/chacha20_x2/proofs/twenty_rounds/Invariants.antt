use Rattle.std.proofs.Common.{◌≡◌}
use Rattle.chacha20_rounds.specs.Rounds.{rounds}
use Rattle.chacha20_x2.specs.Pair.{half}
use Rattle.chacha20_x2.proofs.twenty_rounds.Given as goal

abbrev pub invariant-loop : goal.invariant-loop
invariant-loop l =
    (half 0 l.z ≡ rounds l.counter (half 0 l.initial.z)) × (half 4 l.z ≡ rounds l.counter (half 4 l.initial.z))
