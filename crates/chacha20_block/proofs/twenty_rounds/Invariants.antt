use Rattle.std.proofs.Common.{◌≡◌}
use Rattle.chacha20_rounds.specs.Rounds.{words, rounds}
use Rattle.chacha20_block.proofs.twenty_rounds.Given as goal

abbrev pub invariant-loop : goal.invariant-loop
invariant-loop l = words l.t ≡ rounds l.counter (words l.initial.t)
