use Rattle.std.proofs.Common.{◌≡◌, take}
use Rattle.chacha20_x2.specs.Pair.{columns}
use Rattle.chacha20_x2.proofs.columns.Given as goal

abbrev pub invariant-loop-j : goal.invariant-loop-j
invariant-loop-j l = take 64 l.z ≡ columns l.j (take 64 l.initial.z)
