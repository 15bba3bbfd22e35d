use mathlib.Core.Path.{◌≡◌}
use lib.ListN.{take}
use Rattle.base_messages.specs.Messages.{printable}
use Rattle.base_messages.proofs.printable.Given as goal

abbrev pub invariant-loop-byte : goal.invariant-loop-byte
invariant-loop-byte l = l.all ≡ printable (take l.byte-index l.name)
