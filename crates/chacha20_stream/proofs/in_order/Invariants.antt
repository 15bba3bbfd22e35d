use mathlib.Core.Path.{◌≡◌}
use mathlib.Core.List.{◌++◌}
use Prim.Native.Nat.{◌+◌, ◌*◌, ◌/◌, ◌%◌}
use lib.ListN.{length, drop, get_or}
use Rattle.base_words.specs.List.{tab}
use Rattle.chacha20_stream.proofs.in_order.Given as goal

abbrev pub invariant-loop-i : goal.invariant-loop-i
invariant-loop-i l =
    (l.k ≡ tab (λ j. get_or l.x (4 * (j % 16) + j / 16) 0) l.i ++ drop l.i l.initial.k)
    × (length l.k ≡ length l.initial.k)
