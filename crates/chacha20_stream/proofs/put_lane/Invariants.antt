use mathlib.Core.Path.{◌≡◌}
use Prim.Native.Nat.{◌+◌, ◌*◌}
use lib.ListN.{length, get_or}
use Rattle.base_words.specs.List.{over, tab}
use Rattle.chacha20_stream.proofs.put_lane.Given as goal

abbrev pub invariant-loop-w : goal.invariant-loop-w
invariant-loop-w l =
    (l.out ≡ over l.at (tab (λ w'. get_or l.x (8 * w' + l.l) 0) l.w) l.initial.out)
    × (length l.out ≡ length l.initial.out)
