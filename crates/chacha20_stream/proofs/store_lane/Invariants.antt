use mathlib.Core.Path.{◌≡◌}
use Prim.Native.Nat.{◌+◌, ◌*◌}
use lib.ListN.{length, get_or}
use Rattle.base_words.specs.List.{over, tab}
use Rattle.base_words.specs.Bytes.{bytes_of}
use Rattle.chacha20_stream.proofs.store_lane.Given as goal

abbrev pub invariant-loop-w : goal.invariant-loop-w
invariant-loop-w l =
    (l.b ≡ over l.at (bytes_of (tab (λ w'. get_or l.x (8 * w' + l.l) 0) l.w)) l.initial.b)
    × (length l.b ≡ length l.initial.b)
