use mathlib.Core.Path.{◌≡◌}
use lib.ListN.{length}
use Rattle.base_words.specs.List.{over}
use Rattle.chacha20_stream.proofs.Blocks.{laid}
use Rattle.chacha20_stream.proofs.put_lanes.Given as goal

abbrev pub invariant-loop-l : goal.invariant-loop-l
invariant-loop-l l =
    (l.out ≡ over l.at (laid 8 l.l l.x) l.initial.out) × (length l.out ≡ length l.initial.out)
