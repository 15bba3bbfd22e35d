use mathlib.Core.Path.{◌≡◌}
use lib.ListN.{length}
use Rattle.base_words.specs.List.{over}
use Rattle.base_words.specs.Bytes.{bytes_of}
use Rattle.chacha20_stream.proofs.Blocks.{laid}
use Rattle.chacha20_stream.proofs.store_lanes.Given as goal

abbrev pub invariant-loop-l : goal.invariant-loop-l
invariant-loop-l l =
    (l.b ≡ over 0 (bytes_of (laid 8 l.l l.x)) l.initial.b) × (length l.b ≡ length l.initial.b)
