use mathlib.Core.Path.{◌≡◌}
use Prim.Native.Nat.{◌+◌}
use lib.Bits.{bit_xor}
use lib.ListN.{length, get_or}
use Rattle.base_words.specs.List.{over, tab}
use Rattle.chacha20_stream.proofs.xor_part.Given as goal

abbrev pub invariant-loop-i : goal.invariant-loop-i
invariant-loop-i l =
    (l.bytes ≡ over l.at (tab (λ i'. bit_xor (get_or l.initial.bytes (l.at + i') 0) (get_or l.b i' 0)) l.i)
    l.initial.bytes)
    × (length l.bytes ≡ length l.initial.bytes)
