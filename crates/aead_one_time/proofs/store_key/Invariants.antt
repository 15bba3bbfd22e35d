use mathlib.Core.Path.{◌≡◌}
use Prim.Native.Nat.{◌+◌, ◌*◌}
use lib.ListN.{length, get_or}
use Rattle.base_words.specs.List.{over, tab}
use Rattle.base_words.specs.Bytes.{bytes_of}
use Rattle.aead_one_time.proofs.store_key.Given as goal

abbrev pub invariant-loop-w : goal.invariant-loop-w
invariant-loop-w l =
    (l.out ≡ over l.at (bytes_of (tab (λ i. get_or l.x (8 * i + l.l) 0) l.w)) l.initial.out)
    × (length l.out ≡ length l.initial.out)
