use mathlib.Core.Path.{◌≡◌}
use Prim.Native.Nat.{◌*◌}
use lib.ListN.{length}
use Rattle.base_words.specs.List.{over}
use Rattle.half_layout.proofs.Stored.{front}
use Rattle.half_layout.proofs.store_corrections.Given as goal

abbrev pub invariant-loop-i : goal.invariant-loop-i
invariant-loop-i l = (length (front l.cs l.i) ≡ 37 * l.i) × (l.out ≡ over l.at (front l.cs l.i) l.initial.out)
