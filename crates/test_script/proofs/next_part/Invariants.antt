use mathlib.Core.Path.{◌≡◌}
use Prim.Native.Nat.{◌≤◌, ◌<◌, ℕ}
use lib.ListN.{get_or}
use Rattle.test_script.proofs.next_part.Given as goal

abbrev pub invariant-loop-end : goal.invariant-loop-end
invariant-loop-end l = (k : ℕ) → k < l.end → l.start ≤ k → get_or l.text k 0 ≡ l.mark → ⊥
