use mathlib.Core.Path.{◌≡◌}
use Prim.Native.Nat.{◌≤◌}
use Rattle.call_day.specs.Search.{count}
use Rattle.call_day.specs.Table.{holds}
use Rattle.call_day.proofs.Rows.with.Given as goal

abbrev pub invariant-loop-i : goal.invariant-loop-i
invariant-loop-i l = (l.n ≡ count (holds l.self.firsts.now l.self.lasts.now l.minute) l.i) × (l.n ≤ l.i)
