use Rattle.std.proofs.Common.{length}
use Rattle.call_day.specs.Turns.{Tried}
use Rattle.call_day.proofs.Rows.first_bad_minute.Given as goal

abbrev pub invariant-loop-first : goal.invariant-loop-first
invariant-loop-first l = Tried l.self.firsts.now l.self.lasts.now (length l.yielded) l.lowest
