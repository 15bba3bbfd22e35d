use mathlib.Core.Path.{sym, ◌∙◌}
use Rattle.call_day.specs.Turns.{lower_bad, lower_good, lower_past}
use Rattle.call_day.proofs.Rows.lower.Goals as goal

pub returns-then-with-ne1 : goal.returns-then-with-ne1
returns-then-with-ne1 c =
    lower_bad _ _ c.if-minute-lowest.true (λ e. c.if-with-ne1.true (c.with.ensures ∙ e))

pub returns-else-with-ne1 : goal.returns-else-with-ne1
returns-else-with-ne1 c =
    lower_good _ _ c.if-minute-lowest.true (sym c.with.ensures ∙ c.if-with-ne1.false)

pub returns-else-minute-lowest : goal.returns-else-minute-lowest
returns-else-minute-lowest c = lower_past _ _ c.if-minute-lowest.false
