use Rattle.measure_margin.specs.Laws.{quotient_none}
use Rattle.std.proofs.Common.{ne_eqb, rules}
use Rattle.measure_margin.specs.Claims.{quotient}
use Rattle.measure_margin.proofs.quotient.Goals as goal

pub returns-then-s-eq0 : goal.returns-then-s-eq0
returns-then-s-eq0 c = quotient_none _ _ (search rules)

pub returns : goal.returns
unfolding quotient
returns c = rw (ne_eqb _ _ c.if-s-eq0.false) c.min.ensures
