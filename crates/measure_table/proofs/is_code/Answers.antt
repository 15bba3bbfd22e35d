use Rattle.measure_table.specs.Measure.{is_code}
use Rattle.std.proofs.Common.{rules}
use Rattle.measure_table.proofs.is_code.Goals as goal

pub returns : goal.returns
unfolding is_code
returns c = search rules
