use Rattle.std.proofs.Common.{◌≡◌, arith}
use Rattle.chacha20_x2.specs.Pair.{left_by}
use Rattle.chacha20_x2.proofs.turned.Goals as goal

pub returns-in-1 : goal.returns-in-1
unfolding left_by
returns-in-1 c = rw c.in-1.is c.row.ensures

pub returns-in-2 : goal.returns-in-2
unfolding left_by
returns-in-2 c = rw c.in-2.is c.row-in-2.ensures

pub returns-in_default : goal.returns-in_default
unfolding left_by
returns-in_default c = let three : c.args.by ≡ 3 = omega arith in rw three c.row-in_default.ensures
