use native.Mathlib.Omega.{arith}
use mathlib.Core.Path.{refl}
use Rattle.measure_iris.specs.Iris.{bit}
use Rattle.measure_iris.proofs.bit.Goals as goal

pub returns : goal.returns
unfolding bit
returns c = (refl, omega arith)
