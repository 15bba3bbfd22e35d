use mathlib.Core.Path.{sym}
use native.Mathlib.Omega.{arith}
use lib.Seq.{length-take-le}
use Rattle.half_reading.proofs.Read.{read_correction}
use Rattle.half_reading.proofs.correction_in.Goals as goal

pub slice_bounds-seed_in-end : goal.slice_bounds-seed_in-end
slice_bounds-seed_in-end c = sym (length-take-le 32 c.args.c.now (omega arith))

pub returns : goal.returns
returns c = read_correction c.args.c.now _ _ _ c.requires c.seed_in.ensures c.load.ensures c.from.ensures
