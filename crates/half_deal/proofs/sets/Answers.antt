use mathlib.Core.Path.{sym}
use Prim.Native.Nat.{◌+◌, ◌*◌}
use native.Mathlib.Omega.{arith}
use lib.Seq.{length-take-le}
use Rattle.half_deal.specs.Dealing.{dealt_set}
use Rattle.std.proofs.Common.{rules}
use Rattle.half_deal.proofs.sets.Goals as goal

pub slice_bounds-sets_from-end : goal.slice_bounds-sets_from-end
slice_bounds-sets_from-end c = sym (length-take-le _ _ (search rules))

pub sets_from-requires : goal.sets_from-requires
sets_from-requires c =
    let end = 4 * c.args.terms.n + 19 in
    (search rules, omega (arith, length-take-le end c.draw-w.result (search rules)))

pub returns : goal.returns
unfolding dealt_set
returns c =
    rw c.draw-w.ensures at (c.sets_from.ensures c.args.seed.now)
