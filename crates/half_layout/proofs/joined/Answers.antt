use mathlib.Core.Path.{refl}
use Rattle.std.proofs.Common.{rules}
use lib.Seq.{length-take-le}
use native.Mathlib.Omega.{arith}
use Rattle.half_content.specs.Content.{widths, sum_first, offset}
use Rattle.half_layout.proofs.Stored.{joined_law}
use Rattle.half_layout.proofs.joined.Goals as goal

pub store_all-requires-2 : goal.store_all-requires-2
unfolding offset widths sum_first
store_all-requires-2 c = omega (arith, length-take-le c.args.s.now.terms.n c.args.s.now.x (search rules))

pub store_all-requires-3 : goal.store_all-requires-3
unfolding offset widths sum_first
store_all-requires-3 c = omega (arith, length-take-le c.args.s.now.terms.n c.args.s.now.y (search rules))

pub copy-requires-2 : goal.copy-requires-2
unfolding offset widths sum_first
copy-requires-2 c = omega arith

pub returns : goal.returns
returns c =
    let s = c.args.s.now in
    joined_law s.terms.n c.args.h.now s.mask s.x s.y c.args.t.now _ _ _ _ _ _ c.requires
    (search rules) (search rules) (search rules) (search rules) (search rules) refl
    _ _ _ c.x_at.ensures c.y_at.ensures c.c_at.ensures c.copy.ensures c.store_all.ensures c.store_all-2.ensures
    c.store_all-3.ensures c.copy-2.ensures
