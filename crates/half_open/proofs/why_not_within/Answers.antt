use mathlib.Core.Path.{refl}
use native.Mathlib.Omega.{arith}
use lib.Seq.{length-take-le}
use Rattle.half_open.proofs.Whole.{at_front}
use Rattle.std.proofs.Common.{rules}
use Rattle.half_open.proofs.why_not_within.Goals as goal

pub slice_bounds-why_not_opened-end : goal.slice_bounds-why_not_opened-end
slice_bounds-why_not_opened-end c = omega arith

pub why_not_opened-requires : goal.why_not_opened-requires
why_not_opened-requires c =
    (c.requires.0, c.requires.1, length-take-le _ _ (search rules))

pub returns-clause-room_after : goal.returns-clause-room_after
returns-clause-room_after c = (refl, at_front _ _ _ _ c.in_ok-why_not_opened.ensures.text_after)
