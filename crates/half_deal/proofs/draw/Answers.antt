use mathlib.Core.Path.{sym}
use native.Mathlib.Omega.{arith}
use lib.Seq.{length-take-le}
use Rattle.half_deal.proofs.Laws.{zeros, draw_law}
use Rattle.half_deal.proofs.draw.Goals as goal

pub slice_bounds-stream-end : goal.slice_bounds-stream-end
slice_bounds-stream-end c = sym (length-take-le _ (zeros 2067) (omega arith))

pub returns : goal.returns
returns c =
    draw_law _ _ (zeros 2067) _ _ (omega arith)
    c.key_words.ensures c.stream.ensures
