use Rattle.std.proofs.Common.{◌≡◌, ◌+◌, refl, ap, ◌∙◌, add-one, arith}
use Rattle.chacha20_rounds.specs.Rounds.{quarter_at}
use Rattle.chacha20_x2.specs.Pair.{columns}
use Rattle.chacha20_x2.proofs.columns.Goals as goal

pub loop-j-init : goal.loop-j-init
unfolding columns
loop-j-init c = refl

pub loop-j-preserved : goal.loop-j-preserved
unfolding columns
loop-j-preserved c =
    let j = c.loop-j.j in
    rw (add-one j) (c.quarter_at.ensures ∙ ap (quarter_at j (16 + j) (32 + j) (48 + j)) c.loop-j.invariant)

pub returns : goal.returns
returns c = let done : c.loop-j.j ≡ 8 = omega arith in rw done at c.loop-j.invariant
