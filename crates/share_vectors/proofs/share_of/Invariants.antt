use Rattle.share_vectors.specs.Share.{share}
use mathlib.Core.Path.{◌≡◌}
use Rattle.share_vectors.proofs.share_of.Given as goal

abbrev pub invariant-loop-i : goal.invariant-loop-i
invariant-loop-i l = l.total ≡ share l.party l.i l.c l.mx l.my l.sx l.sy
