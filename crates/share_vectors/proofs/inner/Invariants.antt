use mathlib.Core.Path.{◌≡◌}
use Rattle.share_vectors.specs.Share.{inner}
use Rattle.share_vectors.proofs.inner.Given as goal

abbrev pub invariant-loop-i : goal.invariant-loop-i
invariant-loop-i l = l.total ≡ inner l.i l.a l.b
