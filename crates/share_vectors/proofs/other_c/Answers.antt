use mathlib.Core.Path.{◌∙◌, ap}
use Rattle.base_algebra.specs.Word.{sub}
use Rattle.share_vectors.specs.Share.{other_c}
use Rattle.share_vectors.proofs.other_c.Goals as goal

pub returns : goal.returns
unfolding other_c
returns c = c.sub.ensures ∙ ap (λ y. sub y c.args.c0) c.inner.ensures
