use Rattle.std.proofs.Common.{refl}
use Rattle.base_algebra.specs.Word.{add}
use Rattle.base_words.proofs.add.Goals as goal

pub returns : goal.returns
unfolding add
returns c = refl
