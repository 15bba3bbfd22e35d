use Rattle.std.proofs.Common.{arith}
use Rattle.base_words.specs.Bytes.{word_at}
use Rattle.base_slices.proofs.load.Goals as goal

pub returns : goal.returns
unfolding word_at
returns c = omega (arith, c.from_le_bytes.ensures)
