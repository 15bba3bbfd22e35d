use mathlib.Core.Path.{ap, ◌∙◌}
use Rattle.base_words.specs.Bytes.{words_at}
use Rattle.half_reading.proofs.seed_in.Goals as goal

pub returns : goal.returns
returns c = c.key_words.ensures ∙ ap (words_at 8) c.bytes_32.ensures
