use mathlib.Core.Path.{refl}
use Rattle.base_words.specs.List.{over}
use Rattle.half_content.specs.Content.{correction_bytes}
use Rattle.half_layout.proofs.Stored.{correction_law}
use Rattle.std.proofs.Common.{rules}
use Rattle.half_layout.proofs.correction_bytes.Goals as goal

pub returns : goal.returns
unfolding over correction_bytes
returns c =
    correction_law _ _ _ _ _ _ _ (search rules) (search rules)
    c.store_all.ensures c.store.ensures refl
