use mathlib.Core.Path.{refl}
use Rattle.base_words.specs.Numbers.{bytes}
use Rattle.base_words.specs.List.{over}
use Rattle.half_layout.proofs.Stored.{head_law}
use Rattle.std.proofs.Common.{rules}
use Rattle.half_layout.proofs.head.Goals as goal

pub returns : goal.returns
unfolding over bytes
returns c =
    head_law c.args.name.now _ _ _ _ _ _ (search rules) (search rules) c.copy.ensures
    (rw c.to_le_bytes.ensures refl)
