use Rattle.call_party.proofs.Calls.{masked_law}
use mathlib.Core.Path.{refl}
use Rattle.call_party.proofs.masked_array.Goals as goal

pub returns : goal.returns
returns c =
    masked_law _ _ _ _ _ c.requires.0 refl c.add_vectors.ensures
