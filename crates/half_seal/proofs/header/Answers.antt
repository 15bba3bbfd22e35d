use mathlib.Core.Path.{refl}
use Rattle.half_seal.proofs.Laws.{header_law}
use Rattle.half_seal.proofs.header.Goals as goal

pub returns : goal.returns
returns c =
    header_law _ _ _ _ _ _ c.low.ensures c.high.ensures refl c.store_all.ensures
