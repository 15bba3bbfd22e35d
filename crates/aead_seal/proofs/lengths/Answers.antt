use Rattle.aead_seal.proofs.Tags.{lengths_law}
use Rattle.aead_seal.proofs.lengths.Goals as goal

pub returns : goal.returns
returns c =
    lengths_law c.args.a c.args.b _ _
    (rw c.to_le_bytes.ensures at c.copy.ensures) (rw c.to_le_bytes-2.ensures at c.copy-2.ensures)
