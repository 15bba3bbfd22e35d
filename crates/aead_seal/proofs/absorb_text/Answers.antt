use Rattle.aead_seal.proofs.Tags.{text_law}
use Rattle.std.proofs.Common.{rules}
use Rattle.aead_seal.proofs.absorb_text.Goals as goal

pub returns : goal.returns
returns c =
    text_law c.args.text.now c.args.both.now _ _ _ (search rules) c.absorb_padded-b.ensures c.absorb_padded.ensures
