use mathlib.Core.Path.{refl, ap₂, ◌∙◌}
use Rattle.chacha20_block.specs.ChaCha20.{block}
use Rattle.aead_seal.proofs.Tags.{poly_key_law}
use Rattle.aead_seal.proofs.poly_key.Goals as goal

pub returns : goal.returns
returns c =
    let is = c.block-s.ensures
    ∙ ap₂ (λ k n. block k 0 n) c.key_words.ensures c.nonce_words.ensures in
    poly_key_law _ _ _ _ c.block-s.result is refl c.store_all.ensures
