use mathlib.Core.Path.{ap₂, ◌∙◌}
use lib.ListN.{length}
use Rattle.chacha20_stream.specs.Keystream.{stream}
use Rattle.bench_cipher.proofs.cipher_stream.Goals as goal

pub returns : goal.returns
returns c =
    c.stream.ensures
    ∙ ap₂ (λ k n. stream k n (length c.args.out.now))
    c.key_words.ensures c.nonce_words.ensures
