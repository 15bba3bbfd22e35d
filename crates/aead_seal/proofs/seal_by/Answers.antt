use mathlib.Core.Path.{◌≡◌, refl, ap, ap₂, ◌∙◌}
use mathlib.Core.Bool.{true, false}
use Rattle.std.specs.Prelude.{Some}
use Rattle.chacha20_stream.specs.Keystream.{xored}
use Rattle.aead_seal.specs.Aead.{cipher, mac_data, tag_for, within, sealed, sealed_text}
use Rattle.poly1305_mac.specs.Poly1305.{mac}
use Rattle.aead_seal.proofs.Tags.{long_text, short_text}
use Rattle.aead_seal.proofs.seal_by.Goals as goal

pub returns-then-text-gt-LIMIT-clause-value : goal.returns-then-text-gt-LIMIT-clause-value
unfolding sealed sealed_text
returns-then-text-gt-LIMIT-clause-value c =
    let long : within c.args.text.now ≡ false =
    long_text c.args.text.now c.if-text-gt-LIMIT.true in
    rw long refl

pub returns-then-text-gt-LIMIT-clause-text_after : goal.returns-then-text-gt-LIMIT-clause-text_after
unfolding sealed sealed_text
returns-then-text-gt-LIMIT-clause-text_after c =
    let long : within c.args.text.now ≡ false =
    long_text c.args.text.now c.if-text-gt-LIMIT.true in
    rw long refl

pub returns-clause-value : goal.returns-clause-value
unfolding sealed sealed_text cipher tag_for
returns-clause-value c =
    let args = c.args in
    let short : within args.text.now ≡ true = short_text args.text.now c.if-text-gt-LIMIT.false in
    let done = c.xor.ensures ∙ ap₂ (λ k n. xored k 1 n args.text.now)
    c.key_words.ensures c.nonce_words.ensures in
    let tag = c.tag_by-tag.ensures ∙ ap₂ (λ k t. mac k (mac_data args.aad.now t)) c.requires done in
    rw short (ap (λ t. Some t) tag)

pub returns-clause-text_after : goal.returns-clause-text_after
unfolding sealed sealed_text cipher tag_for
returns-clause-text_after c =
    let args = c.args in
    let short : within args.text.now ≡ true = short_text args.text.now c.if-text-gt-LIMIT.false in
    let done = c.xor.ensures ∙ ap₂ (λ k n. xored k 1 n args.text.now)
    c.key_words.ensures c.nonce_words.ensures in
    rw short done
