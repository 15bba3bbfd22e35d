use mathlib.Core.Path.{◌≡◌, refl, sym, ap, ap₂, ◌∙◌}
use mathlib.Core.Bool.{true, false}
use Rattle.base_words.specs.List.{same}
use Rattle.chacha20_stream.specs.Keystream.{xored}
use Rattle.aead_seal.specs.Aead.{cipher, mac_data, tag_for, within, opens, opened_text}
use Rattle.poly1305_mac.specs.Poly1305.{mac}
use Rattle.aead_seal.proofs.Tags.{long_text, short_text}
use Rattle.aead_seal.proofs.open_by.Goals as goal

pub returns-then-text-gt-LIMIT-clause-value : goal.returns-then-text-gt-LIMIT-clause-value
unfolding opens opened_text
returns-then-text-gt-LIMIT-clause-value c =
    let long : within c.args.text.now ≡ false =
    long_text c.args.text.now c.if-text-gt-LIMIT.true in
    rw long refl

pub returns-then-text-gt-LIMIT-clause-text_after : goal.returns-then-text-gt-LIMIT-clause-text_after
unfolding opens opened_text
returns-then-text-gt-LIMIT-clause-text_after c =
    let long : within c.args.text.now ≡ false =
    long_text c.args.text.now c.if-text-gt-LIMIT.true in
    rw long refl

pub returns-then-equal : goal.returns-then-equal
unfolding opens opened_text cipher tag_for
returns-then-equal c =
    let a = c.args in
    let short : within a.text.now ≡ true = short_text a.text.now c.if-text-gt-LIMIT.false in
    let fits : same (tag_for a.key.now a.nonce.now a.aad.now a.text.now) a.tag.now ≡ true =
    ap (λ t. same t a.tag.now)
    (sym (c.tag_by-expected.ensures ∙ ap (λ k. mac k (mac_data a.aad.now a.text.now)) c.requires))
    ∙ sym c.equal.ensures ∙ c.if-equal.true in
    let done = c.xor.ensures ∙ ap₂ (λ k n. xored k 1 n a.text.now)
    c.key_words.ensures c.nonce_words.ensures in
    record { value = rw (short, fits) refl; text_after = rw (short, fits) done }

pub returns-else-equal : goal.returns-else-equal
unfolding opens opened_text tag_for
returns-else-equal c =
    let a = c.args in
    let short : within a.text.now ≡ true = short_text a.text.now c.if-text-gt-LIMIT.false in
    let fails : same (tag_for a.key.now a.nonce.now a.aad.now a.text.now) a.tag.now ≡ false =
    ap (λ t. same t a.tag.now)
    (sym (c.tag_by-expected.ensures ∙ ap (λ k. mac k (mac_data a.aad.now a.text.now)) c.requires))
    ∙ sym c.equal.ensures ∙ c.if-equal.false in
    record { value = rw (short, fails) refl; text_after = rw (short, fails) refl }
