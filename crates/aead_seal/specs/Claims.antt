-- What the definitions of sealing and opening come to. Assumes nothing.
use Rattle.std.specs.Prelude.{◌≡◌, refl, Bool, true, false, ◌&&◌, List, ℕ, ◌-◌, ◌*◌, ◌^◌, ◌≤◌, T, leb, length, get_or}
use Rattle.std.proofs.Common.{sym, ap, ◌∙◌, subst, leb-true, le-leb}
use Rattle.std.specs.Int.Bits.{bit_xor}
use Rattle.base_words.specs.List.{same, same_eq, same_refl, tab, length_tab, get_or_tab, tab_ext, tab_get_or}
use Rattle.base_words.specs.Bytes.{words_at}
use Rattle.base_words.specs.Xor.{xor_twice}
use Rattle.chacha20_stream.specs.Keystream.{key_byte, xored}
use Rattle.aead_seal.specs.Aead.{cipher, tag_for, within, sealed, sealed_text, opens, opened_text}

pub length_cipher : (key nonce text : List ℕ) → length (cipher key nonce text) ≡ length text
unfolding cipher xored
length_cipher key nonce text =
    length_tab (λ j. bit_xor (get_or text j 0) (key_byte (words_at 8 key) 1 (words_at 3 nonce) j)) (length text)

-- encrypting twice gives the text back
pub cipher_twice : (key nonce text : List ℕ) → cipher key nonce (cipher key nonce text) ≡ text
unfolding cipher xored
cipher_twice key nonce text =
    let byte : ℕ → ℕ = key_byte (words_at 8 key) 1 (words_at 3 nonce) in
    let once : ℕ → ℕ = λ j. bit_xor (get_or text j 0) (byte j) in
    rw (length_cipher key nonce text)
    (tab_ext (λ j. bit_xor (get_or (tab once (length text)) j 0) (byte j)) (λ j. get_or text j 0) (length text)
    (λ j h. ap (λ x. bit_xor x (byte j)) (get_or_tab once (length text) j h) ∙ xor_twice (get_or text j 0) (byte j))
    ∙ tab_get_or text)

and_parts : (a b : Bool) → a && b ≡ true → (a ≡ true) × (b ≡ true)
and_parts true b h = (refl, h)
and_parts false b h = absurd (subst T (sym h) tt)

-- CLAIM open-iff: a text opens if and only if it is not too long and its tag is the one that sealing computes
pub opens_only : (key nonce aad text tag : List ℕ) → opens key nonce aad text tag ≡ true
    → (length text ≤ (2 ^ 32 - 1) * 64) × (tag ≡ tag_for key nonce aad text)
unfolding opens within
opens_only key nonce aad text tag h =
    let both = and_parts (leb (length text) ((2 ^ 32 - 1) * 64)) (same (tag_for key nonce aad text) tag) h in
    (leb-true (length text) ((2 ^ 32 - 1) * 64) both.0, sym (same_eq (tag_for key nonce aad text) tag both.1))

pub opens_if : (key nonce aad text tag : List ℕ) → length text ≤ (2 ^ 32 - 1) * 64 → tag ≡ tag_for key nonce aad text
    → opens key nonce aad text tag ≡ true
unfolding opens within
opens_if key nonce aad text tag h e =
    rw (le-leb (length text) ((2 ^ 32 - 1) * 64) h, e) (same_refl (tag_for key nonce aad text))

-- CLAIM open after seal: what was sealed opens, and gives the text back
pub open_after_seal : (key nonce aad text : List ℕ) → within text ≡ true
    → (opens key nonce aad (sealed_text key nonce text) (sealed key nonce aad text).tag ≡ true)
    × (opened_text key nonce aad (sealed_text key nonce text) (sealed key nonce aad text).tag ≡ text)
unfolding within sealed sealed_text opened_text
open_after_seal key nonce aad text h =
    let c = cipher key nonce text in
    let t = tag_for key nonce aad c in
    let short : length c ≤ (2 ^ 32 - 1) * 64 =
    rw (length_cipher key nonce text) (leb-true (length text) ((2 ^ 32 - 1) * 64) h) in
    let fits : opens key nonce aad c t ≡ true = opens_if key nonce aad c t short refl in
    rw h (fits, rw fits (cipher_twice key nonce text))
