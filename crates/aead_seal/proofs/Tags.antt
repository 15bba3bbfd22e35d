-- The one-time key, the lengths and the tag, as the code puts them together. Assumes nothing.
use mathlib.Core.Path.{◌≡◌, refl, sym, ap, ap₂, ◌∙◌}
use mathlib.Core.List.{List, [], ◌∷◌, ◌++◌, append_assoc}
use Prim.Native.Nat.{ℕ, ◌-◌, ◌*◌, ◌/◌, ◌%◌, ◌^◌, ◌<◌, ◌≤◌}
use native.Mathlib.Omega.{arith}
use mathlib.Core.Bool.{true, false}
use borrow.Author.Tests.{le-leb, lt-leb}
use lib.ListN.{length, take, replicate}
use Rattle.std.specs.Int.{w64, to_le_bytes}
use Rattle.std.proofs.Common.{shr-shr}
use Rattle.base_words.specs.Numbers.{bytes}
use Rattle.base_algebra.specs.Mod.{Mod}
use Rattle.base_words.specs.List.{over, over_all}
use Rattle.base_words.specs.Bytes.{le32, bytes_of, words_at}
use Rattle.chacha20_rounds.specs.declared.State.{State}
use Rattle.chacha20_rounds.specs.Rounds.{words}
use Rattle.chacha20_block.specs.ChaCha20.{block, block_bytes}
use Rattle.poly1305_limbs.specs.Limbs.{prime}
use Rattle.poly1305_mac.specs.Poly1305.{r_of, s_of, pieces, pad16, absorb_all, tag_of, mac}
use Rattle.poly1305_limbs.specs.Limbs.{value, words4, mod_prime}
use Rattle.poly1305_mac.specs.Laws.{absorb_all_then, pieces_append, padded_whole, padded_same, padded_then, value_zero}
use Rattle.poly1305_mac.specs.Laws.{mac_law}
use Rattle.aead_seal.specs.Aead.{poly_key, mac_data, within}

pub poly_key_law : (key nonce out t : List ℕ) (s : State)
    → words s ≡ block (words_at 8 key) 0 (words_at 3 nonce) → length out ≡ 32
    → t ≡ over 0 (bytes_of (s.x0 ∷ s.x1 ∷ s.x2 ∷ s.x3 ∷ s.x4 ∷ s.x5 ∷ s.x6 ∷ s.x7 ∷ [])) out
    → t ≡ poly_key key nonce
unfolding poly_key block_bytes bytes_of le32
poly_key_law key nonce out t s is size e =
    e ∙ over_all (take 32 (bytes_of (words s))) out (sym size) ∙ ap (λ (l : List ℕ). take 32 (bytes_of l)) is

le_bytes : (a : ℕ) → to_le_bytes w64 a ≡ bytes 8 a
unfolding bytes
le_bytes a =
    let s2 : a / 2 ^ 8 / 2 ^ 8 ≡ a / 2 ^ 16 = shr-shr a 8 8 in
    let s3 : a / 2 ^ 16 / 2 ^ 8 ≡ a / 2 ^ 24 = shr-shr a 16 8 in
    let s4 : a / 2 ^ 24 / 2 ^ 8 ≡ a / 2 ^ 32 = shr-shr a 24 8 in
    let s5 : a / 2 ^ 32 / 2 ^ 8 ≡ a / 2 ^ 40 = shr-shr a 32 8 in
    let s6 : a / 2 ^ 40 / 2 ^ 8 ≡ a / 2 ^ 48 = shr-shr a 40 8 in
    let s7 : a / 2 ^ 48 / 2 ^ 8 ≡ a / 2 ^ 56 = shr-shr a 48 8 in
    rw (s2, s3, s4, s5, s6, s7) refl

pub lengths_law : (a b : ℕ) (out t : List ℕ) → out ≡ over 0 (to_le_bytes w64 a) (replicate 16 0)
    → t ≡ over 8 (to_le_bytes w64 b) out → t ≡ bytes 8 a ++ bytes 8 b
unfolding over
lengths_law a b out t e f =
    f ∙ ap (over 8 (to_le_bytes w64 b)) e ∙ ap₂ (λ (x y : List ℕ). x ++ y) (le_bytes a) (le_bytes b)

-- a text and the lengths, taken one after the other
pub text_law : (text lens : List ℕ) (r h b : ℕ) {c : ℕ} → length lens ≡ 16
    → Mod prime b (absorb_all r h (pieces (text ++ pad16 text)))
    → Mod prime c (absorb_all r b (pieces (lens ++ pad16 lens)))
    → Mod prime c (absorb_all r h (pieces ((text ++ pad16 text) ++ lens)))
text_law text lens r h b size hb hc =
    let none : length lens % 16 ≡ 0 = omega arith in
    rw (padded_same lens none) at (padded_then r h b (text ++ pad16 text) lens (padded_whole text) hb hc)

pub tag_law : (k aad text lens r a c s t : List ℕ) → value r ≡ r_of k
    → words4 s ≡ s_of k → lens ≡ bytes 8 (length aad) ++ bytes 8 (length text)
    → Mod prime (value a) (absorb_all (value r) (value (0 ∷ 0 ∷ 0 ∷ 0 ∷ 0 ∷ [])) (pieces (aad ++ pad16 aad)))
    → Mod prime (value c) (absorb_all (value r) (value a) (pieces ((text ++ pad16 text) ++ lens)))
    → t ≡ tag_of (mod_prime (value c)) (words4 s) → t ≡ mac k (mac_data aad text)
unfolding mac_data
tag_law k aad text lens r a c s t hr hs hl ha hc ht =
    let A = aad ++ pad16 aad in
    let B = (text ++ pad16 text) ++ lens in
    let whole : A ++ B ≡ mac_data aad text = rw hl (simp append_assoc) in
    let cut : pieces A ++ pieces B ≡ pieces (mac_data aad text) =
    sym (ap pieces (sym whole) ∙ pieces_append A B (padded_whole aad)) in
    let after : Mod prime (value c) (absorb_all (value r) 0 (pieces A ++ pieces B)) =
    absorb_all_then (value r) 0 (value a) (pieces A) (pieces B) (rw value_zero at ha) hc in
    mac_law k (mac_data aad text) hr hs (rw cut at after) ht

-- a text that is too long
pub long_text : (text : List ℕ) → (2 ^ 32 - 1) * 64 < length text → within text ≡ false
unfolding within
long_text text h = lt-leb (length text) ((2 ^ 32 - 1) * 64) h

pub short_text : (text : List ℕ) → length text ≤ (2 ^ 32 - 1) * 64 → within text ≡ true
unfolding within
short_text text h = le-leb (length text) ((2 ^ 32 - 1) * 64) h
