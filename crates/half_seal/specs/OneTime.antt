-- The one-time keys of a set's blocks, as sealing and opening hand them on. Assumes nothing.
use Rattle.std.specs.Prelude.{◌≡◌, List, ◌++◌, ℕ, ◌*◌, ◌/◌, ◌%◌, ◌^◌, ◌<◌, take, drop}
use Rattle.std.proofs.Common.{ap, ap₂, ◌∙◌}
use Rattle.base_words.specs.Numbers.{eight, four}
use Rattle.base_words.specs.Bytes.{le32, bytes_of}
use Rattle.aead_seal.specs.Aead.{poly_key}
use Rattle.aead_one_time.specs.OneTime.{nonce_of, KeysTo}
use Rattle.half_seal.specs.Half.{header}

-- 32 bytes a block
abbrev pub KeysFor : List ℕ → ℕ → ℕ → List ℕ → Type 0
KeysFor key set count r = (i : ℕ) → i < count → take 32 (drop (32 * i) r) ≡ poly_key key (header set i)

-- a block's header is the nonce of the number's two words and its index
pub header_words : (set i : ℕ) → nonce_of (set % 2 ^ 32) (set / 2 ^ 32) i ≡ header set i
unfolding nonce_of bytes_of le32 header
header_words set i = ap₂ (λ (x y : List ℕ). x ++ y) (eight set) (four i)

pub keys_for : (key r : List ℕ) (set count x y : ℕ) → x ≡ set % 2 ^ 32 → y ≡ set / 2 ^ 32 → KeysTo key x y count r
    → KeysFor key set count r
keys_for key r set count x y ex ey h i l =
    h i l ∙ ap (poly_key key) ((λ j. nonce_of (ex j) (ey j) i) ∙ header_words set i)
