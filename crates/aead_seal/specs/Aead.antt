-- The AEAD of RFC 8439, 2.6 and 2.8, on lists of bytes. Assumes nothing.
use Rattle.std.specs.Prelude.{Bool, Option, Some, None}
use Rattle.std.specs.Prelude.{◌&&◌, cond, List, ◌++◌, ℕ, ◌-◌, ◌*◌, ◌^◌, leb, length, take, replicate}
use Rattle.base_words.specs.Numbers.{bytes}
use Rattle.base_words.specs.List.{same}
use Rattle.base_words.specs.Bytes.{words_at}
use Rattle.chacha20_block.specs.ChaCha20.{block_bytes}
use Rattle.chacha20_stream.specs.Keystream.{xored}
use Rattle.poly1305_mac.specs.Poly1305.{pad16, mac}

-- 2.6: the one-time key is the first 32 bytes of block 0
unfoldable pub poly_key : List ℕ → List ℕ → List ℕ
poly_key key nonce = take 32 (block_bytes key 0 nonce)

-- 2.8: the text is encrypted from block 1 on; decryption is the same
unfoldable pub cipher : List ℕ → List ℕ → List ℕ → List ℕ
cipher key nonce text = xored (words_at 8 key) 1 (words_at 3 nonce) text

-- 2.8: what the tag is made of: both padded to 16 bytes, and their lengths
unfoldable pub mac_data : List ℕ → List ℕ → List ℕ
mac_data aad text = aad ++ pad16 aad ++ text ++ pad16 text ++ bytes 8 (length aad) ++ bytes 8 (length text)

-- 2.8: the tag of additional data and a ciphertext
unfoldable pub tag_for : List ℕ → List ℕ → List ℕ → List ℕ → List ℕ
tag_for key nonce aad text = mac (poly_key key nonce) (mac_data aad text)

-- 2.8: P_MAX, 2^32 - 1 blocks
unfoldable pub within : List ℕ → Bool
within text = leb (length text) ((2 ^ 32 - 1) * 64)

-- what sealing gives, and what it leaves of the text: `ok` is whether the text was sealed; where it was not, it is
-- too long, and the tag is zeros
pub record Sealed : Type 0 where
  pub ok : Bool
  pub tag : List ℕ

unfoldable pub sealed : List ℕ → List ℕ → List ℕ → List ℕ → Sealed
sealed key nonce aad text = record {
  ok = within text;
  tag = cond (within text) (tag_for key nonce aad (cipher key nonce text)) (replicate 16 0);
}

-- what code hands on of it: the tag, and none where the text was not sealed
abbrev pub handed : Sealed → Option (List ℕ)
handed s = cond s.ok (Some s.tag) None

unfoldable pub sealed_text : List ℕ → List ℕ → List ℕ → List ℕ
sealed_text key nonce text = cond (within text) (cipher key nonce text) text

-- whether a ciphertext opens: the tag is the one that sealing computes
unfoldable pub opens : List ℕ → List ℕ → List ℕ → List ℕ → List ℕ → Bool
opens key nonce aad text tag = within text && same (tag_for key nonce aad text) tag

-- what opening leaves of the text
unfoldable pub opened_text : List ℕ → List ℕ → List ℕ → List ℕ → List ℕ → List ℕ
opened_text key nonce aad text tag = cond (opens key nonce aad text tag) (cipher key nonce text) text
