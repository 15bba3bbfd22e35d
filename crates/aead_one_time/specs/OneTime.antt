-- The one-time keys of RFC 8439, 2.6, for nonces that differ in their last word. Assumes nothing.
use Rattle.std.specs.Prelude.{◌≡◌, List, [], ◌∷◌, ℕ, ◌*◌, ◌<◌, get_or, take, drop}
use Rattle.base_words.specs.List.{flat}
use Rattle.base_algebra.specs.Word.{add}
use Rattle.base_words.specs.Bytes.{bytes_of}
use Rattle.chacha20_lanes.specs.Lanes.{each, rows}
use Rattle.chacha20_block.specs.ChaCha20.{start}
use Rattle.aead_seal.specs.Aead.{poly_key}

-- the nonce of three words
unfoldable pub nonce_of : ℕ → ℕ → ℕ → List ℕ
nonce_of a b n = bytes_of (a ∷ b ∷ n ∷ [])

-- the keys for m nonces in a row, one after the other
unfoldable pub keys : ℕ → List ℕ → ℕ → ℕ → ℕ → List ℕ
keys m key a b first = flat (each (λ l. poly_key key (nonce_of a b (add first l))) m)

-- the starting states of their blocks, and the first eight words of each of m states, as bytes
unfoldable pub starts : ℕ → List ℕ → ℕ → ℕ → ℕ → List (List ℕ)
starts m key a b first = each (λ l. start key 0 (a ∷ b ∷ add first l ∷ [])) m

unfoldable pub firsts : ℕ → List ℕ → List ℕ
firsts m x = flat (each (λ l. bytes_of (take 8 (get_or (rows m x) l []))) m)

-- bytes that begin with the keys for the nonces a, b and 0 to count - 1
abbrev pub KeysTo : List ℕ → ℕ → ℕ → ℕ → List ℕ → Type 0
KeysTo key a b count r = (i : ℕ) → i < count → take 32 (drop (32 * i) r) ≡ poly_key key (nonce_of a b i)
