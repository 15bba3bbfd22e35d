-- The block function of RFC 8439, 2.3, on words, and on bytes. Assumes nothing.
use Rattle.std.specs.Prelude.{◌≡◌, ℕ, List, ◌∷◌, ◌++◌, length}
use Rattle.std.proofs.Common.{◌∙◌, arith, length-append}
use Rattle.base_words.specs.Bytes.{bytes_of, words_at}
use Rattle.chacha20_rounds.specs.Rounds.{block_from, length_block_from}

-- 2.3: the state at the start: four constants, the key, the block count, the nonce
unfoldable pub start : List ℕ → ℕ → List ℕ → List ℕ
start key counter nonce = 0x61707865 ∷ 0x3320646e ∷ 0x79622d32 ∷ 0x6b206574 ∷ (key ++ (counter ∷ nonce))

-- 2.3: the block function, as words
unfoldable pub block : List ℕ → ℕ → List ℕ → List ℕ
block key counter nonce = block_from (start key counter nonce)

-- 2.3: the block function from a key of 32 bytes and a nonce of 12, as the 64 bytes of its words
unfoldable pub block_bytes : List ℕ → ℕ → List ℕ → List ℕ
block_bytes key counter nonce = bytes_of (block (words_at 8 key) counter (words_at 3 nonce))

-- ---- how long it is

pub length_block : (key : List ℕ) (counter : ℕ) (nonce : List ℕ) → length key ≡ 8 → length nonce ≡ 3
    → length (block key counter nonce) ≡ 16
unfolding block start
length_block key counter nonce k n =
    length_block_from (start key counter nonce) ∙ omega (arith, length-append key (counter ∷ nonce))
