-- The key stream of RFC 8439, 2.4, and data xored with it. Assumes nothing.
use Rattle.std.specs.Prelude.{ℕ, ◌/◌, ◌%◌, List, length, get_or}
use Rattle.std.specs.Int.Bits.{bit_xor}
use Rattle.base_algebra.specs.Word.{add}
use Rattle.base_words.specs.List.{tab}
use Rattle.base_words.specs.Bytes.{le32}
use Rattle.chacha20_lanes.specs.Lanes.{each}
use Rattle.chacha20_block.specs.ChaCha20.{start, block}

-- word i of the stream from a block on is a word of one of the blocks that follow, counted modulo 2^32
unfoldable pub key_word : List ℕ → ℕ → List ℕ → ℕ → ℕ
key_word key counter nonce i = get_or (block key (add counter (i / 16)) nonce) (i % 16) 0

-- byte j of the stream: the words are little-endian
unfoldable pub key_byte : List ℕ → ℕ → List ℕ → ℕ → ℕ
key_byte key counter nonce j = get_or (le32 (key_word key counter nonce (j / 4))) (j % 4) 0

-- the first n words of the stream from block 0 on
unfoldable pub stream : List ℕ → List ℕ → ℕ → List ℕ
stream key nonce n = tab (key_word key 0 nonce) n

-- 2.4: data xored with the stream from a block on, byte by byte
unfoldable pub xored : List ℕ → ℕ → List ℕ → List ℕ → List ℕ
xored key counter nonce d = tab (λ j. bit_xor (get_or d j 0) (key_byte key counter nonce j)) (length d)

-- so many blocks in a row: their starting states, and themselves
unfoldable pub starts : ℕ → List ℕ → ℕ → List ℕ → List (List ℕ)
starts m key n nonce = each (λ l. start key (add n l) nonce) m

unfoldable pub blocks_from : ℕ → List ℕ → ℕ → List ℕ → List (List ℕ)
blocks_from m key n nonce = each (λ l. block key (add n l) nonce) m
