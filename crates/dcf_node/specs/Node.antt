-- 01, "Node", "Key for a point" and "Value of a key at u", over ChaCha20 blocks and 32 levels: what the contracts of
-- key making and walking cite. A seed of 32 bytes is its eight words. Assumes nothing. [SPEC 6.1, 7.14, 8.7]
use Rattle.std.specs.Prelude.{◌≡◌, refl, List, [], ◌∷◌, ◌++◌, ℕ, zero, suc, ◌+◌, ◌*◌, ◌/◌, length, get_or, take}
use Rattle.base_algebra.specs.Bit.{only, odd}
use Rattle.base_words.specs.Xor.{xors}
use Rattle.chacha20_block.specs.ChaCha20.{block}
use Rattle.dcf_function.specs.Dcf as D
use Rattle.dcf_node.specs.declared.Correction.{Correction}
use Rattle.dcf_node.specs.declared.Key.{Key}
use Rattle.dcf_node.specs.declared.Walk.{Walk}

-- "Bytes 0 to 31 are the child seed, 32 to 35 its word v, the lowest bit of byte 36 its flag": words 0 to 7, word 8,
-- and the lowest bit of word 9 [SPEC 6.3 to 6.6]
unfoldable pub child : List ℕ → D.Child (List ℕ)
child b = record { seed = take 8 b; word = get_or b 8 0; flag = odd (get_or b 9 0) }

-- the three words of the nonce under which a node is opened into children of this level: "nonce bytes 4 to 7 hold the
-- level as a little-endian word, 1 for the root's children up to 32" (02, §3), and 01's zeros elsewhere. In bytes:
-- Nonce.`nonce_bytes` [SPEC 6.7, 6.8]
unfoldable pub node_nonce : ℕ → List ℕ
node_nonce level = 0 ∷ level ∷ 0 ∷ []

-- what the claims above know of it
pub length_nonce : (level : ℕ) → length (node_nonce level) ≡ 3
unfolding node_nonce
length_nonce level = refl

-- "the ChaCha20 block under that seed", at a counter, off which a child of this level is read [SPEC 6.2]
unfoldable pub opened_block : ℕ → List ℕ → ℕ → List ℕ
opened_block level seed counter = block seed counter (node_nonce level)

-- "counter 0 for left and 1 for right". The comparison function counts openings from 0, the root's: i gives level i + 1
unfoldable pub node : ℕ → List ℕ → D.Opened (List ℕ)
node i seed side = child (opened_block (i + 1) seed (only side 1))

-- "the first word of the seed" [SPEC 7.13, 8.6]
unfoldable pub first : List ℕ → ℕ
first seed = get_or seed 0 0

-- a correction as it is stored: of its flags bit 0 is the left one, bit 1 the right one ("The sealed half") [SPEC 9.3]
unfoldable pub packed : D.Correction (List ℕ) → Correction
packed c = record { seed = c.seed; word = c.word; flags = only c.left 1 + 2 * only c.right 1 }

unfoldable pub unpacked : Correction → D.Correction (List ℕ)
unpacked c = record { seed = c.seed; word = c.word; left = odd c.flags; right = odd (c.flags / 2) }

-- the first n corrections of the key for a point
unfoldable pub corrections : List ℕ → List ℕ → ℕ → ℕ → List Correction
corrections k0 k1 point zero = []
corrections k0 k1 point (suc n) =
    corrections k0 k1 point n ++ (packed (D.key_correction xors node first k0 k1 (D.bits 32 point) n) ∷ [])

-- the key for a point, from the key seeds of party 0 and 1
unfoldable pub key_for : List ℕ → List ℕ → ℕ → Key
key_for k0 k1 point =
    record { corrections = corrections k0 k1 point 32; last = D.final_word xors node first k0 k1 (D.bits 32 point) 32 }

abbrev pub none : Correction
none = record { seed = []; word = 0; flags = 0 }

unfoldable pub correction_at : List Correction → ℕ → D.Correction (List ℕ)
correction_at l i = unpacked (get_or l i none)

-- a party's walk as code has it: only the lowest bit of its flag counts
unfoldable pub as_walk : Walk → D.Walk (List ℕ)
as_walk w = record { seed = w.seed; flag = odd w.flag; total = w.total }

-- the walk of the party whose number is p, i levels deep
unfoldable pub walk_of : ℕ → Key → List ℕ → ℕ → ℕ → D.Walk (List ℕ)
walk_of p key seed u i = D.walk xors node first (correction_at key.corrections) (D.bits 32 u) seed (odd p) i

-- the value of the key at u, for the party whose number is p and whose key seed is `seed`
unfoldable pub value_at : ℕ → Key → List ℕ → ℕ → ℕ
value_at p key seed u =
    D.value xors node first (odd p) (correction_at key.corrections) key.last seed (D.bits 32 u) 32
