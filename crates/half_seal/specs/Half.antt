-- A half as blocks (01, "The sealed half"), and why one is turned down (01, "When a call is turned down", 4, 7, 10 and
-- 11), at a load and at a trial (02, §7). Assumes nothing. [SPEC 10.1, 10.2, 10.6, 23.4, 23.7, 23.10, 23.11]
use Rattle.std.specs.Prelude.{Bool, true, ◌&&◌, List, [], ◌++◌, ℕ, zero, suc, ◌+◌, ◌*◌, ◌/◌, ◌%◌, eqb, leb, ltb, length}
use Rattle.base_words.specs.Numbers.{bytes, number}
use Rattle.aead_seal.specs.Aead.{cipher, tag_for, opens}
use Rattle.base_messages.specs.Messages.{wrong_length, wrong_number, bad_block, bad_content, unless}
use Rattle.half_content.specs.declared.Set.{Set}
use Rattle.half_content.specs.Content.{block_bytes, text_bytes, most_blocks, part, block_count, plain, name_field}
use Rattle.half_content.specs.Content.{field}
use Rattle.half_content.specs.Content.{set_in, content_fits}

-- "A block is 512 bytes: set number (8, little-endian), block index from 0 (4, little-endian), 484 sealed bytes, tag
-- (16). Sealing is RFC 8439's ChaCha20-Poly1305 under the box's key, with the first twelve bytes as nonce and as
-- additional data" [SPEC 10.1, 10.3, 10.4]
unfoldable pub header : ℕ → ℕ → List ℕ
header set i = bytes 8 set ++ bytes 4 i

unfoldable pub block : List ℕ → ℕ → ℕ → List ℕ → List ℕ
block key set i text =
    let h : List ℕ = header set i in
    let t : List ℕ = cipher key h text in
    h ++ (t ++ tag_for key h h t)

-- the text of block i of plain content p
abbrev pub text_at : List ℕ → ℕ → List ℕ
text_at p i = part (text_bytes * i) text_bytes p

-- its first i blocks
unfoldable pub first_blocks : List ℕ → ℕ → List ℕ → ℕ → List ℕ
first_blocks key set p zero = []
first_blocks key set p (suc i) = first_blocks key set p i ++ block key set i (text_at p i)

-- a party's half of a set, under the box's key and the padded name
unfoldable pub half : List ℕ → List ℕ → ℕ → Set → List ℕ
half key name party s = first_blocks key s.number (plain name party s) (block_count s.terms.n)

-- ---- what a half handed in holds

unfoldable pub block_at : List ℕ → ℕ → List ℕ
block_at h i = part (block_bytes * i) block_bytes h

-- "load by block 0's number" [SPEC 15.2, 23.7]
unfoldable pub set_number : List ℕ → ℕ
set_number h = number (part 0 8 h)

-- "A block's index is not its place, its number differs from block 0's, or its tag doesn't fit" [SPEC 23.10]
unfoldable pub block_fits : List ℕ → ℕ → ℕ → List ℕ → Bool
block_fits key set i b =
    let h : List ℕ = part 0 12 b in
    eqb (number (part 8 4 b)) i
    && (eqb (number (part 0 8 b)) set && opens key h h (part 12 text_bytes b) (part (12 + text_bytes) 16 b))

unfoldable pub first_fit : List ℕ → List ℕ → ℕ → Bool
first_fit key h zero = true
first_fit key h (suc i) = first_fit key h i && block_fits key (set_number h) i (block_at h i)

-- what a block opens to, and what its first i blocks do
abbrev pub text_in : List ℕ → List ℕ → List ℕ
text_in key b = cipher key (part 0 12 b) (part 12 text_bytes b)

unfoldable pub opened_blocks : List ℕ → List ℕ → ℕ → List ℕ
opened_blocks key h zero = []
opened_blocks key h (suc i) = opened_blocks key h i ++ text_in key (block_at h i)

-- what all of its blocks open to: the plain content, where it is whole blocks and each of them fits
abbrev pub opened_content : List ℕ → List ℕ → List ℕ
opened_content key h = opened_blocks key h (length h / block_bytes)

-- "a half 3 to 16 whole blocks" [SPEC 23.4]
unfoldable pub whole_blocks : List ℕ → Bool
whole_blocks h =
    eqb (length h % block_bytes) 0 && (leb 3 (length h / block_bytes) && leb (length h / block_bytes) most_blocks)

-- why whole blocks are turned down, at a box of this key, padded name and party: 10 and 11; 0 if they are not
unfoldable pub why_not_opened : List ℕ → List ℕ → ℕ → List ℕ → ℕ
why_not_opened key name party h =
    let count : ℕ = length h / block_bytes in
    unless (first_fit key h count) bad_block
    (unless (content_fits name party count (opened_content key h)) bad_content 0)

-- why a half is turned down where its number has to be above `last`
unfoldable pub why_not : List ℕ → List ℕ → ℕ → ℕ → List ℕ → ℕ
why_not key name party last h =
    unless (whole_blocks h) wrong_length
    (unless (ltb last (set_number h)) wrong_number (why_not_opened key name party h))

-- where it is not: the set that it opens to, and the door's name that stands in it
unfoldable pub opened_set : List ℕ → List ℕ → Set
opened_set key h = set_in (set_number h) (opened_content key h)

unfoldable pub opened_name : List ℕ → List ℕ → List ℕ
opened_name key h = field (opened_content key h) name_field
