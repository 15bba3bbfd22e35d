-- What a half holds (01, "The sealed half"; 02, §4): the plain content of a set for a party, as a list of fields in
-- order, and the set read back from it. A field more is a name for its place, its width, its bytes, and where it is
-- read back. Bytes are numbers below 256. Assumes nothing. [SPEC 9.1 to 9.6]
use Rattle.std.specs.Prelude.{◌≡◌, Bool, true, cond, ◌&&◌, List, [], ◌∷◌, ◌++◌, map, ℕ, zero, suc, ◌+◌, ◌*◌, ◌-◌, ◌/◌}
use Rattle.std.specs.Prelude.{◌^◌, ◌<◌, eqb, leb, ltb, length, get_or, take, drop, replicate}
use Rattle.base_words.specs.Numbers.{bytes, number}
use Rattle.base_words.specs.List.{same, flat}
use Rattle.base_words.specs.Bytes.{le32, bytes_of, word_at, words_at, Words}
use Rattle.dcf_node.specs.declared.Correction.{Correction}
use Rattle.dcf_node.specs.declared.Key.{Key}
use Rattle.measure_table.specs.declared.Terms.{Terms}
use Rattle.measure_table.specs.Measure.{most_elements, ordinary_mark, between_mark, ordinary_width, is_code}
use Rattle.measure_table.specs.Measure.{length_fits}
use Rattle.half_content.specs.declared.Set.{Set}

-- n elements of a list, from `at` on
unfoldable pub part : ℕ → ℕ → List ℕ → List ℕ
part at n l = take n (drop at l)

-- "A block is 512 bytes", "484 sealed bytes" among them; "a half 3 to 16 whole blocks"; and what all these hold
abbrev pub block_bytes : ℕ
block_bytes = 512

abbrev pub text_bytes : ℕ
text_bytes = 484

abbrev pub most_blocks : ℕ
most_blocks = 16

abbrev pub room_bytes : ℕ
room_bytes = most_blocks * text_bytes

-- an array of a vector's words (01, "Forms by place"): "fixed arrays of 512 words, zero-filled past L"
-- [SPEC 12.11, 31.2]
unfoldable pub fill : List ℕ → List ℕ
fill l = l ++ replicate (most_elements - length l) 0

-- ---- the layout

-- a correction: "seed, word, flag byte: bit 0 left, bit 1 right", 37 bytes [SPEC 9.2, 9.3]
unfoldable pub correction_bytes : Correction → List ℕ
correction_bytes c = bytes_of c.seed ++ (le32 c.word ++ (c.flags ∷ []))

-- "name (16 bytes, zero after its end), party, measure code, L (2 bytes, little-endian), own mask (L words), the
-- party's share of X's mask, then of Y's (L words each), its c and r words, key seed, 32 corrections of 37 bytes (..),
-- final word", and 02, §4: "the width w = Q - P as one more word after the final word, then a mark byte": each field by
-- its place among them, .. [SPEC 9.1]
abbrev pub name_field : ℕ
name_field = 0

abbrev pub party_field : ℕ
party_field = 1

abbrev pub code_field : ℕ
code_field = 2

abbrev pub length_field : ℕ
length_field = 3

abbrev pub mask_field : ℕ
mask_field = 4

abbrev pub x_field : ℕ
x_field = 5

abbrev pub y_field : ℕ
y_field = 6

abbrev pub c_field : ℕ
c_field = 7

abbrev pub r_field : ℕ
r_field = 8

abbrev pub seed_field : ℕ
seed_field = 9

abbrev pub corrections_field : ℕ
corrections_field = 10

abbrev pub last_field : ℕ
last_field = 11

abbrev pub width_field : ℕ
width_field = 12

abbrev pub mark_field : ℕ
mark_field = 13

-- .. how many bytes each has, where vectors have n elements, ..
unfoldable pub widths : ℕ → List ℕ
widths n = 16 ∷ 1 ∷ 1 ∷ 2 ∷ 4 * n ∷ 4 * n ∷ 4 * n ∷ 4 ∷ 4 ∷ 32 ∷ 32 * 37 ∷ 4 ∷ 4 ∷ 1 ∷ []

-- .. and which
unfoldable pub fields : List ℕ → ℕ → Set → List (List ℕ)
fields name party s =
    let n : ℕ = s.terms.n in
    name ∷ (party ∷ []) ∷ (s.terms.code ∷ []) ∷ bytes 2 n ∷ bytes_of (take n s.mask) ∷ bytes_of (take n s.x)
    ∷ bytes_of (take n s.y) ∷ le32 s.c ∷ le32 s.r ∷ bytes_of s.seed
    ∷ flat (map correction_bytes s.key.corrections) ∷ le32 s.key.last ∷ le32 s.width ∷ (s.mark ∷ []) ∷ []

-- the sum of a list's first k numbers
unfoldable pub sum_first : List ℕ → ℕ → ℕ
sum_first ws zero = 0
sum_first [] (suc k) = 0
sum_first (w ∷ ws) (suc k) = w + sum_first ws k

-- where a field starts, past those before it, and how many bytes it has
unfoldable pub offset : ℕ → ℕ → ℕ
offset n f = sum_first (widths n) f

unfoldable pub width : ℕ → ℕ → ℕ
width n f = get_or (widths n) f 0

-- all of them: "Content is then 1,253 + 12 × L bytes" (02, §4), "zero-filled to whole blocks of 484" (Laws.`size_is`)
-- [SPEC 9.4 to 9.6]
unfoldable pub size : ℕ → ℕ
size n = sum_first (widths n) (length (widths n))

unfoldable pub block_count : ℕ → ℕ
block_count n = (size n + text_bytes - 1) / text_bytes

unfoldable pub plain : List ℕ → ℕ → Set → List ℕ
plain name party s =
    let n : ℕ = s.terms.n in
    flat (fields name party s) ++ replicate (text_bytes * block_count n - size n) 0

-- ---- read back

-- L, which stands past fields that are as wide for any L
unfoldable pub length_in : List ℕ → ℕ
length_in b = number (part (offset 0 length_field) (width 0 length_field) b)

-- a field of plain content
unfoldable pub field : List ℕ → ℕ → List ℕ
field b f =
    let n : ℕ = length_in b in
    part (offset n f) (width n f) b

unfoldable pub terms_in : List ℕ → Terms
terms_in b = record { code = get_or (field b code_field) 0 0; n = length_in b }

unfoldable pub correction_in : List ℕ → ℕ → Correction
correction_in f i =
    let c : List ℕ = part (37 * i) 37 f in
    record { seed = words_at 8 c; word = word_at c 32; flags = get_or c 36 0 }

unfoldable pub corrections_in : List ℕ → ℕ → List Correction
corrections_in f zero = []
corrections_in f (suc i) = corrections_in f i ++ (correction_in f i ∷ [])

unfoldable pub key_in : List ℕ → Key
key_in b = record { corrections = corrections_in (field b corrections_field) 32; last = word_at (field b last_field) 0 }

unfoldable pub width_in : List ℕ → ℕ
width_in b = word_at (field b width_field) 0

unfoldable pub mark_in : List ℕ → ℕ
mark_in b = get_or (field b mark_field) 0 0

-- the set of this number that plain content holds
unfoldable pub set_in : ℕ → List ℕ → Set
set_in set b =
    let n : ℕ = length_in b in
    record {
      number = set;
      terms = terms_in b;
      mask = fill (words_at n (field b mask_field));
      x = fill (words_at n (field b x_field));
      y = fill (words_at n (field b y_field));
      c = word_at (field b c_field) 0;
      r = word_at (field b r_field) 0;
      seed = words_at 8 (field b seed_field);
      key = key_in b;
      width = width_in b;
      mark = mark_in b;
    }

-- no set: all that a set brings is zero, "code and L included" [SPEC 12.10]
unfoldable pub no_correction : Correction
no_correction = record { seed = replicate 8 0; word = 0; flags = 0 }

abbrev pub no_terms : Terms
no_terms = record { code = 0; n = 0 }

unfoldable pub no_set : Set
no_set =
    record {
      number = 0;
      terms = no_terms;
      mask = replicate most_elements 0;
      x = replicate most_elements 0;
      y = replicate most_elements 0;
      c = 0;
      r = 0;
      seed = replicate 8 0;
      key = record { corrections = replicate 32 no_correction; last = 0 };
      width = 0;
      mark = 0;
    }

-- ---- 01's eleventh refusal: "Opened content has another name or party, a code, L or flag byte out of range, a block
-- count that doesn't fit L, or non-zero fill", and it "takes in a mark above 1, a w above 2^31 - 1, and another w under
-- mark 0" (02, §4) [SPEC 23.11]

unfoldable pub flags_fit : List Correction → Bool
flags_fit [] = true
flags_fit (c ∷ l) = ltb c.flags 4 && flags_fit l

-- width, mark
unfoldable pub width_fits : ℕ → ℕ → Bool
width_fits w mark =
    leb mark between_mark && (leb w ordinary_width && cond (eqb mark ordinary_mark) (eqb w ordinary_width) true)

unfoldable pub zeros : List ℕ → Bool
zeros [] = true
zeros (x ∷ l) = eqb x 0 && zeros l

-- what a half of `count` blocks was opened to, at a box of this padded name and party
unfoldable pub content_fits : List ℕ → ℕ → ℕ → List ℕ → Bool
content_fits name party count b =
    let terms : Terms = terms_in b in
    same (field b name_field) name
    && (eqb (get_or (field b party_field) 0 0) party
    && (is_code terms.code
    && (length_fits terms
    && (eqb (block_count terms.n) count
    && (flags_fit (key_in b).corrections
    && (width_fits (width_in b) (mark_in b) && zeros (drop (size terms.n) b)))))))

-- ---- a set as a deal makes it: what lies in the ranges of its fields

-- n words in an array
unfoldable pub Filled : ℕ → List ℕ → Type 0
Filled n a = (l : List ℕ) × Words n l × (a ≡ fill l)

unfoldable pub Corrections : List Correction → Type 0
Corrections l =
    (i : ℕ) → i < length l → Words 8 (get_or l i no_correction).seed
    × ((get_or l i no_correction).word < 2 ^ 32) × ((get_or l i no_correction).flags < 4)

-- flags that a byte has room for: what laying a set out asks of its corrections
unfoldable pub FlagBytes : List Correction → Type 0
FlagBytes l = (i : ℕ) → i < length l → (get_or l i no_correction).flags < 256

pub record Proper (s : Set) : Type 0 where
  pub number_fits : s.number < 2 ^ 64
  pub code_fits : is_code s.terms.code ≡ true
  pub length_fits_lem : length_fits s.terms ≡ true
  pub masked : Filled s.terms.n s.mask
  pub x_filled : Filled s.terms.n s.x
  pub y_filled : Filled s.terms.n s.y
  pub c_fits : s.c < 2 ^ 32
  pub r_fits : s.r < 2 ^ 32
  pub seed_fits : Words 8 s.seed
  pub levels : length s.key.corrections ≡ 32
  pub corrections_fit : Corrections s.key.corrections
  pub last_fits : s.key.last < 2 ^ 32
  pub width_fits_lem : width_fits s.width s.mark ≡ true
