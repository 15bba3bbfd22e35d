-- A set that was laid out is read back, and its plain content fits. Assumes nothing.
use Rattle.std.specs.Prelude.{◌≡◌, true, eqb, leb, drop}
use Rattle.std.proofs.Math.Path.{refl, sym, ap, ap₂}
use Rattle.std.proofs.Common.{◌∙◌, subst, take_at, take-suc, get_or-take, get_or-drop}
use Rattle.std.proofs.Math.Bool.{Bool, ◌&&◌}
use mathlib.Core.List.{List, [], ◌∷◌, ◌++◌, map, append-nil}
use Prim.Native.Nat.{ℕ, zero, suc, ◌+◌, ◌*◌, ◌-◌, ◌^◌, ◌<◌, ◌≤◌}
use native.Mathlib.Omega.{arith}
use borrow.Author.Tests.{eq-eqb, eqb-true, leb-true, lt-ltb}
use Rattle.std.proofs.Math.ListN.{length, get_or, take, replicate, length-append, length-map}
use Rattle.std.proofs.Math.Seq.{drop_at, take_all}
use Rattle.base_algebra.specs.Bit.{both}
use Rattle.base_words.specs.Numbers.{bytes, number}
use Rattle.base_words.specs.List.{over, same, same_refl, drop_replicate, over_zeros, flat}
use Rattle.base_words.specs.Bytes.{le32, bytes_of, word_at, words_at, length_bytes_of, Words, words_back}
use Rattle.dcf_node.specs.declared.Correction.{Correction}
use Rattle.dcf_node.specs.declared.Key.{Key}
use Rattle.measure_table.specs.declared.Terms.{Terms}
use Rattle.measure_table.specs.Measure.{most_elements, between_mark, ordinary_width, is_code, length_fits}
use Rattle.measure_table.specs.Laws.{code_lt, length_fits_lem}
use Rattle.half_content.specs.declared.Set.{Set}
use Rattle.half_content.specs.Content.{text_bytes, part, fill, correction_bytes}
use Rattle.half_content.specs.Content.{name_field, party_field, code_field, length_field, mask_field, x_field, y_field}
use Rattle.half_content.specs.Content.{c_field, r_field, seed_field, corrections_field, last_field, width_field}
use Rattle.half_content.specs.Content.{mark_field, fields, widths, sum_first, offset, width, size, block_count}
use Rattle.half_content.specs.Content.{plain, length_in, field, terms_in, correction_in, corrections_in, key_in, set_in}
use Rattle.half_content.specs.Content.{width_in, mark_in, no_correction, flags_fit, width_fits, zeros, content_fits}
use Rattle.half_content.specs.Content.{Filled, Corrections, FlagBytes, Proper}
use Rattle.half_content.specs.Pieces.{sum_first_suc, length_flat, piece_at, part_flat, word_at_past}
use Rattle.half_content.specs.Pieces.{get_d_past, length_even, words_at_bytes_of, word_at_le32}

-- ---- sizes

-- "Content is then 1,253 + 12 × L bytes"
pub size_is : (n : ℕ) → size n ≡ 1253 + 12 * n
unfolding size widths sum_first
size_is n = omega arith

-- name, party, code and L stand before the vectors
pub head_is : (n : ℕ) → offset n mask_field ≡ 20
unfolding offset widths sum_first
head_is n = refl

-- the width, "one more word after the final word", and "then a mark byte" [SPEC 9.1]
pub width_is : (n : ℕ) → offset n width_field ≡ 1248 + 12 * n
unfolding offset widths sum_first
width_is n = omega arith

pub mark_is : (n : ℕ) → offset n mark_field ≡ 1252 + 12 * n
unfolding offset widths sum_first
mark_is n = omega arith

-- a field ends where the next one starts
pub offset_next : (n f : ℕ) → offset n (suc f) ≡ offset n f + width n f
unfolding offset width
offset_next n f = sum_first_suc (widths n) f

-- ---- an array of n words

-- n words and the rest of an array of zeros ..
pub fill_rest : (l a : List ℕ) (n : ℕ) → length l ≡ n → n ≤ most_elements → a ≡ replicate most_elements 0
    → l ++ drop n a ≡ fill l
unfolding fill
fill_rest l a n e h ea =
    ap (λ (r : List ℕ). l ++ r)
    (ap (drop n) ea ∙ drop_replicate n most_elements h ∙ ap (λ (k : ℕ). replicate (most_elements - k) 0) (sym e))

-- .. and written over its start
pub fill_over : (l a : List ℕ) (n : ℕ) → length l ≡ n → n ≤ most_elements → a ≡ replicate most_elements 0
    → over 0 l a ≡ fill l
unfolding fill
fill_over l a n e h ea = over_zeros l a (length l) most_elements refl (omega arith) ea

pub take_fill : (n : ℕ) (a l : List ℕ) → length l ≡ n → a ≡ fill l → take n a ≡ l
unfolding fill
take_fill n a l h e = ap (take n) e ∙ take_at l (replicate (most_elements - length l) 0) n h

pub words_filled : (n : ℕ) (a : List ℕ) → Filled n a → Words n (take n a)
unfolding Filled
words_filled n a f = subst (Words n) (sym (take_fill n a f.0 f.1.long f.2)) f.1

-- read back from its bytes
pub fill_filled : (n : ℕ) (a : List ℕ) → Filled n a → fill (words_at n (bytes_of (take n a))) ≡ a
unfolding Filled
fill_filled n a f =
    ap fill (words_back n (take n a) (words_filled n a f) ∙ take_fill n a f.0 f.1.long f.2) ∙ sym f.2

-- ---- corrections

pub length_correction_bytes : (c : Correction) → length c.seed ≡ 8 → length (correction_bytes c) ≡ 37
unfolding correction_bytes le32
length_correction_bytes c h =
    length-append (bytes_of c.seed) (le32 c.word ++ (c.flags ∷ [])) ∙ omega (arith, length_bytes_of c.seed)

get_d_map : (f : Correction → List ℕ) (cs : List Correction) (i : ℕ) → i < length cs
    → get_or (map f cs) i [] ≡ f (get_or cs i no_correction)
get_d_map f [] i h = absurd (omega arith)
get_d_map f (c ∷ cs) zero h = refl
get_d_map f (c ∷ cs) (suc i) h = get_d_map f cs i (omega arith)

-- a correction's own bytes
pub correction_back : (c : Correction) (f : List ℕ) (i : ℕ) → part (37 * i) 37 f ≡ correction_bytes c
    → Words 8 c.seed → c.word < 2 ^ 32 → correction_in f i ≡ c
unfolding correction_in correction_bytes le32
correction_back c f i e seed word =
    let rest : List ℕ = le32 c.word ++ (c.flags ∷ []) in
    let long : length (bytes_of c.seed) ≡ 32 = length_bytes_of c.seed ∙ omega (arith, seed.long) in
    let s = ap (words_at 8) e ∙ words_at_bytes_of 8 c.seed rest seed in
    let w = ap (λ (b : List ℕ). word_at b 32) e ∙ word_at_past (bytes_of c.seed) rest 32 0 long
    ∙ word_at_le32 c.word (c.flags ∷ []) word in
    let g = ap (λ (b : List ℕ). get_or b 36 0) e ∙ get_d_past (bytes_of c.seed) rest 32 4 long in
    λ k. record { seed = s k; word = w k; flags = g k }

module _ (cs : List Correction) (fit : Corrections cs) where
  each : (i : ℕ) → i < length cs → length (get_or (map correction_bytes cs) i []) ≡ 37
  unfolding Corrections
  each i h =
      ap length (get_d_map correction_bytes cs i h)
      ∙ length_correction_bytes (get_or cs i no_correction) (fit i h).0.long

  length_corrections : length (flat (map correction_bytes cs)) ≡ 37 * length cs
  length_corrections =
      length_even 37 (map correction_bytes cs) (λ i h. each i (rw length-map at h)) ∙ rw length-map refl

  corrections_back : (k : ℕ) → k ≤ length cs → corrections_in (flat (map correction_bytes cs)) k ≡ take k cs
  unfolding corrections_in Corrections
  corrections_back zero h = refl
  corrections_back (suc k) h =
      let l : k < length cs = omega arith in
      let at = part_flat 37 (map correction_bytes cs) k (λ i li. each i (rw length-map at li)) (rw length-map l)
      ∙ get_d_map correction_bytes cs k l in
      ap₂ (λ (p : List Correction) (c : Correction). p ++ (c ∷ [])) (corrections_back k (omega arith))
      (correction_back (get_or cs k no_correction) (flat (map correction_bytes cs)) k at (fit k l).0 (fit k l).1)
      ∙ sym (take-suc cs k no_correction l)

-- ---- what content_fits asks

flags_fit_lem : (cs : List Correction) → Corrections cs → flags_fit cs ≡ true
unfolding flags_fit Corrections
flags_fit_lem [] h = refl
flags_fit_lem (c ∷ cs) h =
    ap₂ ◌&&◌ (lt-ltb c.flags 4 (h 0 (omega arith)).2) (flags_fit_lem cs (λ i l. h (suc i) (omega arith)))

pub zeros_replicate : (k : ℕ) → zeros (replicate k 0) ≡ true
unfolding zeros
zeros_replicate zero = refl
zeros_replicate (suc k) = zeros_replicate k

-- ---- L is read from two bytes, the last before the vectors

pub length_in_bytes : (b : List ℕ)
    → length_in b ≡ get_or b (offset 0 length_field) 0 + 256 * get_or b (offset 0 length_field + 1) 0
unfolding length_in offset width widths sum_first part number
length_in_bytes b =
    let at = offset 0 length_field in
    two (drop at b) ∙ ap₂ (λ (x y : ℕ). x + 256 * y) (get_or-drop at b 0 0) (get_or-drop at b 1 0)
  where
    two : (l : List ℕ) → number (take 2 l) ≡ get_or l 0 0 + 256 * get_or l 1 0
    two [] = refl
    two (x ∷ []) = refl
    two (x ∷ y ∷ l) = omega arith

-- so that any list that begins as b does has b's L
pub length_in_take : (k : ℕ) (b : List ℕ) → offset 0 mask_field ≤ k → length_in (take k b) ≡ length_in b
unfolding offset widths sum_first
length_in_take k b h =
    let at = offset 0 length_field in
    length_in_bytes (take k b)
    ∙ ap₂ (λ (x y : ℕ). x + 256 * y) (get_or-take k b at 0 (omega arith)) (get_or-take k b (at + 1) 0 (omega arith))
    ∙ sym (length_in_bytes b)

-- ---- width and mark

pub width_tells : (w mark : ℕ) → width_fits w mark ≡ true → (mark ≤ between_mark) × (w ≤ ordinary_width)
unfolding width_fits
width_tells w mark h =
    let parts = both (leb mark between_mark) _ h in
    (leb-true mark between_mark parts.0, leb-true w ordinary_width (both (leb w ordinary_width) _ parts.1).0)

-- ---- plain content

module _ (name : List ℕ) (party : ℕ) (s : Set) (named : length name ≡ 16) (p : Proper s) where
  abbrev n : ℕ
  n = s.terms.n

  -- the bytes of its fields, and the zeros after them
  abbrev laid : List ℕ
  laid = flat (fields name party s)

  abbrev rest : List ℕ
  rest = replicate (text_bytes * block_count n - size n) 0

  bounds : (1 ≤ n) × (n ≤ most_elements)
  bounds = length_fits_lem s.terms p.length_fits_lem

  vector : (a : List ℕ) → Filled n a → length (bytes_of (take n a)) ≡ 4 * n
  vector a f = length_bytes_of (take n a) ∙ ap (λ (k : ℕ). 4 * k) (words_filled n a f).long

  -- each field has its width
  pub lengths : map length (fields name party s) ≡ widths n
  unfolding fields widths bytes le32
  lengths =
      let cs = s.key.corrections in
      let m = vector s.mask p.masked in
      let x = vector s.x p.x_filled in
      let y = vector s.y p.y_filled in
      let e : length (bytes_of s.seed) ≡ 32 = length_bytes_of s.seed ∙ omega (arith, p.seed_fits.long) in
      let c : length (flat (map correction_bytes cs)) ≡ 32 * 37 =
      length_corrections cs p.corrections_fit ∙ omega (arith, p.levels) in
      λ k. named k ∷ 1 ∷ 1 ∷ 2 ∷ m k ∷ x k ∷ y k ∷ 4 ∷ 4 ∷ e k ∷ c k ∷ 4 ∷ 4 ∷ 1 ∷ []

  pub length_fields : length laid ≡ size n
  unfolding size fields
  length_fields = length_flat (fields name party s) ∙ ap (λ (ws : List ℕ). sum_first ws (length ws)) lengths

  drop_plain : drop (size n) (plain name party s) ≡ rest
  unfolding plain
  drop_plain = drop_at laid rest (size n) length_fields

  -- what stands where a field's bytes do [SPEC 9.1]
  piece_plain : (f : ℕ) → part (offset n f) (width n f) (plain name party s) ≡ get_or (fields name party s) f []
  unfolding plain offset width
  piece_plain f =
      ap (λ (ws : List ℕ). part (sum_first ws f) (get_or ws f 0) (laid ++ rest)) (sym lengths)
      ∙ piece_at (fields name party s) rest f

  pub length_in_plain : length_in (plain name party s) ≡ n
  unfolding length_in offset width widths sum_first fields bytes number
  length_in_plain = ap number (piece_plain length_field) ∙ omega (arith, bounds.1)

  pub field_plain : (f : ℕ) → field (plain name party s) f ≡ get_or (fields name party s) f []
  unfolding field
  field_plain f =
      ap (λ (m : ℕ). part (offset m f) (width m f) (plain name party s)) length_in_plain ∙ piece_plain f

  array : (f : ℕ) (a : List ℕ) → get_or (fields name party s) f [] ≡ bytes_of (take n a) → Filled n a
      → fill (words_at (length_in (plain name party s)) (field (plain name party s) f)) ≡ a
  array f a e h =
      ap₂ (λ (m : ℕ) (b : List ℕ). fill (words_at m b)) length_in_plain (field_plain f ∙ e) ∙ fill_filled n a h

  word : (f x : ℕ) → get_or (fields name party s) f [] ≡ le32 x → x < 2 ^ 32
      → word_at (field (plain name party s) f) 0 ≡ x
  word f x e h =
      ap (λ (b : List ℕ). word_at b 0) (field_plain f ∙ e ∙ sym (append-nil (le32 x))) ∙ word_at_le32 x [] h

  terms : terms_in (plain name party s) ≡ s.terms
  unfolding terms_in fields
  terms =
      let code = ap (λ (b : List ℕ). get_or b 0 0) (field_plain code_field) in
      λ k. record { code = code k; n = length_in_plain k }

  key : key_in (plain name party s) ≡ s.key
  unfolding key_in fields
  key =
      let cs = s.key.corrections in
      let corrections =
      ap (λ (b : List ℕ). corrections_in b 32) (field_plain corrections_field)
      ∙ corrections_back cs p.corrections_fit 32 (omega (arith, p.levels))
      ∙ take_all 32 cs (omega (arith, p.levels)) in
      let last = word last_field s.key.last refl p.last_fits in
      λ k. record { corrections = corrections k; last = last k }

  its_width : width_in (plain name party s) ≡ s.width
  unfolding width_in fields
  its_width =
      word width_field s.width refl (omega (arith, (width_tells s.width s.mark p.width_fits_lem).1))

  its_mark : mark_in (plain name party s) ≡ s.mark
  unfolding mark_in fields
  its_mark = ap (λ (b : List ℕ). get_or b 0 0) (field_plain mark_field)

  -- what was laid out is read back
  pub set_in_plain : set_in s.number (plain name party s) ≡ s
  unfolding set_in fields
  set_in_plain =
      let mask = array mask_field s.mask refl p.masked in
      let x = array x_field s.x refl p.x_filled in
      let y = array y_field s.y refl p.y_filled in
      let c = word c_field s.c refl p.c_fits in
      let r = word r_field s.r refl p.r_fits in
      let seed = ap (words_at 8) (field_plain seed_field) ∙ words_back 8 s.seed p.seed_fits in
      λ k. record {
        number = s.number;
        terms = terms k;
        mask = mask k;
        x = x k;
        y = y k;
        c = c k;
        r = r k;
        seed = seed k;
        key = key k;
        width = its_width k;
        mark = its_mark k;
      }

  -- and it fits
  pub fits_plain : content_fits name party (block_count n) (plain name party s) ≡ true
  unfolding content_fits fields
  fits_plain =
      let b : List ℕ = plain name party s in
      let asked : Terms → Bool =
      λ t. is_code t.code && (length_fits t && (eqb (block_count t.n) (block_count n)
      && (flags_fit (key_in b).corrections && (width_fits (width_in b) (mark_in b) && zeros (drop (size t.n) b))))) in
      let its_name = ap (λ (l : List ℕ). same l name) (field_plain name_field) ∙ same_refl name in
      let its_party =
      eq-eqb (get_or (field b party_field) 0 0) party (ap (λ (l : List ℕ). get_or l 0 0) (field_plain party_field)) in
      let count = eq-eqb (block_count n) (block_count n) refl in
      let flags =
      ap (λ (k : Key). flags_fit k.corrections) key ∙ flags_fit_lem s.key.corrections p.corrections_fit in
      let wide = ap₂ width_fits its_width its_mark ∙ p.width_fits_lem in
      let filled = ap zeros drop_plain ∙ zeros_replicate (text_bytes * block_count n - size n) in
      ap₂ ◌&&◌ its_name (ap₂ ◌&&◌ its_party (ap asked terms
      ∙ ap₂ ◌&&◌ p.code_fits (ap₂ ◌&&◌ p.length_fits_lem (ap₂ ◌&&◌ count (ap₂ ◌&&◌ flags (ap₂ ◌&&◌ wide filled))))))

-- ---- what the code asks of its callers

-- lay_out asks of a set what Proper says of it
pub code_byte : (s : Set) → Proper s → s.terms.code < 256
code_byte s p = omega (arith, code_lt s.terms.code p.code_fits)

pub mark_byte : (s : Set) → Proper s → s.mark < 256
mark_byte s p = omega (arith, (width_tells s.width s.mark p.width_fits_lem).0)

pub flag_bytes : (s : Set) → Proper s → FlagBytes s.key.corrections
unfolding FlagBytes Corrections
flag_bytes s p i h = omega (arith, (p.corrections_fit i h).2)

-- where content fits, its terms do, and as many blocks as L asks for were opened
pub record Tells (count : ℕ) (b : List ℕ) : Type 0 where
  pub code_fits : is_code (terms_in b).code ≡ true
  pub length_fits_lem : length_fits (terms_in b) ≡ true
  pub counted : block_count (length_in b) ≡ count
  pub flags_fit_lem : flags_fit (key_in b).corrections ≡ true
  pub width_fits_lem : width_fits (width_in b) (mark_in b) ≡ true

pub fits_tells : (name : List ℕ) (party count : ℕ) (b : List ℕ) → content_fits name party count b ≡ true → Tells count b
unfolding content_fits terms_in
fits_tells name party count b h =
    let named = both (same (field b name_field) name) _ h in
    let owned = both (eqb (get_or (field b party_field) 0 0) party) _ named.1 in
    let coded = both (is_code (terms_in b).code) _ owned.1 in
    let long = both (length_fits (terms_in b)) _ coded.1 in
    let count_is = both (eqb (block_count (length_in b)) count) _ long.1 in
    let flagged = both (flags_fit (key_in b).corrections) _ count_is.1 in
    record {
      code_fits = coded.0;
      length_fits_lem = long.0;
      counted = eqb-true (block_count (length_in b)) count count_is.0;
      flags_fit_lem = flagged.0;
      width_fits_lem = (both (width_fits (width_in b) (mark_in b)) _ flagged.1).0;
    }
