-- What the code that opens blocks comes to, over lists. Assumes nothing.
use mathlib.Core.Path.{◌≡◌, refl, sym, ap, ap₂, ◌∙◌}
use mathlib.Core.Bool.{Bool, true, false, not, ◌&&◌, and_assoc}
use mathlib.Core.List.{List, [], ◌∷◌}
use Prim.Native.Nat.{ℕ, zero, suc, ◌+◌, ◌*◌, ◌/◌, ◌%◌, ◌^◌, ◌<◌, ◌≤◌}
use native.Mathlib.Omega.{arith}
use native.Mathlib.Numerals.{add-one}
use borrow.Author.Tests.{eqb-true, not-true, not-false}
use borrow.Rule.Slice.PartMut.{put_mid}
use lib.Dec.{eqb}
use lib.ListN.{length, take, drop, replicate, length-append, length-drop}
use lib.Seq.{length-take-le}
use Rattle.base_algebra.specs.Bit.{both}
use Rattle.base_words.specs.Numbers.{number, number_word, number_words}
use Rattle.base_words.specs.List.{over, over_all, over_next, tab}
use Rattle.base_words.specs.Bytes.{word_at, words_at}
use Rattle.aead_seal.specs.Aead.{cipher, opens, opened_text as opened_text_of}
use Rattle.aead_seal.specs.Claims.{length_cipher}
use Rattle.half_content.specs.Content.{block_bytes, text_bytes, part}
use Rattle.half_content.specs.Pieces.{part_is, length_part, word_at_part}
use Rattle.aead_one_time.proofs.Laws.{nonce_words}
use Rattle.half_seal.specs.OneTime.{header_words}
use Rattle.half_seal.specs.Half.{header, set_number, block_fits, first_fit, block_at, text_in, opened_blocks}
use Rattle.half_seal.specs.Laws.{put_over}

pub load_law : (b : List ℕ) (x y : ℕ) → 8 ≤ length b → x ≡ word_at b 0 → y ≡ word_at b 4 → x + y * 2 ^ 32 ≡ set_number b
unfolding set_number part
load_law b x y h e f = (λ i. e i + f i * 2 ^ 32) ∙ sym (number_words b 0 h)

-- ---- a block's header: x, y and z are its three words

module _ (b : List ℕ) (x y z set i : ℕ) (long : 12 ≤ length b)
    (ex : x ≡ word_at b 0) (ey : y ≡ word_at b 4) (ez : z ≡ word_at b 8) where
  pub headed : (s : ℕ) → s ≡ x + y * 2 ^ 32 → eqb z i && eqb s set ≡ eqb (word_at b 8) i && eqb (set_number b) set
  headed s e = rw (ez, e ∙ load_law b x y (omega arith) ex ey) refl

  header_is : z ≡ i → x + y * 2 ^ 32 ≡ set → x < 2 ^ 32 → y < 2 ^ 32 → z < 2 ^ 32
      → words_at 3 (part 0 12 b) ≡ words_at 3 (header set i)
  unfolding words_at tab
  header_is ei es hx hy hz =
      let low : set % 2 ^ 32 ≡ x = omega arith in
      let high : set / 2 ^ 32 ≡ y = omega arith in
      let made : words_at 3 (header set i) ≡ x ∷ y ∷ z ∷ [] =
      ap (words_at 3) (sym (header_words set i))
      ∙ nonce_words (set % 2 ^ 32) (set / 2 ^ 32) i (omega arith) (omega arith) (omega arith)
      ∙ (λ j. low j ∷ high j ∷ sym ei j ∷ []) in
      let read0 = word_at_part 0 12 b 0 (omega arith) ∙ sym ex in
      let read1 = word_at_part 0 12 b 4 (omega arith) ∙ sym ey in
      let read2 = word_at_part 0 12 b 8 (omega arith) ∙ sym ez in
      (λ j. read0 j ∷ read1 j ∷ read2 j ∷ []) ∙ sym made

  pub headed_words : (s : ℕ) → s ≡ x + y * 2 ^ 32 → x < 2 ^ 32 → y < 2 ^ 32 → z < 2 ^ 32 → eqb z i && eqb s set ≡ true
      → words_at 3 (part 0 12 b) ≡ words_at 3 (header set i)
  headed_words s e hx hy hz ok =
      let parts = both (eqb z i) (eqb s set) ok in
      header_is (eqb-true z i parts.0) (sym e ∙ eqb-true s set parts.1) hx hy hz

pub nonce_part : (b n : List ℕ) → length b ≡ block_bytes → n ≡ over 0 (take 12 (drop 0 b)) (replicate 12 0)
    → n ≡ part 0 12 b
unfolding part
nonce_part b n lb e = e ∙ over_all (take 12 b) (replicate 12 0) (length-take-le 12 b (omega arith))

-- a block's text: n, t and o are the copies of its nonce, its tag
-- and its sealed bytes, and z is what the opening leaves of o
module _ (key b out0 n t o : List ℕ) (r : Bool) (lb : length b ≡ block_bytes) (lo : length out0 ≡ text_bytes)
    (en : n ≡ over 0 (take 12 (drop 0 b)) (replicate 12 0))
    (et : t ≡ over 0 (take 16 (drop (12 + text_bytes) b)) (replicate 16 0))
    (eo : o ≡ over 0 (take text_bytes (drop 12 b)) out0)
    (er : r ≡ opens key n n o t) where
  nonce_is : n ≡ part 0 12 b
  nonce_is = nonce_part b n lb en

  tag_part : t ≡ part (12 + text_bytes) 16 b
  unfolding part
  tag_part =
      let past = drop (12 + text_bytes) b in
      let long = length-take-le 16 past (omega (arith, length-drop (12 + text_bytes) b)) in
      et ∙ over_all (take 16 past) (replicate 16 0) long

  text_part : o ≡ part 12 text_bytes b
  unfolding part
  text_part =
      let past = drop 12 b in
      let long = length-take-le text_bytes past (omega (arith, length-drop 12 b)) in
      eo ∙ over_all (take text_bytes past) out0 (long ∙ sym lo)

  pub text_opens : r ≡ opens key (part 0 12 b) (part 0 12 b) (part 12 text_bytes b) (part (12 + text_bytes) 16 b)
  text_opens = er ∙ rw (nonce_is, tag_part, text_part) refl

  pub opened_text_lem : (z : List ℕ) → z ≡ opened_text_of key n n o t → r ≡ true → z ≡ text_in key b
  unfolding opened_text_of
  opened_text_lem z ez ok = ez ∙ rw (sym er ∙ ok) (ap₂ (cipher key) nonce_is text_part)

-- a block: its index and number beside that
module _ (key b : List ℕ) (set i : ℕ) (lb : length b ≡ block_bytes) where
  abbrev opened : Bool
  opened = opens key (part 0 12 b) (part 0 12 b) (part 12 text_bytes b) (part (12 + text_bytes) 16 b)

  tests : (eqb (word_at b 8) i && eqb (set_number b) set) && opened ≡ block_fits key set i b
  unfolding block_fits set_number part
  tests = rw (number_word b 8 (omega arith)) (and_assoc (eqb (word_at b 8) i) (eqb (number (take 8 b)) set) opened)

  module _ (headed : Bool) (eh : headed ≡ eqb (word_at b 8) i && eqb (set_number b) set) where
    pub not_headed : not headed ≡ true → false ≡ block_fits key set i b
    not_headed e = ap (λ (h : Bool). h && opened) (sym (not-true headed e) ∙ eh) ∙ tests

    pub block_fits_lem : (r : Bool) → not headed ≡ false → r ≡ opened → r ≡ block_fits key set i b
    block_fits_lem r e er = er ∙ ap (λ (h : Bool). h && opened) (sym (not-false headed e) ∙ eh) ∙ tests

pub length_opened : (key h : List ℕ) (i : ℕ) → block_bytes * i ≤ length h
    → length (opened_blocks key h i) ≡ text_bytes * i
unfolding opened_blocks block_at
length_opened key h zero l = refl
length_opened key h (suc i) l =
    let b : List ℕ = part (block_bytes * i) block_bytes h in
    let inside =
    length_part b 12 text_bytes (omega (arith, length_part h (block_bytes * i) block_bytes (omega arith))) in
    let long : length (text_in key b) ≡ text_bytes = length_cipher key (part 0 12 b) (part 12 text_bytes b) ∙ inside in
    omega (arith, length-append (opened_blocks key h i) (text_in key b), length_opened key h i (omega arith), long)

-- one block more
module _ (key h out0 out b : List ℕ) (set i k m : ℕ) (fit this : Bool) (es : set ≡ set_number h)
    (ek : k ≡ block_bytes) where
  pub fit_more : fit ≡ first_fit key h i → this ≡ block_fits key set i (take k (drop (block_bytes * i) h))
      → fit && this ≡ first_fit key h (i + 1)
  unfolding first_fit block_at part
  fit_more e f = rw (add-one i, e, f, es, ek) refl

  pub opened_more : m ≡ text_bytes → block_bytes * (i + 1) ≤ length h → text_bytes * (i + 1) ≤ length out
      → length b ≡ text_bytes → (fit ≡ true → out ≡ over 0 (opened_blocks key h i) out0)
      → (this ≡ true → b ≡ text_in key (take k (drop (block_bytes * i) h))) → fit && this ≡ true
      → put_mid (text_bytes * i) m out b ≡ over 0 (opened_blocks key h (i + 1)) out0
  unfolding opened_blocks block_at
  opened_more em lh lo lb f g ok =
      let text : List ℕ = text_in key (part (block_bytes * i) block_bytes h) in
      let fits = both fit this ok in
      let is : b ≡ text =
      g fits.1 ∙ ap (λ (n : ℕ). text_in key (take n (drop (block_bytes * i) h))) ek
      ∙ ap (text_in key) (part_is (block_bytes * i) block_bytes h) in
      let put : put_mid (text_bytes * i) m out b ≡ over (0 + text_bytes * i) text out =
      put_over (text_bytes * i) m out b (lb ∙ sym em) (omega arith)
      ∙ ap₂ (λ (n : ℕ) (l : List ℕ). over n l out) (omega arith) is in
      rw (add-one i)
      (over_next (opened_blocks key h i) text out0 out (put_mid (text_bytes * i) m out b) 0 (text_bytes * i)
      (length_opened key h i (omega arith)) (f fits.0) put)

pub opened_all : (key h out0 out : List ℕ) (count : ℕ) → block_bytes * count ≤ length h
    → length out0 ≡ text_bytes * count
    → out ≡ over 0 (opened_blocks key h count) out0 → out ≡ opened_blocks key h count
opened_all key h out0 out count l lo e =
    e ∙ over_all (opened_blocks key h count) out0 (length_opened key h count l ∙ sym lo)
