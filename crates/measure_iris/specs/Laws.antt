-- What code that rearranges, tests and compares iris codes is tied to: the place that a bit is taken from, what an
-- accepted code or vector is, a lent buffer as it is written, and the answer. Assumes nothing.
-- [SPEC 24.14 to 24.17, 35.5, 35.6, 35.10, 35.11]
use Rattle.std.specs.Prelude.{◌≡◌, Bool, true, false, cond, ◌&&◌, List, ◌⊎◌, ℕ, zero, suc, ◌+◌, ◌*◌, ◌/◌, ◌%◌}
use Rattle.std.specs.Prelude.{◌^◌, ◌<◌, ◌≤◌, eqb, ltb, leb, ℤ, pos, length, get_or, set}
use Rattle.std.proofs.Math.Path.{refl, ap, ap₂}
use Rattle.std.proofs.Common.{sym, ◌∙◌, inl, inr, eqb-true, leb-true, ltb-true, ltb-false, ne_eqb}
use Rattle.std.proofs.Math.Bool.{not}
use native.Mathlib.Omega.{arith}
use Rattle.std.proofs.lemmas.Bool.{not-false}
use Rattle.std.specs.Int.Bits.{bit_xor}
use Rattle.std.proofs.lemmas.Nat.{xor_block, xor_lt, ones_cat}
use Rattle.std.specs.Int.Count.{ones, ones-le}
use Rattle.std.specs.Int.Signed.{le_z}
use Rattle.base_algebra.specs.Bit.{both, neither}
use Rattle.base_algebra.specs.Word.{signed}
use Rattle.base_algebra.specs.Sum.{sumℕ}
use Rattle.base_messages.specs.Messages.{wrong_length, short_buffer, out_of_range, unless}
use Rattle.base_messages.specs.Laws.{unless_false, turned_down, goes_on, passed, taken, refused}
use Rattle.base_words.specs.Bytes.{word_at}
use Rattle.base_words.specs.List.{tab, over, over_tab}
use Rattle.measure_table.specs.Measure.{row, hamming, within, in_range, all_in_range}
use Rattle.measure_table.specs.Laws.{signed_low, signed_high, in_range_at, all_in_range_lem}
use Rattle.measure_iris.specs.declared.HammingAnswer.{HammingAnswer}
use Rattle.measure_iris.specs.Iris.{code_bits, code_bytes, angles, rings, Vector, sent_at, stored_at}
use Rattle.measure_iris.specs.Iris.{sent_where_stored, stored_where_sent, distance, iris_terms, code_long, why_not_code}
use Rattle.measure_iris.specs.Iris.{why_not_vector, why_not_pair, buffer_after, hamming_answer}

-- ---- the place that bit i of a rearranged code is taken from: as we store it, or as the scanner sends it

unfoldable pub place_for : Bool → ℕ → ℕ
place_for stored i = cond stored (sent_where_stored i) (stored_where_sent i)

pub place_sent : (stored : Bool) (i : ℕ) → stored ≡ true → i % angles * rings + i / angles ≡ place_for stored i
unfolding place_for sent_where_stored sent_at
place_sent stored i e = rw e

pub place_stored : (stored : Bool) (i : ℕ) → stored ≡ false → i % rings * angles + i / rings ≡ place_for stored i
unfolding place_for stored_where_sent stored_at
place_stored stored i e = rw e

-- ---- an accepted code or vector

pub code_fits : (code : List ℕ) (n room : ℕ) → why_not_code code n room ≡ 0 → (length code ≡ code_bytes) × (n ≤ room)
unfolding why_not_code
code_fits code n room e =
    let first = passed _ e in
    (eqb-true _ _ first.0, leb-true n room (passed _ first.1).0)

-- an element of code 2's range, as a word, is 0 or 1 ..
pub in_range_bit : (w : ℕ) → w < 2 ^ 32 → in_range iris_terms w ≡ true → w < 2
unfolding in_range within row hamming
in_range_bit w l h = go (ltb w (2 ^ 31)) refl (both (le_z (pos 0) (signed w)) (le_z (signed w) (pos 1)) h)
  where
    go : (b : Bool) → ltb w (2 ^ 31) ≡ b → (le_z (pos 0) (signed w) ≡ true) × (le_z (signed w) (pos 1) ≡ true) → w < 2
    go true e t =
        let high = ap (λ (z : ℤ). le_z z (pos 1)) (signed_low w (ltb-true w (2 ^ 31) e)) in
        omega (arith, leb-true w 1 (sym high ∙ t.1))
    go false e t = neither (ap (le_z (pos 0)) (sym (signed_high w (ltb-false w (2 ^ 31) e) l)) ∙ t.0)

-- .. and 0 and 1 are in it
pub bits_in_range : (v : List ℕ) → ((i : ℕ) → get_or v i 0 < 2) → all_in_range iris_terms v ≡ true
unfolding in_range within row hamming signed
bits_in_range v h = all_in_range_lem iris_terms v (λ i l. one (get_or v i 0) (h i))
  where
    one : (w : ℕ) → w < 2 → le_z (pos 0) (signed w) && le_z (signed w) (pos 1) ≡ true
    one zero l = refl
    one (suc zero) l = refl
    one (suc (suc w)) l = absurd (omega arith)

pub vector_fits : (v : List ℕ) (room : ℕ) → ((i : ℕ) → get_or v i 0 < 2 ^ 32) → why_not_vector v room ≡ 0
    → Vector v × (code_bytes ≤ room)
unfolding why_not_vector
vector_fits v room words e =
    let first = passed _ e in
    let second = passed _ first.1 in
    let third = passed _ second.1 in
    let small : (i : ℕ) → get_or v i 0 < 2 =
    λ i. in_range_bit (get_or v i 0) (words i) (in_range_at iris_terms v third.0 i) in
    (record { long = eqb-true _ _ first.0; small = small }, leb-true code_bytes room second.0)

-- a vector's tests, with the elements of one of another length not looked at
pub vector_tested : (v : List ℕ) (room : ℕ) (bits : Bool)
    → ((length v ≡ code_bits) × (bits ≡ all_in_range iris_terms v)) ⊎ (length v ≡ code_bits → ⊥)
    → unless (eqb (length v) code_bits) wrong_length
    (unless (leb code_bytes room) short_buffer (unless bits out_of_range 0))
    ≡ why_not_vector v room
unfolding why_not_vector
vector_tested v room bits (inl h) =
    ap (λ (b : Bool). unless (eqb (length v) code_bits) wrong_length
    (unless (leb code_bytes room) short_buffer (unless b out_of_range 0))) h.1
vector_tested v room bits (inr h) =
    sym (unless_false _ _ _ (ne_eqb _ _ h)) ∙ unless_false _ _ _ (ne_eqb _ _ h)

-- ---- comparing by words

-- the ones of a byte of the xor
unfoldable pub ones_at : List ℕ → List ℕ → ℕ → ℕ
ones_at a b j = ones (bit_xor (get_or a j 0) (get_or b j 0))

module _ (a b : List ℕ) (la : (j : ℕ) → get_or a j 0 < 2 ^ 8) (lb : (j : ℕ) → get_or b j 0 < 2 ^ 8) where
  ones_at_most : (j : ℕ) → ones_at a b j ≤ 8
  unfolding ones_at
  ones_at_most j = ones-le 8 _ (xor_lt 8 _ _ (la j) (lb j))

  -- those of a word are its four bytes'
  pub word_ones : (i : ℕ) → ones (bit_xor (word_at a i) (word_at b i))
      ≡ ones_at a b i + ones_at a b (i + 1) + ones_at a b (i + 2) + ones_at a b (i + 3)
  unfolding word_at ones_at
  word_ones i =
      ap ones (ap₂ bit_xor (nested (get_or a i 0) _ _ _) (nested (get_or b i 0) _ _ _))
      ∙ low _ _ _ _ (la i) (lb i)
      ∙ ap (λ (k : ℕ). k + ones (bit_xor (get_or a i 0) (get_or b i 0))) (low _ _ _ _ (la (i + 1)) (lb (i + 1))
      ∙ ap (λ (k : ℕ). k + ones (bit_xor (get_or a (i + 1) 0) (get_or b (i + 1) 0)))
      (low _ _ _ _ (la (i + 2)) (lb (i + 2))))
      ∙ omega arith
    where
      nested : (x y z w : ℕ) → x + y * 2 ^ 8 + z * 2 ^ 16 + w * 2 ^ 24 ≡ ((w * 2 ^ 8 + z) * 2 ^ 8 + y) * 2 ^ 8 + x
      nested x y z w = omega arith

      low : (x y r s : ℕ) → r < 2 ^ 8 → s < 2 ^ 8
          → ones (bit_xor (x * 2 ^ 8 + r) (y * 2 ^ 8 + s)) ≡ ones (bit_xor x y) + ones (bit_xor r s)
      low x y r s lr ls =
          ap ones (xor_block 8 x y r s lr ls) ∙ ones_cat 8 (bit_xor x y) (bit_xor r s) (xor_lt 8 r s lr ls)

  pub word_most : (i : ℕ) → ones (bit_xor (word_at a i) (word_at b i)) ≤ 32
  word_most i =
      rw (word_ones i)
      (omega (arith, ones_at_most i, ones_at_most (i + 1), ones_at_most (i + 2), ones_at_most (i + 3)))

-- four bytes more
pub sum_four : (f : ℕ → ℕ) (i n m : ℕ) → n ≡ sumℕ f (4 * i)
    → m ≡ f (4 * i) + f (4 * i + 1) + f (4 * i + 2) + f (4 * i + 3) → n + m ≡ sumℕ f (4 * (i + 1))
unfolding sumℕ
sum_four f i n m e h =
    let more : 4 * (i + 1) ≡ suc (suc (suc (suc (4 * i)))) = omega arith in
    let s1 : suc (4 * i) ≡ 4 * i + 1 = omega arith in
    let s2 : suc (suc (4 * i)) ≡ 4 * i + 2 = omega arith in
    let s3 : suc (suc (suc (4 * i))) ≡ 4 * i + 3 = omega arith in
    rw more (omega (arith, e, h, ap f s1, ap f s2, ap f s3))

-- ---- a lent buffer

pub stays : {why : ℕ} (r : ℕ) (new out : List ℕ) → r ≡ why → (r ≡ 0 → ⊥) → out ≡ buffer_after why new out
unfolding buffer_after
stays r new out e h = refused (over 0 new out) out e h

pub written : {why : ℕ} (r : ℕ) (new out : List ℕ) {t : List ℕ} → r ≡ why → r ≡ 0 → t ≡ over 0 new out
    → t ≡ buffer_after why new out
unfolding buffer_after
written r new out e h f = f ∙ taken (over 0 new out) out e h

-- one store more, from the start of a buffer on
pub store_more : (g : ℕ → ℕ) (s t : List ℕ) (i x : ℕ) → x ≡ g i → t ≡ over 0 (tab g i) s
    → set t i x ≡ over 0 (tab g (i + 1)) s
store_more g s t i x e h =
    let at : i ≡ 0 + i = omega arith in
    ap (set t i) e ∙ ap (λ (k : ℕ). set t k (g i)) at ∙ over_tab g s t 0 i h

-- ---- what comparing answers, by the test t of both lengths

abbrev answer : ℕ → ℕ → HammingAnswer
answer why d = record { why = why; distance = d }

module _ (a b : List ℕ) {t : Bool} (e : t ≡ (code_long a && code_long b)) where
  pub pair_refused : not t ≡ true → record { why = wrong_length; distance = 0 } ≡ hamming_answer a b
  unfolding hamming_answer why_not_pair
  pair_refused h =
      let why : wrong_length ≡ why_not_pair a b = turned_down _ _ _ (ap not (sym e) ∙ h) in
      ap₂ answer why (refused (distance a b) 0 why (λ z. omega arith))

  pub pair_taken : not t ≡ false → (d : ℕ) → d ≡ distance a b → record { why = 0; distance = d } ≡ hamming_answer a b
  unfolding hamming_answer why_not_pair
  pair_taken h d f =
      let why : 0 ≡ why_not_pair a b = goes_on _ _ _ (ap not (sym e) ∙ h) refl in
      ap₂ answer why (f ∙ taken (distance a b) 0 why refl)

  pub pair_long : not t ≡ false → (length a ≡ code_bytes) × (length b ≡ code_bytes)
  pair_long h =
      let parts = both (code_long a) (code_long b) (sym e ∙ not-false t h) in
      (eqb-true _ _ parts.0, eqb-true _ _ parts.1)
