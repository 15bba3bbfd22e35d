-- The rows of the table as code makes them: the range test on words, and every element of a slice. Assumes nothing.
use mathlib.Core.Path.{◌≡◌, refl, sym, ap, ap₂, ◌∙◌}
use mathlib.Core.Bool.{Bool, true, false, ◌&&◌, and-true, and_assoc}
use mathlib.Core.List.{List, [], ◌∷◌}
use Prim.Native.Nat.{ℕ, zero, suc, ◌+◌, ◌-◌, ◌^◌, ◌<◌}
use native.Mathlib.Numerals.{add-one}
use native.Mathlib.Omega.{arith}
use lib.Dec.{leb}
use lib.IntN.{ℤ, pos, neg_ℤ, ◌-ℤ◌}
use lib.ListN.{length, take, get_or}
use lib.Seq.{take_all}
use lib.Signed.{le_z}
use Rattle.base_algebra.specs.Word.{add, sub, signed}
use Rattle.measure_table.specs.declared.Terms.{Terms}
use Rattle.measure_table.specs.declared.Rule.TheVariants.{Between}
use Rattle.measure_table.specs.Measure.{scalar_product, squared_euclid, hamming, row, within, in_range, all_in_range}
use Rattle.measure_table.specs.Measure.{threshold_fits, ordinary_mark, ordinary_width, in_order, word, sign, sign_word}
use Rattle.measure_table.specs.Laws.{apart, marked_sign, sign_word_plain}
use Rattle.measure_table.specs.Order.{Le, of_test, to_test, le_sub}
use Rattle.measure_table.proofs.Signed.{signed_order, signed_least, signed_most}

-- the row of each code
pub row_0 : (code : ℕ) → code ≡ 0 → row code ≡ scalar_product
unfolding row
row_0 code e = rw e

pub row_1 : (code : ℕ) → code ≡ 1 → row code ≡ squared_euclid
unfolding row
row_1 code e = rw e

pub row_2 : (code : ℕ) → (code ≡ 0 → ⊥) → (code ≡ 1 → ⊥) → row code ≡ hamming
unfolding row
row_2 zero n m = absurd (n refl)
row_2 (suc zero) n m = absurd (m refl)
row_2 (suc (suc code)) n m = refl

pub within_words : (w low high : ℕ) → w < 2 ^ 32 → low < 2 ^ 32 → high < 2 ^ 32
    → leb (add low (2 ^ 31)) (add w (2 ^ 31)) && leb (add w (2 ^ 31)) (add high (2 ^ 31))
    ≡ within (signed low) (signed high) (signed w)
unfolding within
within_words w low high lw ll lh = ap₂ ◌&&◌ (signed_order low w ll lw) (signed_order w high lw lh)

-- two marks as words
pub order_words : (p q : ℕ) → p < 2 ^ 32 → q < 2 ^ 32
    → leb (add p (2 ^ 31)) (add q (2 ^ 31)) && leb (sub q p) ordinary_width ≡ in_order (Between p q)
unfolding in_order
order_words p q lp lq =
    ap (λ (b : Bool). b && leb (sub q p) ordinary_width) (signed_order p q lp lq)
    ∙ go (le_z (signed p) (signed q)) refl
  where
    far : Le (signed q -ℤ signed p) (pos (2 ^ 32 - 1))
    far =
        le_sub
        (of_test (signed q) (pos (2 ^ 31 - 1)) (signed_most q lq))
        (of_test (neg_ℤ (pos (2 ^ 31))) (signed p) (signed_least p lp))

    go : (b : Bool) → le_z (signed p) (signed q) ≡ b
        → b && leb (sub q p) ordinary_width ≡ b && le_z (signed q -ℤ signed p) (pos ordinary_width)
    go true e = ap (λ (z : ℤ). le_z z (pos ordinary_width)) (sym (apart p q e (to_test far)))
    go false e = refl

-- the sign by mark
module _ (terms : Terms) (mark : ℕ) where
  pub ordinary_sign : (s : ℕ) → mark ≡ ordinary_mark → s ≡ word (row terms.code).sign → s ≡ sign_word terms mark
  unfolding sign_word sign
  ordinary_sign s e h = rw e h

  pub marked_word : (mark ≡ ordinary_mark → ⊥) → 1 ≡ sign_word terms mark
  marked_word h = sym (sign_word_plain terms mark (marked_sign terms mark h))

module _ (terms : Terms) where
  pub element_range : (w low high : ℕ) (r : Bool) → signed low ≡ (row terms.code).low
      → signed high ≡ (row terms.code).high → r ≡ within (signed low) (signed high) (signed w)
      → r ≡ in_range terms w
  unfolding in_range
  element_range w low high r l h e = e ∙ ap₂ (λ (a b : ℤ). within a b (signed w)) l h

  pub threshold_range : (t least most : ℕ) (r : Bool) → signed least ≡ (row terms.code).least
      → signed most ≡ (row terms.code).most → r ≡ within (signed least) (signed most) (signed t)
      → r ≡ threshold_fits terms t
  unfolding threshold_fits
  threshold_range t least most r l m e = e ∙ ap₂ (λ (a b : ℤ). within a b (signed t)) l m

  -- one element more
  pub all_more : (v : List ℕ) (i : ℕ) → i < length v
      → all_in_range terms (take (i + 1) v) ≡ all_in_range terms (take i v) && in_range terms (get_or v i 0)
  unfolding all_in_range
  all_more v i h = rw (add-one i) (go v i h)
    where
      go : (v : List ℕ) (i : ℕ) → i < length v
          → all_in_range terms (take (suc i) v) ≡ all_in_range terms (take i v) && in_range terms (get_or v i 0)
      go [] i h = absurd (omega arith)
      go (w ∷ v) zero h = and-true (in_range terms w)
      go (w ∷ v) (suc i) h =
          ap (λ (c : Bool). in_range terms w && c) (go v i (omega arith))
          ∙ sym (and_assoc (in_range terms w) (all_in_range terms (take i v)) (in_range terms (get_or v i 0)))

  pub all_whole : (v : List ℕ) (i : ℕ) → i ≡ length v → all_in_range terms (take i v) ≡ all_in_range terms v
  all_whole v i h = ap (all_in_range terms) (take_all i v (omega arith))
