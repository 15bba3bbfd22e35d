-- Which case of the definitions a test of the lengths leads to. Assumes nothing.
use mathlib.Core.Path.{◌≡◌, refl, ◌∙◌, ap₂}
use mathlib.Core.Bool.{true, false}
use mathlib.Core.List.{List}
use Prim.Native.Nat.{ℕ, ◌<◌, ◌≤◌}
use lib.ListN.{length}
use borrow.Author.Tests.{le-leb, lt-leb}
use Rattle.base_words.specs.List.{over}
use Rattle.measure_table.specs.Measure.{ordinary_mark, own_word}
use Rattle.share_vectors.specs.Share.{plus, share, box_word}
use Rattle.bench_check.specs.Check.{mask_fits, masked_over, word_fits, terms_of, word_or_zero}

-- ---- the mask

module _ (v m out : List ℕ) where
  pub mask_short : length m < length v → (false ≡ mask_fits v m out) × (out ≡ masked_over v m out)
  unfolding mask_fits masked_over
  mask_short h = rw (lt-leb (length v) (length m) h) (refl, refl)

  pub out_short : length v ≤ length m → length out < length v
      → (false ≡ mask_fits v m out) × (out ≡ masked_over v m out)
  unfolding mask_fits masked_over
  out_short h i = rw (le-leb (length v) (length m) h, lt-leb (length v) (length out) i) (refl, refl)

  pub mask_fits_lem : (after : List ℕ) → length v ≤ length m
      → length v ≤ length out → after ≡ over 0 (plus (length v) v m) out
      → (true ≡ mask_fits v m out) × (after ≡ masked_over v m out)
  unfolding mask_fits masked_over
  mask_fits_lem after h i e = rw (le-leb (length v) (length m) h, le-leb (length v) (length out) i) (refl, e)

-- ---- the word

module _ (code party c r : ℕ) (v mx my sx sy : List ℕ) where
  pub mx_short : length mx < length v → 0 ≡ word_or_zero code party c r v mx my sx sy
  unfolding word_or_zero word_fits
  mx_short h = rw (lt-leb (length v) (length mx) h) refl

  pub my_short : length v ≤ length mx → length my < length v → 0 ≡ word_or_zero code party c r v mx my sx sy
  unfolding word_or_zero word_fits
  my_short h i = rw (le-leb (length v) (length mx) h, lt-leb (length v) (length my) i) refl

  pub sx_short : length v ≤ length mx → length v ≤ length my → length sx < length v
      → 0 ≡ word_or_zero code party c r v mx my sx sy
  unfolding word_or_zero word_fits
  sx_short h i j =
      rw (le-leb (length v) (length mx) h, le-leb (length v) (length my) i, lt-leb (length v) (length sx) j) refl

  pub sy_short : length v ≤ length mx → length v ≤ length my → length v ≤ length sx → length sy < length v
      → 0 ≡ word_or_zero code party c r v mx my sx sy
  unfolding word_or_zero word_fits
  sy_short h i j k =
      rw (
        le-leb (length v) (length mx) h,
        le-leb (length v) (length my) i,
        le-leb (length v) (length sx) j,
        lt-leb (length v) (length sy) k,
      ) refl

  pub word_fits_lem : (s own w : ℕ) → length v ≤ length mx
      → length v ≤ length my → length v ≤ length sx → length v ≤ length sy
      → s ≡ share party (length v) c mx my sx sy → own ≡ own_word (terms_of code v) v
      → w ≡ box_word (terms_of code v) ordinary_mark s own r → w ≡ word_or_zero code party c r v mx my sx sy
  unfolding word_or_zero word_fits
  word_fits_lem s own w h i j k es eo ew =
      rw (
        le-leb (length v) (length mx) h,
        le-leb (length v) (length my) i,
        le-leb (length v) (length sx) j,
        le-leb (length v) (length sy) k,
      )
      (ew ∙ ap₂ (λ a b. box_word (terms_of code v) ordinary_mark a b r) es eo)
