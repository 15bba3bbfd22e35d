-- What rests on how many blocks content fills, and on an ordinary set's width. Assumes nothing.
use Rattle.std.specs.Prelude.{◌≡◌, true, leb}
use Rattle.std.proofs.Math.Path.{ap}
use Rattle.std.proofs.Common.{◌∙◌}
use mathlib.Core.List.{List, ◌++◌}
use Prim.Native.Nat.{ℕ, ◌+◌, ◌*◌, ◌-◌, ◌≤◌}
use native.Mathlib.Omega.{arith}
use borrow.Author.Tests.{eqb-true}
use Rattle.std.proofs.Math.ListN.{length, take, replicate, length-append, length-replicate}
use Rattle.std.proofs.Math.Seq.{take-append-add}
use Rattle.base_algebra.specs.Bit.{both}
use Rattle.base_words.specs.List.{flat}
use Rattle.measure_table.specs.Measure.{most_elements, ordinary_mark, ordinary_width}
use Rattle.measure_table.specs.Laws.{length_fits_lem}
use Rattle.half_content.specs.declared.Set.{Set}
use Rattle.half_content.specs.Content.{text_bytes, most_blocks, room_bytes, fields, size, block_count, plain}
use Rattle.half_content.specs.Content.{length_in, terms_in, width_fits, content_fits, Proper}
use Rattle.half_content.specs.Pieces.{take_replicate}
use Rattle.half_content.specs.Laws.{size_is, length_fields, fits_tells}

pub blocks_bounds : (n : ℕ) → 1 ≤ n → n ≤ most_elements → (3 ≤ block_count n) × (block_count n ≤ most_blocks)
unfolding block_count
blocks_bounds n h k = (omega (arith, size_is n), omega (arith, size_is n))

pub size_le : (n : ℕ) → size n ≤ text_bytes * block_count n
unfolding block_count
size_le n = omega (arith, size_is n)

-- an ordinary set has 2^31 - 1, "another w under mark 0" being turned down
pub ordinary_width_lem : (w : ℕ) → width_fits w ordinary_mark ≡ true → w ≡ ordinary_width
unfolding width_fits
ordinary_width_lem w h = eqb-true w ordinary_width (both (leb w ordinary_width) _ h).1

module _ (name : List ℕ) (party : ℕ) (s : Set) (named : length name ≡ 16) (p : Proper s) where
  abbrev n : ℕ
  n = s.terms.n

  -- the bytes of its fields, and the zeros after them
  abbrev laid : List ℕ
  laid = flat (fields name party s)

  abbrev rest : List ℕ
  rest = replicate (text_bytes * block_count n - size n) 0

  pub length_plain : length (plain name party s) ≡ text_bytes * block_count n
  unfolding plain
  length_plain =
      length-append laid rest
      ∙ omega (
        arith,
        length_fields name party s named p,
        length-replicate {A = ℕ} (text_bytes * block_count n - size n) 0,
        size_le n,
      )

  -- laid out in an array for the most blocks, the plain content is what its own blocks hold
  pub take_laid : take (text_bytes * block_count n) (laid ++ replicate (room_bytes - size n) 0) ≡ plain name party s
  unfolding plain
  take_laid =
      let z : List ℕ = replicate (room_bytes - size n) 0 in
      let k = text_bytes * block_count n - size n in
      let e : text_bytes * block_count n ≡ length laid + k =
      omega (arith, length_fields name party s named p, size_le n) in
      let bounds = length_fits_lem s.terms p.length_fits_lem in
      let few = blocks_bounds n bounds.0 bounds.1 in
      ap (λ (i : ℕ). take i (laid ++ z)) e ∙ take-append-add laid z k
      ∙ ap (λ (l : List ℕ). laid ++ l) (take_replicate k (room_bytes - size n) (omega (arith, few)))

-- ---- what the code asks of its callers

pub few_blocks : (s : Set) → Proper s → (3 ≤ block_count s.terms.n) × (block_count s.terms.n ≤ most_blocks)
few_blocks s p =
    let bounds = length_fits_lem s.terms p.length_fits_lem in
    blocks_bounds s.terms.n bounds.0 bounds.1

-- read_set asks of content what content_fits says of it
pub fits_reads : (name : List ℕ) (party count : ℕ) (b : List ℕ) → content_fits name party count b ≡ true
    → length b ≡ text_bytes * count → (length_in b ≤ most_elements) × (size (length_in b) ≤ length b)
unfolding terms_in
fits_reads name party count b h l =
    let tells = fits_tells name party count b h in
    ((length_fits_lem (terms_in b) tells.length_fits_lem).1, omega (arith, tells.counted, size_le (length_in b)))
