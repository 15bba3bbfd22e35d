-- A half from before 02, §4: its content ended with the final word, and zeros filled its blocks. Of every such content,
-- whatever its number of blocks, 11 now says that it does not fit. Assumes nothing. [SPEC 9.7, 23.11]
use Rattle.std.specs.Prelude.{◌≡◌, ℕ, zero, suc, ◌+◌, ◌*◌, ◌<◌, length, take, replicate}
use Rattle.std.proofs.Math.Path.{refl, ap}
use Rattle.std.proofs.Common.{sym, ◌∙◌}
use mathlib.Core.List.{List, ◌++◌, map}
use native.Mathlib.Omega.{arith}
use Rattle.std.proofs.Math.ListN.{get_or}
use Rattle.base_words.specs.Numbers.{bytes, number}
use Rattle.base_words.specs.List.{flat}
use Rattle.base_words.specs.Bytes.{word_at}
use Rattle.measure_table.specs.Laws.{length_fits_lem}
use Rattle.half_content.specs.declared.Set.{Set}
use Rattle.half_content.specs.Content.{part, length_field, width_field, mark_field, fields}
use Rattle.half_content.specs.Content.{widths, sum_first, offset, width, length_in, field}
use Rattle.half_content.specs.Content.{width_in, mark_in}
use Rattle.half_content.specs.Content.{Proper}
use Rattle.half_content.specs.Pieces.{length_flat, piece_at, get_d_past, get_d_part}
use Rattle.half_content.specs.Laws.{width_is, lengths}

no_byte : (k i : ℕ) → ◌≡◌ {A = ℕ} (get_or (replicate k 0) i 0) 0
no_byte zero i = refl
no_byte (suc k) zero = refl
no_byte (suc k) (suc i) = no_byte k i

module _ (name : List ℕ) (party : ℕ) (s : Set) (named : length name ≡ 16) (p : Proper s) (fill : ℕ) where
  abbrev n : ℕ
  n = s.terms.n

  -- the fields up to the final word, ..
  abbrev pub older_fields : List (List ℕ)
  older_fields = take width_field (fields name party s)

  -- .. and zeros behind them
  abbrev pub older_plain : List ℕ
  older_plain = flat older_fields ++ replicate fill 0

  older_lengths : map length older_fields ≡ take width_field (widths n)
  unfolding fields
  older_lengths = ap (take width_field) (lengths name party s named p)

  -- L stands where it does
  older_length : length_in older_plain ≡ n
  unfolding length_in offset width widths sum_first fields bytes number
  older_length =
      ap number
      (ap (λ (ws : List ℕ). part (sum_first ws length_field) (get_or ws length_field 0) older_plain) (sym older_lengths)
      ∙ piece_at older_fields (replicate fill 0) length_field)
      ∙ omega (arith, length_fits_lem s.terms p.length_fits_lem)

  -- and where width and mark stand now, the zeros begin
  older_end : length (flat older_fields) ≡ offset n width_field
  unfolding offset widths sum_first fields
  older_end =
      length_flat older_fields ∙ ap (λ (ws : List ℕ). sum_first ws width_field) older_lengths

  -- 01's size: "That is 1,248 + 12 × L bytes"
  pub older_size : length (flat older_fields) ≡ 1248 + 12 * n
  older_size = older_end ∙ width_is n

  no_byte_there : (i : ℕ) → get_or older_plain (offset n width_field + i) 0 ≡ 0
  no_byte_there i =
      get_d_past (flat older_fields) (replicate fill 0) (offset n width_field) i older_end ∙ no_byte fill i

  pub no_width : width_in older_plain ≡ 0
  unfolding width_in field width widths word_at
  no_width = rw (byte 0 (omega arith), byte 1 (omega arith), byte 2 (omega arith), byte 3 (omega arith)) refl
    where
      byte : (i : ℕ) → i < 4 → get_or (field older_plain width_field) i 0 ≡ 0
      byte i h =
          ap (λ (m : ℕ). get_or (part (offset m width_field) 4 older_plain) i 0) older_length
          ∙ get_d_part (offset n width_field) 4 older_plain i h ∙ no_byte_there i

  pub no_mark : mark_in older_plain ≡ 0
  unfolding mark_in field width widths offset sum_first
  no_mark =
      let past : offset n mark_field + 0 ≡ offset n width_field + 4 = omega arith in
      ap (λ (m : ℕ). get_or (part (offset m mark_field) 1 older_plain) 0 0) older_length
      ∙ get_d_part (offset n mark_field) 1 older_plain 0 (omega arith)
      ∙ ap (λ (i : ℕ). get_or older_plain i 0) past ∙ no_byte_there 4
