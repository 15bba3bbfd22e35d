-- A half from before 02, §4, is refused by 11: what `specs/Older.antt` speaks of. Assumes nothing. [SPEC 9.7, 23.11]
use Rattle.std.specs.Prelude.{◌≡◌, ◌&&◌, ℕ, eqb, length, drop}
use Rattle.std.proofs.Math.Path.{refl, ap}
use Rattle.std.proofs.Math.Bool.{Bool, true, false}
use mathlib.Core.List.{List}
use Rattle.std.proofs.Math.ListN.{get_or}
use Rattle.base_words.specs.List.{same}
use Rattle.measure_table.specs.declared.Terms.{Terms}
use Rattle.measure_table.specs.Measure.{is_code, length_fits}
use Rattle.half_content.specs.declared.Set.{Set}
use Rattle.half_content.specs.Content.{name_field, party_field, size, block_count, field}
use Rattle.half_content.specs.Content.{terms_in, key_in, width_in, mark_in, flags_fit, width_fits, zeros, content_fits}
use Rattle.half_content.specs.Content.{Proper}
use Rattle.half_content.specs.Older as O

module _ (name : List ℕ) (party : ℕ) (s : Set) (named : length name ≡ 16) (p : Proper s) (fill : ℕ) where
  -- the same, at these
  abbrev older_plain : List ℕ
  older_plain = O.older_plain name party s named p fill

  no_fit : width_fits (width_in older_plain) (mark_in older_plain) ≡ false
  unfolding width_fits
  no_fit = rw (O.no_width name party s named p fill, O.no_mark name party s named p fill) refl

  pub older_refused : (count : ℕ) → content_fits name party count older_plain ≡ false
  unfolding content_fits
  older_refused count =
      let terms : Terms = terms_in older_plain in
      let filled : Bool = zeros (drop (size terms.n) older_plain) in
      six (same (field older_plain name_field) name) (eqb (get_or (field older_plain party_field) 0 0) party)
      (is_code terms.code) (length_fits terms) (eqb (block_count terms.n) count)
      (flags_fit (key_in older_plain).corrections) (ap (λ (b : Bool). b && filled) no_fit)
    where
      six : (a b c d e f : Bool) {g : Bool} → g ≡ false → a && (b && (c && (d && (e && (f && g))))) ≡ false
      six true true true true true true h = h
      six false b c d e f h = refl
      six true false c d e f h = refl
      six true true false d e f h = refl
      six true true true false e f h = refl
      six true true true true false f h = refl
      six true true true true true false h = refl
