-- What opened content is tested for. Assumes nothing.
use mathlib.Core.Path.{◌≡◌, refl, sym, ap, ap₂, ◌∙◌}
use mathlib.Core.Bool.{Bool, true, false, not, ◌&&◌, and-true, and-false, and_assoc}
use mathlib.Core.List.{List, [], ◌∷◌, ◌++◌}
use Prim.Native.Nat.{ℕ, ◌+◌, ◌*◌, ◌-◌, ◌<◌}
use native.Mathlib.Numerals.{add-one}
use native.Mathlib.Omega.{arith}
use borrow.Author.Tests.{eq-eqb, ne_eqb, not-true, not-false}
use lib.Dec.{eqb, ltb}
use lib.ListN.{length, get_or, take, drop, length-drop}
use lib.Seq.{take-suc, take_all}
use Rattle.base_words.specs.List.{same}
use Rattle.base_words.specs.Bytes.{word_at}
use Rattle.dcf_node.specs.declared.Correction.{Correction}
use Rattle.measure_table.specs.declared.Terms.{Terms}
use Rattle.measure_table.specs.Measure.{is_code, length_fits}
use Rattle.half_content.specs.Content.{name_field, party_field, corrections_field, last_field, width_field, mark_field}
use Rattle.half_content.specs.Content.{widths, sum_first, offset, width, size, block_count, length_in, field, terms_in}
use Rattle.half_content.specs.Content.{correction_in, corrections_in, key_in, width_in, mark_in, flags_fit, width_fits}
use Rattle.half_content.specs.Content.{zeros, content_fits}
use Rattle.half_content.specs.Pieces.{get_d_part}
use Rattle.half_reading.proofs.Read.{between, word_at_lem, byte_at}

flags_fit_snoc : (l : List Correction) (c : Correction) → flags_fit (l ++ (c ∷ [])) ≡ flags_fit l && ltb c.flags 4
unfolding flags_fit
flags_fit_snoc [] c = and-true (ltb c.flags 4)
flags_fit_snoc (d ∷ l) c =
    ap (λ (b : Bool). ltb d.flags 4 && b) (flags_fit_snoc l c)
    ∙ sym (and_assoc (ltb d.flags 4) (flags_fit l) (ltb c.flags 4))

-- one flag byte more
pub flags_more : (f : List ℕ) (i : ℕ)
    → flags_fit (corrections_in f (i + 1)) ≡ flags_fit (corrections_in f i) && ltb (get_or f (37 * i + 36) 0) 4
unfolding corrections_in correction_in
flags_more f i =
    rw (add-one i)
    (flags_fit_snoc (corrections_in f i) (correction_in f i)
    ∙ ap (λ (x : ℕ). flags_fit (corrections_in f i) && ltb x 4) (get_d_part (37 * i) 37 f 36 (omega arith)))

zeros_snoc : (l : List ℕ) (x : ℕ) → zeros (l ++ (x ∷ [])) ≡ zeros l && eqb x 0
unfolding zeros
zeros_snoc [] x = and-true (eqb x 0)
zeros_snoc (y ∷ l) x = ap (λ (b : Bool). eqb y 0 && b) (zeros_snoc l x) ∙ sym (and_assoc (eqb y 0) (zeros l) (eqb x 0))

-- one byte more
pub zeros_more : (b : List ℕ) (i : ℕ) → i < length b → zeros (take (i + 1) b) ≡ zeros (take i b) && eqb (get_or b i 0) 0
zeros_more b i h = rw (add-one i, take-suc b i 0 h) (zeros_snoc (take i b) (get_or b i 0))

-- ---- the whole test

-- what is refused for its length or count
refused : (x y z : Bool) {w : Bool} → w ≡ false → false ≡ x && (y && (z && w))
refused x y z e =
    sym (ap (λ (b : Bool). x && (y && (z && b))) e ∙ ap (λ (b : Bool). x && (y && b)) (and-false z)
    ∙ ap (λ (b : Bool). x && b) (and-false y) ∙ and-false x)

regroup : (x y z f v w : Bool) → ((((x && y) && z) && f) && v) && w ≡ x && (y && (z && (f && (v && w))))
regroup x y z f v w =
    and_assoc (x && y && z && f) v w ∙ and_assoc (x && y && z) f (v && w) ∙ and_assoc (x && y) z (f && (v && w))
    ∙ and_assoc x y (z && (f && (v && w)))

module _ (name : List ℕ) (party count : ℕ) (b : List ℕ) (terms : Terms) (et : terms ≡ terms_in b) where
  abbrev n : ℕ
  n = terms.n

  abbrev named? : Bool
  named? = same (field b name_field) name

  abbrev owned? : Bool
  owned? = eqb (get_or (field b party_field) 0 0) party

  abbrev flags? : Bool
  flags? = flags_fit (key_in b).corrections

  abbrev width? : Bool
  width? = width_fits (width_in b) (mark_in b)

  -- the test, at these terms
  abbrev asked : Terms → Bool
  asked t =
      is_code t.code
      && (length_fits t && (eqb (block_count t.n) count && (flags? && (width? && zeros (drop (size t.n) b)))))

  fits_at : content_fits name party count b ≡ named? && (owned? && asked terms)
  unfolding content_fits
  fits_at = ap (λ (t : Terms). named? && (owned? && asked t)) (sym et)

  -- L out of its measure's range
  pub out_of_range_lem : (fits : Bool) → fits ≡ length_fits terms → not fits ≡ true
      → false ≡ content_fits name party count b
  out_of_range_lem fits e h =
      let others : Bool = eqb (block_count n) count && (flags? && (width? && zeros (drop (size n) b))) in
      refused named? owned? (is_code terms.code) (ap (λ (l : Bool). l && others) (sym e ∙ not-true fits h))
      ∙ sym fits_at

  -- L asks for another number of blocks
  pub other_count : (k : ℕ) → k ≡ block_count n → (k ≡ count → ⊥) → false ≡ content_fits name party count b
  other_count k e h =
      let other : eqb (block_count n) count ≡ false = ap (λ (m : ℕ). eqb m count) (sym e) ∙ ne_eqb k count h in
      let others : Bool = flags? && (width? && zeros (drop (size n) b)) in
      refused named? owned? (is_code terms.code)
      (ap (λ (l : Bool). length_fits terms && (l && others)) other ∙ and-false (length_fits terms))
      ∙ sym fits_at

  -- all that is tested where L and the count fit, each where its field stands
  pub fits_law : (fits : Bool) (k owner cs_at last_at width_at mark_at end w m : ℕ)
      (named coded flags wide filled : Bool)
      → fits ≡ length_fits terms → not fits ≡ false → k ≡ block_count n → k ≡ count
      → cs_at ≡ offset n corrections_field → last_at ≡ offset n last_field → width_at ≡ offset n width_field
      → mark_at ≡ offset n mark_field → end ≡ size n
      → named ≡ same (take 16 b) name → owner ≡ get_or b 16 0 → coded ≡ is_code terms.code
      → flags ≡ flags_fit (corrections_in (take (last_at - cs_at) (drop cs_at b)) 32)
      → w ≡ word_at b width_at → m ≡ get_or b mark_at 0 → wide ≡ width_fits w m
      → filled ≡ zeros (take (length b - end) (drop end b))
      → ((((named && eqb owner party) && coded) && flags) && wide) && filled ≡ content_fits name party count b
  unfolding terms_in key_in width_in mark_in offset width widths sum_first
  fits_law fits k owner cs_at last_at width_at mark_at end w m named coded flags wide filled
      ef hf ek e ec el ew em ee e₀ e₁ e₂ e₃ e_w e_m e₄ e₅ =
      let long : n ≡ length_in b = ap (λ (t : Terms). t.n) et in
      let range : length_fits terms ≡ true = sym ef ∙ not-false fits hf in
      let many : eqb (block_count n) count ≡ true = eq-eqb (block_count n) count (sym ek ∙ e) in
      let p₀ = e₀ ∙ ap (λ (f : List ℕ). same f name) (between b n long name_field 0 16 refl refl) in
      let p₁ = ap (λ (x : ℕ). eqb x party) (e₁ ∙ byte_at b n long party_field 16 refl refl) in
      let all_corrections = between b n long corrections_field cs_at last_at ec el in
      let p₃ = e₃ ∙ ap (λ (f : List ℕ). flags_fit (corrections_in f 32)) all_corrections in
      let all = take_all (length b - end) (drop end b) (omega (arith, length-drop end b)) in
      let its_width = e_w ∙ word_at_lem b n long width_field width_at ew refl in
      let its_mark = e_m ∙ byte_at b n long mark_field mark_at em refl in
      let p₄ = e₄ ∙ ap₂ width_fits its_width its_mark in
      let p₅ = e₅ ∙ ap zeros all ∙ ap (λ (m : ℕ). zeros (drop m b)) ee in
      let behind = ap₂ ◌&&◌ (sym many) (ap₂ ◌&&◌ p₃ (ap₂ ◌&&◌ p₄ p₅)) in
      regroup named (eqb owner party) coded flags wide filled
      ∙ ap₂ ◌&&◌ p₀ (ap₂ ◌&&◌ p₁ (ap₂ ◌&&◌ e₂ (ap₂ ◌&&◌ (sym range) behind)))
      ∙ sym fits_at
