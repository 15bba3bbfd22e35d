-- A set read back, field by field. Assumes nothing.
use mathlib.Core.Path.{◌≡◌, refl, sym, ap, ap₂, ◌∙◌}
use mathlib.Core.List.{List, [], ◌∷◌, ◌++◌, append-nil}
use Prim.Native.Nat.{ℕ, zero, suc, ◌+◌, ◌*◌, ◌-◌, ◌<◌, ◌≤◌}
use native.Mathlib.Numerals.{add-one}
use native.Mathlib.Omega.{arith}
use lib.ListN.{length, drop_of_length-le, get_or, take, drop, set, replicate, length-append}
use lib.Seq.{drop-cons, set_at, append_snoc, take_all}
use Rattle.base_words.specs.List.{tab, length_tab, tab_more}
use Rattle.base_words.specs.Bytes.{word_at, words_at}
use Rattle.dcf_node.specs.declared.Correction.{Correction}
use Rattle.dcf_node.specs.declared.Key.{Key}
use Rattle.dcf_node.specs.Node.{none}
use Rattle.measure_table.specs.declared.Terms.{Terms}
use Rattle.half_content.specs.declared.Set.{Set}
use Rattle.measure_table.specs.Measure.{most_elements}
use Rattle.half_content.specs.Content.{part, fill, length_in, field, terms_in, correction_in, corrections_in, key_in}
use Rattle.half_content.specs.Content.{set_in}
use Rattle.half_content.specs.Content.{code_field, mask_field, x_field, y_field, c_field, r_field, seed_field}
use Rattle.half_content.specs.Content.{corrections_field, last_field, width_field, mark_field, widths, sum_first}
use Rattle.half_content.specs.Content.{offset}
use Rattle.half_content.specs.Content.{width as field_width, width_in, mark_in}
use Rattle.half_content.specs.Laws.{head_is, offset_next, fill_rest}
use Rattle.half_content.specs.Pieces.{get_d_part, word_at_part, words_at_part}

pub vector_law : (f w z : List ℕ) (n : ℕ) → n ≤ most_elements → z ≡ replicate most_elements 0
    → w ≡ tab (λ i. word_at f (4 * i)) n ++ drop n z → w ≡ fill (words_at n f)
unfolding words_at
vector_law f w z n h ez e = e ∙ fill_rest _ z n (length_tab (λ i. word_at f (4 * i)) n) h ez

-- a correction, from its own 37 bytes
abbrev pub read : List ℕ → Correction
read c = record { seed = words_at 8 c; word = word_at c 32; flags = get_or c 36 0 }

pub read_correction : (c seed : List ℕ) (word flags : ℕ) → length c ≡ 37 → seed ≡ words_at 8 (take 32 c)
    → word ≡ word_at c 32 → flags ≡ get_or c 36 0
    → ◌≡◌ {A = Correction} (record { seed = seed; word = word; flags = flags }) (read c)
unfolding part
read_correction c seed word flags l es ew ef =
    let all = take_all 37 c (omega arith) in
    let s = es ∙ words_at_part 8 0 32 37 c (omega arith) (omega arith) ∙ ap (words_at 8) all in
    λ k. record { seed = s k; word = ew k; flags = ef k }

pub correction_in_law : (f : List ℕ) (i : ℕ)
    → read (take (37 * i + 37 - 37 * i) (drop (37 * i) f)) ≡ correction_in f i
unfolding correction_in part
correction_in_law f i =
    let wide : 37 * i + 37 - 37 * i ≡ 37 = omega arith in
    ap (λ (k : ℕ). read (take k (drop (37 * i) f))) wide

length_corrections_in : (f : List ℕ) (n : ℕ) → length (corrections_in f n) ≡ n
unfolding corrections_in
length_corrections_in f zero = refl
length_corrections_in f (suc n) =
    length-append (corrections_in f n) (correction_in f n ∷ []) ∙ omega (arith, length_corrections_in f n)

-- one correction more
pub corrections_more : (f : List ℕ) (cs z : List Correction) (c : Correction) (i : ℕ)
    → i < length z → cs ≡ corrections_in f i ++ drop i z → c ≡ correction_in f i
    → set cs i c ≡ corrections_in f (i + 1) ++ drop (i + 1) z
unfolding corrections_in
corrections_more f cs z c i h e is =
    rw (add-one i)
    (ap₂ (λ (l : List Correction) (x : Correction). set l i x)
    (e ∙ ap (λ (l : List Correction). corrections_in f i ++ l) (drop-cons z i none h)) is
    ∙ set_at (corrections_in f i) (get_or z i none) (drop (suc i) z) (correction_in f i) i (length_corrections_in f i)
    ∙ sym (append_snoc (corrections_in f i) (correction_in f i) (drop (suc i) z)))

pub corrections_all : (f : List ℕ) (cs z : List Correction) (i n : ℕ)
    → cs ≡ corrections_in f i ++ drop i z → i ≡ n → length z ≡ n → cs ≡ corrections_in f n
corrections_all f cs z i n e is h =
    e ∙ ap (λ (l : List Correction). corrections_in f i ++ l) (drop_of_length-le z {i = i} (omega arith))
    ∙ append-nil (corrections_in f i) ∙ ap (corrections_in f) is

-- one word more
pub vector_more : (f w z : List ℕ) (i x : ℕ) → i < length z
    → w ≡ tab (λ k. word_at f (4 * k)) i ++ drop i z → x ≡ word_at f (4 * i)
    → set w i x ≡ tab (λ k. word_at f (4 * k)) (i + 1) ++ drop (i + 1) z
vector_more f w z i x h e is = ap₂ (λ (l : List ℕ) (y : ℕ). set l i y) e is ∙ tab_more (λ k. word_at f (4 * k)) i z h

-- ---- a field is read where its offset says, n being the L of content b

module _ (b : List ℕ) (n : ℕ) (en : n ≡ length_in b) where
  abbrev L : ℕ
  L = length_in b

  field_at : (f at : ℕ) → at ≡ offset n f → field b f ≡ part at (field_width L f) b
  unfolding field
  field_at f at e = ap (λ (i : ℕ). part i (field_width L f) b) (ap (λ (m : ℕ). offset m f) (sym en) ∙ sym e)

  -- the bytes up to the next field
  pub between : (f at end : ℕ) → at ≡ offset n f → end ≡ offset n (suc f) → take (end - at) (drop at b) ≡ field b f
  unfolding part
  between f at end e e' =
      let wide : end - at ≡ field_width L f = omega (arith, offset_next n f, ap (λ (m : ℕ). field_width m f) en) in
      ap (λ (i : ℕ). take i (drop at b)) wide ∙ sym (field_at f at e)

  pub vector_at : (f at end : ℕ) (v : List ℕ) → at ≡ offset n f → end ≡ offset n (suc f)
      → v ≡ fill (words_at n (take (end - at) (drop at b))) → v ≡ fill (words_at L (field b f))
  vector_at f at end v e e' ev = ev ∙ ap₂ (λ (m : ℕ) (l : List ℕ). fill (words_at m l)) en (between f at end e e')

  pub word_at_lem : (f at : ℕ) → at ≡ offset n f → field_width L f ≡ 4 → word_at b at ≡ word_at (field b f) 0
  word_at_lem f at e w =
      let here = field_at f at e ∙ ap (λ (i : ℕ). part at i b) w in
      let start : at + 0 ≡ at = omega arith in
      sym (ap (λ (l : List ℕ). word_at l 0) here ∙ word_at_part at 4 b 0 (omega arith) ∙ ap (word_at b) start)

  pub byte_at : (f at : ℕ) → at ≡ offset n f → field_width L f ≡ 1 → get_or b at 0 ≡ get_or (field b f) 0 0
  byte_at f at e w =
      let here = field_at f at e ∙ ap (λ (i : ℕ). part at i b) w in
      let start : at + 0 ≡ at = omega arith in
      sym (ap (λ (l : List ℕ). get_or l 0 0) here ∙ get_d_part at 1 b 0 (omega arith)
      ∙ ap (λ (i : ℕ). get_or b i 0) start)

  -- the key
  pub key_law : (cs_at last_at last : ℕ) (cs : List Correction) → cs_at ≡ offset n corrections_field
      → last_at ≡ offset n last_field
      → cs ≡ corrections_in (take (last_at - cs_at) (drop cs_at b)) 32 → last ≡ word_at b last_at
      → ◌≡◌ {A = Key} (record { corrections = cs; last = last }) (key_in b)
  unfolding key_in field_width widths
  key_law cs_at last_at last cs ec el es ew =
      let corrections = es ∙ ap (λ (l : List ℕ). corrections_in l 32) (between corrections_field cs_at last_at ec el) in
      let final = ew ∙ word_at_lem last_field last_at el refl in
      λ k. record { corrections = corrections k; last = final k }

  -- the code and L
  pub terms_law : (code : ℕ) → code ≡ get_or b 17 0 → ◌≡◌ {A = Terms} (record { code = code; n = n }) (terms_in b)
  unfolding terms_in offset field_width widths sum_first
  terms_law code e =
      let coded = e ∙ byte_at code_field 17 refl refl in
      λ k. record { code = coded k; n = en k }

-- the set: each of its fields where it stands
module _ (set : ℕ) (b : List ℕ) (terms : Terms) (et : terms ≡ terms_in b)
    (x_at y_at c_at r_at seed_at cs_at width_at mark_at : ℕ)
    (ex : x_at ≡ offset terms.n x_field) (ey : y_at ≡ offset terms.n y_field) (ec : c_at ≡ offset terms.n c_field)
    (er : r_at ≡ offset terms.n r_field) (es : seed_at ≡ offset terms.n seed_field)
    (ek : cs_at ≡ offset terms.n corrections_field) (ew : width_at ≡ offset terms.n width_field)
    (em : mark_at ≡ offset terms.n mark_field) where
  abbrev n : ℕ
  n = terms.n

  long : n ≡ length_in b
  unfolding terms_in
  long = ap (λ (t : Terms). t.n) et

  pub set_law : (c r width mark : ℕ) (mask x y seed : List ℕ) (key : Key)
      → mask ≡ fill (words_at n (take (x_at - 20) (drop 20 b)))
      → x ≡ fill (words_at n (take (y_at - x_at) (drop x_at b)))
      → y ≡ fill (words_at n (take (c_at - y_at) (drop y_at b))) → c ≡ word_at b c_at → r ≡ word_at b r_at
      → seed ≡ words_at 8 (take (cs_at - seed_at) (drop seed_at b)) → key ≡ key_in b → width ≡ word_at b width_at
      → mark ≡ get_or b mark_at 0
      → ◌≡◌ {A = Set}
      (record {
        number = set;
        terms = terms;
        mask = mask;
        x = x;
        y = y;
        c = c;
        r = r;
        seed = seed;
        key = key;
        width = width;
        mark = mark;
      })
      (set_in set b)
  unfolding set_in width_in mark_in field_width widths
  set_law c r width mark mask x y seed key e_m e_x e_y e_c e_r e_s e_k e_w e_mark =
      let own = vector_at b n long mask_field 20 x_at mask (sym (head_is n)) ex e_m in
      let of_x = vector_at b n long x_field x_at y_at x ex ey e_x in
      let of_y = vector_at b n long y_field y_at c_at y ey ec e_y in
      let c_word = e_c ∙ word_at_lem b n long c_field c_at ec refl in
      let r_word = e_r ∙ word_at_lem b n long r_field r_at er refl in
      let seeded = e_s ∙ ap (words_at 8) (between b n long seed_field seed_at cs_at es ek) in
      let wide = e_w ∙ word_at_lem b n long width_field width_at ew refl in
      let marked = e_mark ∙ byte_at b n long mark_field mark_at em refl in
      λ k. record {
        number = set;
        terms = et k;
        mask = own k;
        x = of_x k;
        y = of_y k;
        c = c_word k;
        r = r_word k;
        seed = seeded k;
        key = e_k k;
        width = wide k;
        mark = marked k;
      }
