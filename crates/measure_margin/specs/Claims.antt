-- What 02, §12, promises of the margin: the product moves by no more than e times the sum of Y's absolute elements, and
-- by just that for some vectors; so the margin has a closed form. What the margin says of faces that a camera can give,
-- who is refused, and that there is one answer and no other. (What rests on these claims is in `proofs/Claims.antt`.)
-- Assumes nothing. [SPEC 23.4, 23.8, 36.2 to 36.8]
use Rattle.std.specs.Prelude.{◌≡◌, Bool, cond, List, [], ◌∷◌, map, eqb, ◌+ℤ◌, ◌*ℤ◌}
use Rattle.std.proofs.Math.Path.{refl, sym, ap, ap₂}
use Rattle.std.proofs.Common.{◌∙◌, arith}
use Rattle.std.proofs.Math.Bool.{true, false, not, ◌&&◌}
use Prim.Native.Nat.{ℕ, zero, suc, ◌+◌, ◌/◌, ◌^◌, ◌<◌, ◌≤◌, min}
use borrow.Author.Tests.{eqb-true, eq-eqb}
use Rattle.std.proofs.Math.IntN.{ℤ, pos, neg_ℤ, nat_abs, ◌-ℤ◌}
use Rattle.std.proofs.Math.ListN.{length, get_or, length-map, get_or-map}
use Rattle.std.specs.Int.Signed.{mag, le_z}
use Rattle.base_algebra.specs.Bit.{only, both}
use Rattle.base_algebra.specs.Integer.{ringℤ, reifyℤ}
use Rattle.base_algebra.specs.Sum.{sumℤ, sumℤ_ext}
use Rattle.base_algebra.specs.Word.{signed}
use Rattle.base_words.specs.List.{tab, length_tab, get_or_tab}
use Rattle.base_messages.specs.Messages.{wrong_length, out_of_range, if_taken}
use Rattle.base_messages.specs.Laws.{unless_false, unless_true, passed, taken, refused}
use Rattle.measure_table.specs.Measure.{row, scalar_product, element, own, cross, measure, meets, within, in_range}
use Rattle.measure_table.specs.Measure.{length_fits, all_in_range, threshold_fits}
use Rattle.measure_table.specs.Laws.{scalar_sign, reached_plain, length_fits_lem, any_length, in_range_at}
use Rattle.measure_table.specs.Laws.{all_in_range_lem}
use Rattle.measure_table.specs.Order.{of_test}
use Rattle.measure_margin.specs.Margin.{scalar_terms, answer_to, answer_now, Within, product, absolute_sum, Steady}
use Rattle.measure_margin.specs.Margin.{most_margin, Largest, lengths_fit, ranges_fit, why_not_margin, Answered}
use Rattle.measure_margin.specs.Moves.{apart_most, moved, moved_near}

-- ---- the answer and the product, in plain words

-- the measure of code 0 is the product
pub measure_product : (x y : List ℕ)
    → measure (scalar_terms x) x y ≡ sumℤ (λ i. element x i *ℤ element y i) (length x)
unfolding measure own cross row scalar_product
measure_product x y = once (sumℤ (λ i. element x i *ℤ element y i) (length x))
  where
    once : (z : ℤ) → pos 0 +ℤ pos 0 +ℤ pos 1 *ℤ z ≡ z
    once z = ringℤ (z ∷ []) (search reifyℤ depth 20 fits 5000) refl

-- "measure ≥ T" [SPEC 36.2]
pub answer_is : (x : List ℕ) (t : ℕ) (m : ℤ) → answer_to x t m ≡ le_z (signed t) m
unfolding answer_to meets
answer_is x t m = reached_plain (scalar_terms x) (scalar_sign (scalar_terms x) 0 refl) m (signed t)

-- ---- lists of whole numbers, made by a rule for each place

unfoldable pub listed : (ℕ → ℤ) → ℕ → List ℤ
listed f n = map f (tab (λ i. i) n)

pub listed_long : (f : ℕ → ℤ) (n : ℕ) → length (listed f n) ≡ n
unfolding listed
listed_long f n = length-map (tab (λ i. i) n) f ∙ length_tab (λ i. i) n

get_or_map_in : (f : ℕ → ℤ) (l : List ℕ) (i : ℕ) → i < length l → get_or (map f l) i (pos 0) ≡ f (get_or l i 0)
get_or_map_in f [] i l = absurd (omega arith)
get_or_map_in f (a ∷ s) zero l = refl
get_or_map_in f (a ∷ s) (suc i) l = get_or_map_in f s i (omega arith)

pub listed_at : (f : ℕ → ℤ) (n i : ℕ) → i < n → get_or (listed f n) i (pos 0) ≡ f i
unfolding listed
listed_at f n i l =
    get_or_map_in f (tab (λ i. i) n) i (omega (arith, length_tab (λ i. i) n)) ∙ ap f (get_or_tab (λ i. i) n i l)

-- ---- the largest e from 0 to 2,047 with e times s at most g

unfoldable pub quotient : ℕ → ℕ → ℕ
quotient g s = cond (eqb s 0) most_margin (min most_margin (g / s))

-- how far the product may move before the answer changes: d - T where the product d reaches T, and T - d - 1 where it
-- does not (`spare-reached`, `spare-missed`). X, Y, T [SPEC 36.5]
unfoldable pub spare : List ℕ → List ℕ → ℕ → ℕ
spare x y t = mag (measure (scalar_terms x) x y -ℤ signed t)

-- the closed form of the margin: X, Y, T [SPEC 36.5]
unfoldable pub closed_form : List ℕ → List ℕ → ℕ → ℕ
closed_form x y t = quotient (spare x y t) (absolute_sum y)

-- a vector within e of X that has the other answer [SPEC 36.6]
pub record Changed (x y : List ℕ) (t e : ℕ) : Type 0 where
  pub vector : List ℤ
  pub within_e : Within e vector x
  pub other : answer_to x t (product vector y) ≡ not (answer_now x y t)

module _ (x y : List ℕ) (t : ℕ) (same : length y ≡ length x) where
  abbrev n : ℕ
  n = length x

  -- .. and by just that for some, up or down by the sign of s [SPEC 36.4]
  module _ (s : ℤ) where
    unfoldable pub corner : List ℤ
    corner = listed (moved s (element x) (element y)) n

    pub corner_within : Within (nat_abs s) corner x
    unfolding corner
    corner_within = record {
      long = listed_long (moved s (element x) (element y)) n;
      near = λ i l. rw (listed_at (moved s (element x) (element y)) n i l) (moved_near s (element x) (element y) i);
    }

  -- ---- the closed form [SPEC 36.5]

  -- there is no other
  pub only_one : (e f : ℕ) → Largest x y t e → Largest x y t f → e ≡ f
  only_one e f h k = omega (arith, h.most f k.capped k.steady, k.most e h.capped h.steady)

  -- d - T where the product d reaches T ..
  pub spare_reached : (g : ℕ) → measure (scalar_terms x) x y ≡ signed t +ℤ pos g → spare x y t ≡ g
  unfolding spare
  spare_reached g e = ap mag (ap (λ (m : ℤ). m -ℤ signed t) e ∙ off (signed t) (pos g))
    where
      off : (a b : ℤ) → a +ℤ b -ℤ a ≡ b
      off a b = ringℤ (a ∷ b ∷ []) (search reifyℤ depth 20 fits 5000) refl

  -- .. and T - d - 1 where it does not
  pub spare_missed : (g : ℕ) → signed t ≡ measure (scalar_terms x) x y +ℤ pos (suc g) → spare x y t ≡ g
  unfolding spare
  spare_missed g e =
      ap mag (ap (λ (m : ℤ). measure (scalar_terms x) x y -ℤ m) e ∙ off (measure (scalar_terms x) x y) (pos (suc g)))
    where
      off : (a b : ℤ) → a -ℤ (a +ℤ b) ≡ neg_ℤ b
      off a b = ringℤ (a ∷ b ∷ []) (search reifyℤ depth 20 fits 5000) refl

-- ---- what that says of faces that a camera can give: vectors of words

words_product : (v y : List ℕ) → product (map signed v) y ≡ measure (scalar_terms v) v y
unfolding product element signed
words_product v y =
    ap (sumℤ (λ i. get_or (map signed v) i (pos 0) *ℤ element y i)) (length-map v signed)
    ∙ sumℤ_ext _ (λ i. element v i *ℤ element y i) (length v)
    (λ i l. ap (λ (a : ℤ). a *ℤ element y i) (get_or-map signed v i 0))
    ∙ sym (measure_product v y)

-- "elements -1024 to 1023"
unfoldable pub InRange : List ℕ → Type 0
InRange v = (i : ℕ) → i < length v → within (neg_ℤ (pos 1024)) (pos 1023) (element v i) ≡ true

-- two elements in range are at most 2,047 apart [SPEC 36.6]
pub in_range_apart : (a b : ℤ) → within (neg_ℤ (pos 1024)) (pos 1023) a ≡ true
    → within (neg_ℤ (pos 1024)) (pos 1023) b ≡ true → nat_abs (a -ℤ b) ≤ most_margin
unfolding within
in_range_apart a b ha hb =
    let fa = both (le_z (neg_ℤ (pos 1024)) a) _ ha in
    let fb = both (le_z (neg_ℤ (pos 1024)) b) _ hb in
    let la = of_test (neg_ℤ (pos 1024)) a fa.0 in
    let lb = of_test (neg_ℤ (pos 1024)) b fb.0 in
    rw (la.is, lb.is) (apart_most (neg_ℤ (pos 1024)) la.gap lb.gap most_margin
    (gap_most a la.gap la.is fa.1) (gap_most b lb.gap lb.is fb.1))
  where
    group : (a g h : ℤ) → a +ℤ g +ℤ h ≡ a +ℤ (g +ℤ h)
    group a g h = ringℤ (a ∷ g ∷ h ∷ []) (search reifyℤ depth 20 fits 5000) refl

    back : (z : ℤ) → neg_ℤ (pos 1024) +ℤ z +ℤ pos 1024 ≡ z
    back z = ringℤ (z ∷ []) (search reifyℤ depth 20 fits 5000) refl

    -- -1,024 + g is at most 1,023
    gap_most : (z : ℤ) (g : ℕ) → z ≡ neg_ℤ (pos 1024) +ℤ pos g → le_z z (pos 1023) ≡ true → g ≤ most_margin
    gap_most z g e h =
        let u = of_test z (pos 1023) h in
        let sum : pos 1023 ≡ neg_ℤ (pos 1024) +ℤ pos (g + u.gap) =
        u.is ∙ ap (λ (k : ℤ). k +ℤ pos u.gap) e ∙ group (neg_ℤ (pos 1024)) (pos g) (pos u.gap) in
        let all : pos most_margin ≡ pos (g + u.gap) =
        ap (λ (k : ℤ). k +ℤ pos 1024) sum ∙ back (pos (g + u.gap)) in
        omega (arith, ap nat_abs all)

module _ (x y : List ℕ) (t : ℕ) (face : List ℕ) (long : length face ≡ length x) where
  -- within a margin the door's answer stays [SPEC 36.3]
  pub face_steady : (e : ℕ) → Steady x y t e
      → ((i : ℕ) → i < length x → nat_abs (element face i -ℤ element x i) ≤ e) → answer_now face y t ≡ answer_now x y t
  unfolding answer_now Steady element signed
  face_steady e s near =
      answer_is face t _ ∙ sym (answer_is x t _)
      ∙ ap (answer_to x t) (sym (words_product face y))
      ∙ s (map signed face) (record {
        long = length-map face signed ∙ long;
        near = λ i l. rw (get_or-map signed face i 0) (near i l);
      })

-- ---- who is refused, and who is taken

-- X has 1 to 512 elements, and Y as many
pub record Lengths (x y : List ℕ) : Type 0 where
  pub least : 1 ≤ length x
  pub most : length x ≤ 512
  pub same : length y ≡ length x

-- all that is handed in is in code 0's range
pub record Ranges (x y : List ℕ) (t : ℕ) : Type 0 where
  pub in_x : InRange x
  pub in_y : InRange y
  pub in_t : within (neg_ℤ (pos (2 ^ 30))) (pos (2 ^ 30)) (signed t) ≡ true

ranged : (n : ℕ) (v : List ℕ) → all_in_range (record { code = 0; n = n }) v ≡ true → InRange v
unfolding InRange in_range row scalar_product element
ranged n v h i l = in_range_at (record { code = 0; n = n }) v h i

ranged_all : (n : ℕ) (v : List ℕ) → InRange v → all_in_range (record { code = 0; n = n }) v ≡ true
unfolding InRange in_range row scalar_product element
ranged_all n v h = all_in_range_lem (record { code = 0; n = n }) v h

module _ (x y : List ℕ) (t : ℕ) where
  lengths_if : Lengths x y → lengths_fit x y ≡ true
  unfolding lengths_fit
  lengths_if l = ap₂ ◌&&◌ (any_length (scalar_terms x) l.least l.most) (eq-eqb _ _ l.same)

  lengths_only : lengths_fit x y ≡ true → Lengths x y
  unfolding lengths_fit
  lengths_only h =
      let parts = both (length_fits (scalar_terms x)) _ h in
      let fits = length_fits_lem (scalar_terms x) parts.0 in
      record { least = fits.0; most = fits.1; same = eqb-true _ _ parts.1 }

  ranges_if : Ranges x y t → ranges_fit x y t ≡ true
  unfolding ranges_fit threshold_fits row scalar_product
  ranges_if r = ap₂ ◌&&◌ (ranged_all (length x) x r.in_x) (ap₂ ◌&&◌ (ranged_all (length x) y r.in_y) r.in_t)

  ranges_only : ranges_fit x y t ≡ true → Ranges x y t
  unfolding ranges_fit threshold_fits row scalar_product
  ranges_only h =
      let first = both (all_in_range (scalar_terms x) x) _ h in
      let second = both (all_in_range (scalar_terms x) y) _ first.1 in
      record { in_x = ranged (length x) x first.0; in_y = ranged (length x) y second.0; in_t = second.1 }

  -- 4 just if the lengths do not fit, whatever the elements and T are [SPEC 23.4]
  pub wrong_lengths : (Lengths x y → ⊥) → why_not_margin x y t ≡ wrong_length
  unfolding why_not_margin
  wrong_lengths h = go (lengths_fit x y) refl
    where
      go : (b : Bool) → lengths_fit x y ≡ b → why_not_margin x y t ≡ wrong_length
      go true e = absurd (h (lengths_only e))
      go false e = sym (unless_false _ _ _ e)

  -- else 8 just if something is out of range [SPEC 23.8]
  pub wrong_ranges : Lengths x y → (Ranges x y t → ⊥) → why_not_margin x y t ≡ out_of_range
  unfolding why_not_margin
  wrong_ranges l h = go (ranges_fit x y t) refl
    where
      go : (b : Bool) → ranges_fit x y t ≡ b → why_not_margin x y t ≡ out_of_range
      go true e = absurd (h (ranges_only e))
      go false e = sym (unless_true _ _ _ (lengths_if l) (unless_false _ _ _ e))

  -- and else it is accepted
  pub accepted : Lengths x y → Ranges x y t → why_not_margin x y t ≡ 0
  unfolding why_not_margin
  accepted l r = sym (unless_true _ _ _ (lengths_if l) (unless_true _ _ _ (ranges_if r) refl))

  pub accepted_only : why_not_margin x y t ≡ 0 → Lengths x y × Ranges x y t
  unfolding why_not_margin
  accepted_only e =
      let first = passed _ e in
      (lengths_only first.0, ranges_only (passed _ first.1).0)

-- ---- one answer, and no other

module _ (x y : List ℕ) (t : ℕ) where
  pub answered : (e : ℕ) → (why_not_margin x y t ≡ 0 → Largest x y t e) → Answered x y t (record {
    why = why_not_margin x y t;
    bit = if_taken (why_not_margin x y t) (only (answer_now x y t) 1) 0;
    margin = if_taken (why_not_margin x y t) e 0;
  })
  answered e l = record {
    number = refl;
    now = refl;
    largest = λ h. rw (sym (taken e 0 refl h)) (l h);
    none = λ h. sym (refused e 0 refl h);
  }
