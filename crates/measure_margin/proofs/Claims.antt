-- What 02, §12, promises of the margin, as far as it rests on what `specs/Claims.antt` says: how far the product moves,
-- that the closed form is the largest e, that there is no other, and what that says of faces. Assumes nothing.
-- [SPEC 36.2 to 36.6, 36.8]
use Rattle.std.specs.Prelude.{◌≡◌, Bool, cond, List, [], ◌∷◌, eqb, ◌+ℤ◌, ◌*ℤ◌}
use Rattle.std.proofs.Math.Path.{refl, sym, ap, ap₂}
use Rattle.std.proofs.Common.{◌∙◌, le-div_iff_mul-le, arith}
use Rattle.std.proofs.Math.Bool.{true, false, not}
use Prim.Native.Nat.{ℕ, zero, suc, ◌+◌, ◌*◌, ◌/◌, ◌<◌, ◌≤◌, min}
use Rattle.std.proofs.Math.Nat.{min-le_left, min-le_right, le-min}
use borrow.Author.Tests.{leb-true, leb-false, eqb-true, eqb-false}
use Rattle.std.proofs.Math.Dec.{leb}
use Rattle.std.proofs.Math.IntN.{ℤ, pos, nat_abs, ◌-ℤ◌}
use Rattle.std.proofs.Math.ListN.{length, get_or}
use Rattle.std.specs.Int.Signed.{le_z}
use Rattle.base_algebra.specs.Bit.{neither}
use Rattle.base_algebra.specs.Integer.{ringℤ, reifyℤ}
use Rattle.base_algebra.specs.Sum.{sumℕ, sumℤ, sumℤ_ext}
use Rattle.base_algebra.specs.Word.{signed}
use Rattle.measure_table.specs.Measure.{element, measure}
use Rattle.measure_table.specs.Order.{above_zero}
use Rattle.measure_margin.specs.declared.MarginAnswer.{MarginAnswer}
use Rattle.measure_margin.specs.Margin.{scalar_terms, answer_to, answer_now, Within, product, absolute_sum, Steady}
use Rattle.measure_margin.specs.Margin.{most_margin, Largest, why_not_margin, Answered}
use Rattle.measure_margin.specs.Moves.{sum_moves, moved, sum_moved, keeps, against}
use Rattle.measure_margin.specs.Moves.{against_abs, against_mul, turns}
use Rattle.measure_margin.specs.Claims.{measure_product, answer_is, listed, listed_long, listed_at, quotient, spare}
use Rattle.measure_margin.specs.Claims.{closed_form, Changed, corner, corner_within, only_one, InRange}
use Rattle.measure_margin.specs.Claims.{in_range_apart, face_steady, accepted_only}

answer_sign : (x : List ℕ) (t : ℕ) (m : ℤ) → answer_to x t m ≡ le_z (pos 0) (m -ℤ signed t)
answer_sign x t m = answer_is x t m ∙ sym (above_zero m (signed t))

quotient_largest : (g s : ℕ)
    → (quotient g s ≤ most_margin) × (quotient g s * s ≤ g)
    × ((f : ℕ) → f ≤ most_margin → f * s ≤ g → f ≤ quotient g s)
unfolding quotient
quotient_largest g s = go (eqb s 0) refl
  where
    go : (b : Bool) → eqb s 0 ≡ b → (let q : ℕ = cond b most_margin (min most_margin (g / s)) in
        (q ≤ most_margin) × (q * s ≤ g) × ((f : ℕ) → f ≤ most_margin → f * s ≤ g → f ≤ q))
    go true e = let none : s ≡ 0 = eqb-true s 0 e in (omega arith, rw none (omega arith), λ f l k. l)
    go false e =
        let some : 0 < s = omega (arith, eqb-false s 0 e) in (
          min-le_left most_margin (g / s),
          (le-div_iff_mul-le some).0 (min-le_right most_margin (g / s)),
          λ f l k. le-min l ((le-div_iff_mul-le some).1 k),
        )

not_same : (a b : Bool) → a ≡ b → a ≡ not b → ⊥
not_same true b e f = neither (ap not e ∙ sym f)
not_same false b e f = neither (f ∙ ap not (sym e))

module _ (x y : List ℕ) (t : ℕ) (same : length y ≡ length x) where
  abbrev n : ℕ
  n = length x

  -- the product now, less T
  abbrev z : ℤ
  z = measure (scalar_terms x) x y -ℤ signed t

  sums_same : absolute_sum y ≡ sumℕ (λ i. nat_abs (element y i)) n
  unfolding absolute_sum
  sums_same = ap (sumℕ (λ i. nat_abs (element y i))) same

  -- "for every such change .. the product moves by no more than e × the sum of Y's absolute elements" [SPEC 36.4]
  pub moves : (e : ℕ) (v : List ℤ) → Within e v x
      → nat_abs (product v y -ℤ measure (scalar_terms x) x y) ≤ e * absolute_sum y
  unfolding product
  moves e v w =
      rw (measure_product x y, sums_same, w.long)
      (sum_moves n e (λ i. get_or v i (pos 0)) (element x) (element y) w.near)

  module _ (s : ℤ) where
    pub corner_moves : product (corner x y t same s) y -ℤ measure (scalar_terms x) x y ≡ s *ℤ pos (absolute_sum y)
    unfolding product corner
    corner_moves =
        ap₂ ◌-ℤ◌ (all_places ∙ by_places) (measure_product x y)
        ∙ off (sumℤ (λ i. element x i *ℤ element y i) n) _
        ∙ ap (λ (k : ℕ). s *ℤ pos k) (sym sums_same)
      where
        to : ℕ → ℤ
        to = moved s (element x) (element y)

        at : ℕ → ℤ
        at i = get_or (listed to n) i (pos 0) *ℤ element y i

        all_places : sumℤ at (length (listed to n)) ≡ sumℤ at n
        all_places = ap (sumℤ at) (listed_long to n)

        by_places : sumℤ at n
            ≡ sumℤ (λ i. element x i *ℤ element y i) n +ℤ s *ℤ pos (sumℕ (λ i. nat_abs (element y i)) n)
        by_places =
            sumℤ_ext at (λ i. to i *ℤ element y i) n
            (λ i l. ap (λ (a : ℤ). a *ℤ element y i) (listed_at to n i l))
            ∙ sum_moved n s (element x) (element y)

        off : (a b : ℤ) → a +ℤ b -ℤ a ≡ b
        off a b = ringℤ (a ∷ b ∷ []) (search reifyℤ depth 20 fits 5000) refl

  -- the answer to a product that has moved by d
  answer_moved : (m d : ℤ) → m -ℤ measure (scalar_terms x) x y ≡ d → answer_to x t m ≡ le_z (pos 0) (z +ℤ d)
  answer_moved m d e =
      answer_sign x t m
      ∙ ap (le_z (pos 0)) (regroup m (measure (scalar_terms x) x y) (signed t) ∙ ap (λ (k : ℤ). z +ℤ k) e)
    where
      regroup : (m a t : ℤ) → m -ℤ t ≡ a -ℤ t +ℤ (m -ℤ a)
      regroup m a t = ringℤ (m ∷ a ∷ t ∷ []) (search reifyℤ depth 20 fits 5000) refl

  answer_here : answer_now x y t ≡ le_z (pos 0) z
  unfolding answer_now
  answer_here = answer_sign x t (measure (scalar_terms x) x y)

  -- ---- so no vector within e changes the answer just if e times the sum is at most the spare

  pub steady_if : (e : ℕ) → e * absolute_sum y ≤ spare x y t → Steady x y t e
  unfolding Steady spare
  steady_if e l v w =
      answer_moved (product v y) (product v y -ℤ measure (scalar_terms x) x y) refl
      ∙ keeps z (product v y -ℤ measure (scalar_terms x) x y) (omega (arith, moves e v w)) ∙ sym answer_here

  pub changed : (e : ℕ) → spare x y t < e * absolute_sum y → Changed x y t e
  unfolding spare
  changed e l = record {
    vector = corner x y t same (against z e);
    within_e = rw (against_abs z e) at (corner_within x y t same (against z e));
    other = answer_moved _ _ (corner_moves (against z e) ∙ against_mul z e (absolute_sum y))
        ∙ turns z (e * absolute_sum y) l ∙ ap not (sym answer_here);
  }

  pub steady_only : (e : ℕ) → Steady x y t e → e * absolute_sum y ≤ spare x y t
  unfolding Steady
  steady_only e s = go (leb (e * absolute_sum y) (spare x y t)) refl
    where
      go : (b : Bool) → leb (e * absolute_sum y) (spare x y t) ≡ b → e * absolute_sum y ≤ spare x y t
      go true h = leb-true _ _ h
      go false h =
          let c = changed e (leb-false _ _ h) in
          absurd (not_same _ _ (s c.vector c.within_e) c.other)

  -- ---- the closed form [SPEC 36.5]

  pub largest : Largest x y t (closed_form x y t)
  unfolding closed_form
  largest =
      let q = quotient_largest (spare x y t) (absolute_sum y) in
      record { capped = q.0; steady = steady_if _ q.1; most = λ f h k. q.2 f h (steady_only f k) }

  pub closed_form_lem : (e : ℕ) → Largest x y t e → e ≡ closed_form x y t
  closed_form_lem e h = only_one x y t same e _ h largest

  -- "A Y of zeros gives 2,047"
  pub zeros : ((i : ℕ) → i < length y → element y i ≡ pos 0) → Largest x y t most_margin
  unfolding closed_form quotient absolute_sum sumℕ
  zeros h = rw (none (length y) (omega arith)) at largest
    where
      none : (k : ℕ) → k ≤ length y → sumℕ (λ i. nat_abs (element y i)) k ≡ 0
      none zero l = refl
      none (suc k) l = ap₂ ◌+◌ (none k (omega arith)) (ap nat_abs (h k (omega arith)))

  -- below 2,047 the next one changes the answer for some vector [SPEC 36.6]
  pub next_changes : (e : ℕ) → Largest x y t e → e < most_margin → Changed x y t (suc e)
  next_changes e h l = go (leb (suc e * absolute_sum y) (spare x y t)) refl
    where
      go : (b : Bool) → leb (suc e * absolute_sum y) (spare x y t) ≡ b → Changed x y t (suc e)
      go true k = absurd (omega (arith, h.most (suc e) (omega arith) (steady_if (suc e) (leb-true _ _ k))))
      go false k = changed (suc e) (leb-false _ _ k)

module _ (x y : List ℕ) (t : ℕ) (face : List ℕ) (long : length face ≡ length x) where
  -- with a margin of 2,047 every face in range has the answer that X has [SPEC 36.6]
  pub any_face : Steady x y t most_margin → InRange x → InRange face → answer_now face y t ≡ answer_now x y t
  unfolding InRange
  any_face s hx hf =
      face_steady x y t face long most_margin s
      (λ i l. in_range_apart (element face i) (element x i) (hf i (omega (arith, long))) (hx i l))

module _ (x y : List ℕ) (t : ℕ) where
  -- what is promised of the answer settles it
  pub settled : (r s : MarginAnswer) → Answered x y t r → Answered x y t s
      → (r.why ≡ s.why) × (r.bit ≡ s.bit) × (r.margin ≡ s.margin)
  settled r s a b = (a.number ∙ sym b.number, a.now ∙ sym b.now, go (eqb (why_not_margin x y t) 0) refl)
    where
      go : (c : Bool) → eqb (why_not_margin x y t) 0 ≡ c → r.margin ≡ s.margin
      go true h =
          let e : why_not_margin x y t ≡ 0 = eqb-true _ 0 h in
          only_one x y t (accepted_only x y t e).0.same r.margin s.margin (a.largest e) (b.largest e)
      go false h = a.none (eqb-false _ 0 h) ∙ sym (b.none (eqb-false _ 0 h))
