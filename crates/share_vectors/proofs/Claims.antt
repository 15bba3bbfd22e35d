-- Claim opened-sum: whatever the masks, the two boxes' words sum to measure - T + r, and with sign -1 to
-- T - measure + r, where T is the threshold or the first mark. Claim join law: whatever the key seeds, their answers
-- sum to 1 if the rule that was dealt is met, else to 0. Both over free words: where they come from is another layer's
-- matter; and over either sign. That the formulas are equal to the papers' stands in `specs/Claims.antt`. Assumes
-- nothing.
use Rattle.std.specs.Prelude.{◌≡◌, true, List, [], ◌∷◌, ℤ, pos, neg_ℤ, ◌-ℤ◌, ◌*ℤ◌, get_or}
use Rattle.std.proofs.Math.Path.{refl, ap}
use Rattle.std.proofs.Common.{sym, ap₂, ◌∙◌, arith}
use Prim.Native.Nat.{ℕ, zero, suc, ◌+◌, ◌^◌, ◌<◌}
use Rattle.base_algebra.specs.Mod.{m_eq}
use Rattle.base_algebra.specs.Integer.{residue}
use Rattle.base_algebra.specs.Ring.{ring}
use Rattle.base_algebra.specs.Word.{words, add, sub, mul, signed, ◌≈◌, signed≈, add_lt, sub_lt}
use Rattle.base_algebra.specs.Bit.{only, odd}
use Rattle.base_algebra.specs.Sum.{sum, sum_ext}
use Rattle.base_words.specs.List.{get_or_tab}
use Rattle.dcf_node.specs.Node.{key_for}
use Rattle.measure_table.specs.declared.Terms.{Terms}
use Rattle.measure_table.specs.declared.Rule.{Rule}
use Rattle.measure_table.specs.Measure.{length_fits, all_in_range, measure, sign, difference}
use Rattle.measure_table.specs.Measure.{meets, rule_fits, in_order, offset_of, width_of, mark_of}
use Rattle.measure_table.specs.Measure.{k_word, sign_word, own_word, carried}
use Rattle.measure_table.specs.Laws.{width_most}
use Rattle.measure_table.specs.Laws.{difference_plain, difference_close}
use Rattle.measure_table.proofs.Laws.{measure≈, sign_word≈, meets_width}
use Rattle.share_vectors.specs.Share.{plus, inner, other_c, other_r, share, box_word, answer}
use Rattle.share_vectors.specs.Claims.{ideal, width_test}

-- ---- the products: X · Y = MX · MY + mx · my - MX · my - MY · mx, where MX = X + mx and mx = x0 + x1

-- one place more
place : (s A B C D E F x y x0 x1 y0 y1 : ℕ) → s ≈ sub (sub (add A B) (add C D)) (add E F)
    → add s (mul x y)
    ≈ sub
    (sub (add (add A (mul (add x (add x0 x1)) (add y (add y0 y1)))) (add B (mul (add x0 x1) (add y0 y1))))
    (add (add C (mul (add x (add x0 x1)) y0)) (add D (mul (add x (add x0 x1)) y1))))
    (add (add E (mul (add y (add y0 y1)) x0)) (add F (mul (add y (add y0 y1)) x1)))
place s A B C D E F x y x0 x1 y0 y1 e =
    ring (A ∷ B ∷ C ∷ D ∷ E ∷ F ∷ x ∷ y ∷ x0 ∷ x1 ∷ y0 ∷ y1 ∷ []) (search words depth 40 fits 9000) refl

module _ (x y x0 x1 y0 y1 : ℕ → ℕ) where
  abbrev mx : ℕ → ℕ
  mx i = add (x0 i) (x1 i)

  abbrev my : ℕ → ℕ
  my i = add (y0 i) (y1 i)

  abbrev MX : ℕ → ℕ
  MX i = add (x i) (mx i)

  abbrev MY : ℕ → ℕ
  MY i = add (y i) (my i)

  products : (n : ℕ)
      → sum (λ i. mul (x i) (y i)) n
      ≈ sub (sub (add (sum (λ i. mul (MX i) (MY i)) n) (sum (λ i. mul (mx i) (my i)) n))
      (add (sum (λ i. mul (MX i) (y0 i)) n) (sum (λ i. mul (MX i) (y1 i)) n)))
      (add (sum (λ i. mul (MY i) (x0 i)) n) (sum (λ i. mul (MY i) (x1 i)) n))
  unfolding sum sub add
  products zero = m_eq refl
  products (suc n) = place _ _ _ _ _ _ _ (x n) (y n) (x0 n) (x1 n) (y0 n) (y1 n) (products n)

-- ---- the same over lists

at_place : (n i : ℕ) (a b : List ℕ) → i < n → get_or (plus n a b) i 0 ≡ add (get_or a i 0) (get_or b i 0)
unfolding plus
at_place n i a b h = get_or_tab (λ i. add (get_or a i 0) (get_or b i 0)) n i h

inner_of : (n : ℕ) (a b : List ℕ) (f g : ℕ → ℕ)
    → ((i : ℕ) → i < n → get_or a i 0 ≡ f i) → ((i : ℕ) → i < n → get_or b i 0 ≡ g i)
    → inner n a b ≡ sum (λ i. mul (f i) (g i)) n
unfolding inner
inner_of n a b f g ea eb = sum_ext _ _ n (λ i h. ap₂ mul (ea i h) (eb i h))

-- a check's two words, in the names of 01 [SPEC 5.5, 5.6, 16.2, 17.2, 17.4]
module _ (terms : Terms) (mark t : ℕ) (x y x0 x1 y0 y1 : List ℕ) (c0 r r0 : ℕ) where
  abbrev n : ℕ
  n = terms.n

  -- what each box carries
  abbrev cx : List ℕ
  cx = carried terms 0 x

  abbrev cy : List ℕ
  cy = carried terms 1 y

  abbrev pub mask_x : List ℕ
  mask_x = plus n x0 x1

  abbrev pub mask_y : List ℕ
  mask_y = plus n y0 y1

  abbrev pub masked_x : List ℕ
  masked_x = plus n cx mask_x

  abbrev pub masked_y : List ℕ
  masked_y = plus n cy mask_y

  abbrev pub word0 : ℕ
  word0 = box_word terms mark (share 0 n c0 masked_x masked_y x0 y0) (own_word terms x) r0

  abbrev pub word1 : ℕ
  word1 =
      box_word terms mark
      (share 1 n (other_c n mask_x mask_y c0) masked_x masked_y x1 y1)
      (own_word terms y)
      (other_r terms mark r t r0)

  inners : inner n cx cy
      ≈ sub
      (sub (add (inner n masked_x masked_y) (inner n mask_x mask_y)) (add (inner n masked_x y0) (inner n masked_x y1)))
      (add (inner n masked_y x0) (inner n masked_y x1))
  inners =
      let it : (v : List ℕ) (i : ℕ) → i < n → get_or v i 0 ≡ get_or v i 0 = λ v i h. refl in
      let mx : (i : ℕ) → i < n → get_or mask_x i 0 ≡ add (get_or x0 i 0) (get_or x1 i 0) =
      λ i h. at_place n i x0 x1 h in
      let my : (i : ℕ) → i < n → get_or mask_y i 0 ≡ add (get_or y0 i 0) (get_or y1 i 0) =
      λ i h. at_place n i y0 y1 h in
      let MX : (i : ℕ) → i < n → get_or masked_x i 0 ≡ add (get_or cx i 0) (add (get_or x0 i 0) (get_or x1 i 0)) =
      λ i h. at_place n i cx mask_x h ∙ ap (add (get_or cx i 0)) (mx i h) in
      let MY : (i : ℕ) → i < n → get_or masked_y i 0 ≡ add (get_or cy i 0) (add (get_or y0 i 0) (get_or y1 i 0)) =
      λ i h. at_place n i cy mask_y h ∙ ap (add (get_or cy i 0)) (my i h) in
      rw (
        inner_of n cx cy _ _ (it cx) (it cy),
        inner_of n masked_x masked_y _ _ MX MY,
        inner_of n mask_x mask_y _ _ mx my,
        inner_of n masked_x y0 _ _ MX (it y0),
        inner_of n masked_x y1 _ _ MX (it y1),
        inner_of n masked_y x0 _ _ MY (it x0),
        inner_of n masked_y x1 _ _ MY (it x1),
      )
      (products
      (λ i. get_or cx i 0)
      (λ i. get_or cy i 0)
      (λ i. get_or x0 i 0)
      (λ i. get_or x1 i 0)
      (λ i. get_or y0 i 0)
      (λ i. get_or y1 i 0)
      n)

  -- the words open to the products and the own terms, less T, by the sign, and under r
  words_open :
      (let m : ℕ = add (add (own_word terms x) (own_word terms y)) (mul (k_word terms) (inner n cx cy)) in
      add word0 word1 ≈ add (mul (sign_word terms mark) (sub m t)) r)
  unfolding box_word share other_c other_r only odd
  words_open =
      open_sum (inner n cx cy) _ _ _ _ _ _
      (sign_word terms mark)
      (k_word terms)
      (own_word terms x)
      (own_word terms y)
      c0
      r
      t
      r0
      inners
    where
      open_sum : (s A B C D E F g k o p c r t r0 : ℕ) → s ≈ sub (sub (add A B) (add C D)) (add E F)
          → add
          (add (mul g (add (mul k (add (sub (sub c C) E) 0)) o)) r0)
          (add (mul g (add (mul k (add (sub (sub (sub B c) D) F) A)) p)) (sub (sub r (mul g t)) r0))
          ≈ add (mul g (sub (add (add o p) (mul k s)) t)) r
      open_sum s A B C D E F g k o p c r t r0 e =
          ring
          (A ∷ B ∷ C ∷ D ∷ E ∷ F ∷ g ∷ k ∷ o ∷ p ∷ c ∷ r ∷ t ∷ r0 ∷ [])
          (search words depth 40 fits 9000)
          refl

  -- Claim opened-sum
  pub opened_sum : add word0 word1 ≈ residue (2 ^ 32) (difference terms mark (measure terms x y) (signed t)) + r
  unfolding inner difference
  opened_sum =
      last (sign terms mark) (measure terms x y) (signed t) _ _ _ r t
      words_open
      (sign_word≈ terms mark)
      (measure≈ terms x y)
      (signed≈ t)
    where
      last : (G M S : ℤ) (z g m r t : ℕ) → z ≈ add (mul g (sub m t)) r → g ≈ residue (2 ^ 32) G
          → m ≈ residue (2 ^ 32) M → residue (2 ^ 32) S ≈ t → z ≈ residue (2 ^ 32) (G *ℤ (M -ℤ S)) + r
      last G M S z g m r t ez eg em es =
          ring (residue (2 ^ 32) G ∷ residue (2 ^ 32) M ∷ r ∷ t ∷ []) (search words depth 40 fits 5000) refl

  -- measure - T + r ..
  pub opened_plain : sign terms mark ≡ pos 1
      → add word0 word1 ≈ residue (2 ^ 32) (measure terms x y -ℤ signed t) + r
  opened_plain plain = rw (sym (difference_plain terms mark plain (measure terms x y) (signed t))) opened_sum

  -- .. and 02, §2: "The opened sum for those two codes is T - measure + r" [SPEC 17.6]
  pub opened_close : sign terms mark ≡ neg_ℤ (pos 1)
      → add word0 word1 ≈ residue (2 ^ 32) (signed t -ℤ measure terms x y) + r
  opened_close close = rw (sym (difference_close terms mark close (measure terms x y) (signed t))) opened_sum

-- ---- the join law

-- Claim join law: for every vector in range, every rule that a deal takes, every mask, every r and every two key seeds
pub join_law : (terms : Terms) (rule : Rule) (x y x0 x1 y0 y1 : List ℕ) (c0 r r0 : ℕ) (k0 k1 : List ℕ)
    → length_fits terms ≡ true → all_in_range terms x ≡ true → all_in_range terms y ≡ true → rule_fits terms rule ≡ true
    → in_order rule ≡ true → r < 2 ^ 32
    → (let m : ℕ = mark_of rule in
    let t : ℕ = offset_of rule in
    let w : ℕ = width_of rule in
    let z : ℕ = add (word0 terms m t x y x0 x1 y0 y1 c0 r r0) (word1 terms m t x y x0 x1 y0 y1 c0 r r0) in
    add (answer w 0 (key_for k0 k1 r) k0 z) (answer w 1 (key_for k0 k1 r) k1 z))
    ≡ only (meets terms rule (measure terms x y)) 1
join_law terms rule x y x0 x1 y0 y1 c0 r r0 k0 k1 hn hx hy hr ho lr =
    let m : ℕ = mark_of rule in
    let t : ℕ = offset_of rule in
    let w : ℕ = width_of rule in
    let z : ℕ = add (word0 terms m t x y x0 x1 y0 y1 c0 r r0) (word1 terms m t x y x0 x1 y0 y1 c0 r r0) in
    let opened : sub z r ≈ residue (2 ^ 32) (difference terms m (measure terms x y) (signed t)) =
    less_r z _ r (opened_sum terms m t x y x0 x1 y0 y1 c0 r r0) in
    ideal w k0 k1 r z lr (add_lt _ _)
    ∙ width_test w r z (omega (arith, width_most rule ho)) lr (add_lt _ _)
    ∙ meets_width terms rule (sub z r) x y hn hx hy hr ho (sub_lt z r) opened
  where
    less_r : (z d r : ℕ) → z ≈ d + r → sub z r ≈ d
    less_r z d r e = ring (d ∷ r ∷ []) (search words depth 40 fits 5000) refl
