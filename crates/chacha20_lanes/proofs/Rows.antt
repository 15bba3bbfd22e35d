-- One of n states in 16 n words, read and written four words at a time, for any n. Assumes nothing.
use mathlib.Core.Path.{◌≡◌, refl, sym, ap, ◌∙◌}
use Prim.Native.Nat.{ℕ, ◌+◌, ◌*◌, ◌/◌, ◌%◌, ◌<◌, ◌≤◌}
use native.Mathlib.Nat.{mul-add-mod_self_left, mod-eq_of_lt, mul-div_cancel_left}
use native.Mathlib.Omega.{arith}
use mathlib.Core.Bool.{Bool, true, false}
use mathlib.Core.List.{List, [], ◌∷◌}
use borrow.Author.Tests.{eqb-true, eqb-false}
use lib.Dec.{eqb}
use lib.ListN.{length, get_or, set, length-set}
use lib.Seq.{ext_get_or, get_or-set_same, get_or-set_other}
use Rattle.base_words.specs.List.{tab, tab_ext, length_tab, get_or_tab}
use Rattle.chacha20_rounds.specs.declared.Four.{Four}
use Rattle.chacha20_rounds.specs.declared.State.{State}
use Rattle.chacha20_rounds.specs.Rounds.{words}
use Rattle.chacha20_lanes.specs.Lanes.{col, rows, four_at, put_four, row, each_set}

abbrev joined : Four → Four → Four → Four → List ℕ
joined p q r s =
    p.a ∷ p.b ∷ p.c ∷ p.d ∷ q.a ∷ q.b ∷ q.c ∷ q.d ∷ r.a ∷ r.b ∷ r.c ∷ r.d ∷ s.a ∷ s.b ∷ s.c ∷ s.d ∷ []

read : (n : ℕ) (x : List ℕ) (l : ℕ)
    → joined (four_at n l x) (four_at n (4 * n + l) x) (four_at n (8 * n + l) x) (four_at n (12 * n + l) x) ≡ col n l x
unfolding col tab
read n x l =
    let e0 : l ≡ n * 0 + l = omega arith in
    let e1 : n + l ≡ n * 1 + l = omega arith in
    let e2 : 2 * n + l ≡ n * 2 + l = omega arith in
    let e3 : 3 * n + l ≡ n * 3 + l = omega arith in
    let e4 : 4 * n + l ≡ n * 4 + l = omega arith in
    let e5 : n + (4 * n + l) ≡ n * 5 + l = omega arith in
    let e6 : 2 * n + (4 * n + l) ≡ n * 6 + l = omega arith in
    let e7 : 3 * n + (4 * n + l) ≡ n * 7 + l = omega arith in
    let e8 : 8 * n + l ≡ n * 8 + l = omega arith in
    let e9 : n + (8 * n + l) ≡ n * 9 + l = omega arith in
    let e10 : 2 * n + (8 * n + l) ≡ n * 10 + l = omega arith in
    let e11 : 3 * n + (8 * n + l) ≡ n * 11 + l = omega arith in
    let e12 : 12 * n + l ≡ n * 12 + l = omega arith in
    let e13 : n + (12 * n + l) ≡ n * 13 + l = omega arith in
    let e14 : 2 * n + (12 * n + l) ≡ n * 14 + l = omega arith in
    let e15 : 3 * n + (12 * n + l) ≡ n * 15 + l = omega arith in
    λ i. get_or x (e0 i) 0 ∷ get_or x (e1 i) 0 ∷ get_or x (e2 i) 0 ∷ get_or x (e3 i) 0 ∷ get_or x (e4 i) 0
    ∷ get_or x (e5 i) 0 ∷ get_or x (e6 i) 0 ∷ get_or x (e7 i) 0 ∷ get_or x (e8 i) 0 ∷ get_or x (e9 i) 0
    ∷ get_or x (e10 i) 0
    ∷ get_or x (e11 i) 0 ∷ get_or x (e12 i) 0 ∷ get_or x (e13 i) 0 ∷ get_or x (e14 i) 0 ∷ get_or x (e15 i) 0 ∷ []

-- a state of the words that were read
pub read_row : (n : ℕ) (x : List ℕ) (l : ℕ) (p q r s : Four) → l < n → p ≡ four_at n l x
    → q ≡ four_at n (4 * n + l) x → r ≡ four_at n (8 * n + l) x → s ≡ four_at n (12 * n + l) x
    → joined p q r s ≡ get_or (rows n x) l []
read_row n x l p q r s h e f g k = (λ i. joined (e i) (f i) (g i) (k i)) ∙ read n x l ∙ sym (row n l x h)

-- ---- written

-- a word of another state
col_other : (n l j w v : ℕ) (x : List ℕ) (i : ℕ) → l < n → j < n → (j ≡ l → ⊥) → i ≡ n * w + l
    → col n j (set x i v) ≡ col n j x
unfolding col
col_other n l j w v x i hl hj d e =
    tab_ext (λ k. get_or (set x i v) (n * k + j) 0) (λ k. get_or x (n * k + j) 0) 16
    (λ k h. get_or-set_other x i (n * k + j) v 0 (λ (same : n * k + j ≡ i). d (apart k same)))
  where
    apart : (k : ℕ) → n * k + j ≡ i → j ≡ l
    apart k same =
        sym (mul-add-mod_self_left n k j ∙ mod-eq_of_lt hj)
        ∙ ap (λ (m : ℕ). m % n) (same ∙ e) ∙ mul-add-mod_self_left n w l ∙ mod-eq_of_lt hl

-- a word of the state itself
col_set : (n l w v : ℕ) (x : List ℕ) (i : ℕ) → l < n → i ≡ n * w + l → w < 16 → i < length x
    → col n l (set x i v) ≡ set (col n l x) w v
unfolding col
col_set n l w v x i hl e hw room =
    ext_get_or 0 (tab (λ k. get_or (set x i v) (n * k + l) 0) 16) (set (tab (λ k. get_or x (n * k + l) 0) 16) w v)
    (length_tab (λ k. get_or (set x i v) (n * k + l) 0) 16
    ∙ sym (length-set (tab (λ k. get_or x (n * k + l) 0) 16) w v ∙ length_tab (λ k. get_or x (n * k + l) 0) 16))
    (λ k h. at k (rw (length_tab (λ k. get_or (set x i v) (n * k + l) 0) 16) at h))
  where
    apart : (k : ℕ) → n * k + l ≡ i → k ≡ w
    apart k same =
        let pos : 0 < n = omega arith in
        let both : n * k ≡ n * w = omega (arith, same, e) in
        sym (mul-div_cancel_left k pos) ∙ ap (λ (m : ℕ). m / n) both ∙ mul-div_cancel_left w pos

    at : (k : ℕ) → k < 16
        → get_or (tab (λ k. get_or (set x i v) (n * k + l) 0) 16) k 0
        ≡ get_or (set (tab (λ k. get_or x (n * k + l) 0) 16) w v) k 0
    at k h = get_or_tab (λ k. get_or (set x i v) (n * k + l) 0) 16 k h ∙ go (eqb k w) refl
      where
        go : (b : Bool) → eqb k w ≡ b
            → get_or (set x i v) (n * k + l) 0 ≡ get_or (set (tab (λ k. get_or x (n * k + l) 0) 16) w v) k 0
        go true t =
            let s : k ≡ w = eqb-true k w t in
            let here : n * k + l ≡ i = ap (λ (q : ℕ). n * q + l) s ∙ sym e in
            ap (λ (m : ℕ). get_or (set x i v) m 0) here ∙ get_or-set_same x i v 0 room
            ∙ sym (ap (λ (m : ℕ). get_or (set (tab (λ k. get_or x (n * k + l) 0) 16) w v) m 0) s ∙ get_or-set_same
            (tab (λ k. get_or x (n * k + l) 0) 16) w v 0 (rw (length_tab (λ k. get_or x (n * k + l) 0) 16) hw))
        go false t =
            get_or-set_other x i (n * k + l) v 0 (λ same. eqb-false k w t (apart k same))
            ∙ sym (get_or_tab (λ k. get_or x (n * k + l) 0) 16 k h)
            ∙ sym (get_or-set_other (tab (λ k. get_or x (n * k + l) 0) 16) w k v 0 (eqb-false k w t))

-- four words of another state
four_other : (n l j w a b c d at : ℕ) (x : List ℕ) → l < n → j < n → (j ≡ l → ⊥) → at ≡ n * w + l
    → n + at ≡ n * (1 + w) + l → 2 * n + at ≡ n * (2 + w) + l → 3 * n + at ≡ n * (3 + w) + l
    → col n j (put_four n at a b c d x) ≡ col n j x
four_other n l j w a b c d at x hl hj off e0 e1 e2 e3 =
    col_other n l j (3 + w) d (set (set (set x at a) (n + at) b) (2 * n + at) c) (3 * n + at) hl hj off e3
    ∙ col_other n l j (2 + w) c (set (set x at a) (n + at) b) (2 * n + at) hl hj off e2
    ∙ col_other n l j (1 + w) b (set x at a) (n + at) hl hj off e1
    ∙ col_other n l j w a x at hl hj off e0

abbrev set_four : ℕ → ℕ → ℕ → ℕ → ℕ → List ℕ → List ℕ
set_four w a b c d s = set (set (set (set s w a) (1 + w) b) (2 + w) c) (3 + w) d

-- four words of the state itself
four_set : (n l w a b c d at : ℕ) (x : List ℕ) → l < n → at ≡ n * w + l → n + at ≡ n * (1 + w) + l
    → 2 * n + at ≡ n * (2 + w) + l → 3 * n + at ≡ n * (3 + w) + l → 3 + w < 16 → 3 * n + at < length x
    → col n l (put_four n at a b c d x) ≡ set_four w a b c d (col n l x)
four_set n l w a b c d at x hl e0 e1 e2 e3 hw room =
    let x1 = set x at a in
    let x2 = set x1 (n + at) b in
    let x3 = set x2 (2 * n + at) c in
    let l1 : length x1 ≡ length x = length-set x at a in
    let l2 : length x2 ≡ length x = length-set x1 (n + at) b ∙ l1 in
    let l3 : length x3 ≡ length x = length-set x2 (2 * n + at) c ∙ l2 in
    col_set n l (3 + w) d x3 (3 * n + at) hl e3 hw (rw l3 room)
    ∙ ap (λ (s : List ℕ). set s (3 + w) d)
    (col_set n l (2 + w) c x2 (2 * n + at) hl e2 (omega arith) (omega (arith, l2))
    ∙ ap (λ (s : List ℕ). set s (2 + w) c) (col_set n l (1 + w) b x1 (n + at) hl e1 (omega arith) (omega (arith, l1))
    ∙ ap (λ (s : List ℕ). set s (1 + w) b) (col_set n l w a x at hl e0 (omega arith) (omega arith))))

abbrev first : ℕ → ℕ → State → List ℕ → List ℕ
first n l t x = put_four n l t.x0 t.x1 t.x2 t.x3 x

abbrev second : ℕ → ℕ → State → List ℕ → List ℕ
second n l t x = put_four n (4 * n + l) t.x4 t.x5 t.x6 t.x7 x

abbrev third : ℕ → ℕ → State → List ℕ → List ℕ
third n l t x = put_four n (8 * n + l) t.x8 t.x9 t.x10 t.x11 x

abbrev fourth : ℕ → ℕ → State → List ℕ → List ℕ
fourth n l t x = put_four n (12 * n + l) t.x12 t.x13 t.x14 t.x15 x

length_put_four : (n at a b c d : ℕ) (x : List ℕ) → length (put_four n at a b c d x) ≡ length x
length_put_four n at a b c d x = simp length-set

module _ (n : ℕ) (x y z v w : List ℕ) (l : ℕ) (t : State) (lx : 16 * n ≤ length x) (h : l < n)
    (e : y ≡ first n l t x) (f : z ≡ second n l t y) (g : v ≡ third n l t z) (d : w ≡ fourth n l t v) where
  others : (j : ℕ) → j < n → (j ≡ l → ⊥) → col n j w ≡ col n j x
  others j hj off =
      ap (col n j) d
      ∙ four_other n l j 12 _ _ _ _ (12 * n + l) v h hj off (omega arith) (omega arith) (omega arith) (omega arith)
      ∙ ap (col n j) g
      ∙ four_other n l j 8 _ _ _ _ (8 * n + l) z h hj off (omega arith) (omega arith) (omega arith) (omega arith)
      ∙ ap (col n j) f
      ∙ four_other n l j 4 _ _ _ _ (4 * n + l) y h hj off (omega arith) (omega arith) (omega arith) (omega arith)
      ∙ ap (col n j) e ∙ four_other n l j 0 _ _ _ _ l x h hj off (omega arith) (omega arith) (omega arith) (omega arith)

  filled : set_four 12 t.x12 t.x13 t.x14 t.x15 (set_four 8 t.x8 t.x9 t.x10 t.x11
      (set_four 4 t.x4 t.x5 t.x6 t.x7 (set_four 0 t.x0 t.x1 t.x2 t.x3 (col n l x)))) ≡ words t
  unfolding col tab
  filled = refl

  itself : col n l w ≡ words t
  itself =
      let ly : length y ≡ length x = ap length e ∙ length_put_four n l _ _ _ _ x in
      let lz : length z ≡ length x = ap length f ∙ length_put_four n (4 * n + l) _ _ _ _ y ∙ ly in
      let lv : length v ≡ length x = ap length g ∙ length_put_four n (8 * n + l) _ _ _ _ z ∙ lz in
      let sy = ap (col n l) e ∙ four_set n l 0 _ _ _ _ l x h (omega arith)
      (omega arith) (omega arith) (omega arith) (omega arith) (omega arith) in
      let sz = ap (col n l) f ∙ four_set n l 4 _ _ _ _ (4 * n + l) y h (omega arith)
      (omega arith) (omega arith) (omega arith) (omega arith) (omega arith) in
      let sv = ap (col n l) g ∙ four_set n l 8 _ _ _ _ (8 * n + l) z h (omega arith)
      (omega arith) (omega arith) (omega arith) (omega arith) (omega arith) in
      let sw = ap (col n l) d ∙ four_set n l 12 _ _ _ _ (12 * n + l) v h (omega arith)
      (omega arith) (omega arith) (omega arith) (omega arith) (omega arith) in
      sw ∙ ap (set_four 12 t.x12 t.x13 t.x14 t.x15)
      (sv ∙ ap (set_four 8 t.x8 t.x9 t.x10 t.x11) (sz ∙ ap (set_four 4 t.x4 t.x5 t.x6 t.x7) sy))
      ∙ filled

  -- a state whose words were written
  pub write_row : rows n w ≡ set (rows n x) l (words t)
  unfolding rows
  write_row = each_set (λ j. col n j x) (λ j. col n j w) n l (words t) h itself others
