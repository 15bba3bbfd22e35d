-- The table of two states: its first 64 words under each of the code's functions. Assumes nothing.
use mathlib.Core.Path.{◌≡◌, refl, sym, ap, ap₂, ◌∙◌, subst}
use Prim.Native.Nat.{ℕ, zero, suc, ◌+◌, ◌≤◌, ◌<◌}
use native.Mathlib.Omega.{arith}
use native.Mathlib.Numerals.{add-one}
use mathlib.Core.List.{List, [], ◌∷◌}
use lib.ListN.{length, set, take}
use lib.Seq.{take-set-le, length-take-le, get_or-take}
use Rattle.base_words.specs.Spelt.{all}
use Rattle.chacha20_rounds.specs.declared.Four.{Four}
use Rattle.chacha20_rounds.specs.declared.State.{State}
use Rattle.chacha20_rounds.specs.Rounds.{words, quarter, store, quarter_at, column_round, diagonal_round, double_round}
use Rattle.chacha20_rounds.specs.Rounds.{rounds, added, block_from}
use Rattle.chacha20_x2.specs.Pair.{four_at, put_four, turned_back, row_of, half, put, columns, left_by, turned}
use Rattle.chacha20_x2.specs.Pair.{turned_rows}

take_set : (n : ℕ) (s : List ℕ) (i v : ℕ) → take n (set s i v) ≡ set (take n s) i v
take_set zero s i v = refl
take_set (suc n) [] i v = refl
take_set (suc n) (x ∷ s) zero v = refl
take_set (suc n) (x ∷ s) (suc i) v = ap (λ (l : List ℕ). x ∷ l) (take_set n s i v)

-- four stores among the first 64 words
front : (z : List ℕ) (at step : ℕ) (q : Four) → take 64 (put_four at step q z) ≡ put_four at step q (take 64 z)
unfolding store
front z at step q =
    let i : ℕ = step + at in
    let j : ℕ = step + i in
    take_set 64 (set (set (set z at q.a) i q.b) j q.c) (step + j) q.d
    ∙ ap (λ (s : List ℕ). set s (step + j) q.d) (take_set 64 (set (set z at q.a) i q.b) j q.c
    ∙ ap (λ (s : List ℕ). set s j q.c) (take_set 64 (set z at q.a) i q.b
    ∙ ap (λ (s : List ℕ). set s i q.b) (take_set 64 z at q.a)))

-- four stores past them
pub past : (z y : List ℕ) (at step : ℕ) (q : Four) → 64 ≤ at → y ≡ put_four at step q z → take 64 y ≡ take 64 z
unfolding store
past z y at step q h e =
    let i : ℕ = step + at in
    let j : ℕ = step + i in
    ap (take 64) e
    ∙ take-set-le 64 (set (set (set z at q.a) i q.b) j q.c) (step + j) q.d (omega arith)
    ∙ take-set-le 64 (set (set z at q.a) i q.b) j q.c (omega arith)
    ∙ take-set-le 64 (set z at q.a) i q.b (omega arith)
    ∙ take-set-le 64 z at q.a h

-- four words among them
four_front : (z : List ℕ) (at step : ℕ) → step + (step + (step + at)) < 64
    → four_at at step (take 64 z) ≡ four_at at step z
four_front z at step h = λ i. record {
  a = get_or-take 64 z at 0 (omega arith) i;
  b = get_or-take 64 z (step + at) 0 (omega arith) i;
  c = get_or-take 64 z (step + (step + at)) 0 (omega arith) i;
  d = get_or-take 64 z (step + (step + (step + at))) 0 (omega arith) i;
}

pub quarter_front : (z y : List ℕ) (j : ℕ) (p q : Four) → j < 8 → p ≡ four_at j 16 z
    → q ≡ quarter p.a p.b p.c p.d → y ≡ put_four j 16 q z
    → take 64 y ≡ quarter_at j (16 + j) (32 + j) (48 + j) (take 64 z)
unfolding quarter_at
quarter_front z y j p q h d e f =
    let two : 16 + (16 + j) ≡ 32 + j = omega arith in
    let three : 16 + (16 + (16 + j)) ≡ 48 + j = omega arith in
    ap (take 64) f ∙ front z j 16 q
    ∙ ap (λ (p : Four). put_four j 16 p (take 64 z))
    (e ∙ ap (λ (p : Four). quarter p.a p.b p.c p.d) (d ∙ sym (four_front z j 16 (omega arith))))
    ∙ ap₂ (λ (k l : ℕ). quarter_at j (16 + j) k l (take 64 z)) two three

pub turned_front : (z y : List ℕ) (at by : ℕ) (p q : Four) → at + 4 ≤ 64 → p ≡ four_at at 1 z
    → q ≡ left_by by p → y ≡ put_four at 1 q z → take 64 y ≡ turned at by (take 64 z)
unfolding turned
turned_front z y at by p q h d e f =
    ap (take 64) f ∙ front z at 1 q
    ∙ ap (λ (p : Four). put_four at 1 p (take 64 z)) (e ∙ ap (left_by by) (d ∙ sym (four_front z at 1 (omega arith))))

half_front : (z : List ℕ) (at : ℕ) → at + 52 ≤ 64 → half at (take 64 z) ≡ half at z
unfolding half
half_front z at h =
    λ i. turned_back (four_front z at 1 (omega arith) i) (four_front z (16 + at) 1 (omega arith) i)
    (four_front z (32 + at) 1 (omega arith) i) (four_front z (48 + at) 1 (omega arith) i)

-- a column round, the rows turned, and a column round, with the rows as they were in between
abbrev pub both : List ℕ → List ℕ
both z = columns 8 (turned_rows 1 3 (columns 8 (turned_rows 3 1 z)))

both_half : (s : List ℕ) → length s ≡ 64
    → (half 0 (both s) ≡ double_round (half 0 s)) × (half 4 (both s) ≡ double_round (half 4 s))
unfolding half columns left_by turned turned_rows double_round column_round diagonal_round quarter_at store
both_half s h =
    subst (λ (y : List ℕ). (half 0 (both y) ≡ double_round (half 0 y)) × (half 4 (both y) ≡ double_round (half 4 y)))
    (all 64 s h) (refl, refl)

-- the two states, where the first 64 words become those of both
pub double : (z y : List ℕ) → length z ≡ 128 → take 64 y ≡ both (take 64 z)
    → (half 0 y ≡ double_round (half 0 z)) × (half 4 y ≡ double_round (half 4 z))
double z y h e =
    let l : length (take 64 z) ≡ 64 = length-take-le 64 z (omega arith) in
    let each = both_half (take 64 z) l in (
      sym (half_front y 0 (omega arith)) ∙ ap (half 0) e ∙ each.0 ∙ ap double_round (half_front z 0 (omega arith)),
      sym (half_front y 4 (omega arith)) ∙ ap (half 4) e ∙ each.1 ∙ ap double_round (half_front z 4 (omega arith)),
    )

-- a state, read and put row after row
pub sum_rows : (at : ℕ) (z t v : List ℕ) (p q r s : Four) → p ≡ four_at at 1 z
    → q ≡ four_at (16 + at) 1 z → r ≡ four_at (32 + at) 1 z → s ≡ four_at (48 + at) 1 z
    → v ≡ added (turned_back p q r s) t → v ≡ added (half at z) t
unfolding half
sum_rows at z t v p q r s d e f g h = h ∙ λ i. added (turned_back (d i) (e i) (f i) (g i)) t

pub put_rows : (at : ℕ) (t : State) (z y x w v : List ℕ)
    → y ≡ put_four at 1 (row_of 0 t) z → x ≡ put_four (16 + at) 1 (row_of 1 t) y
    → w ≡ put_four (32 + at) 1 (row_of 2 t) x → v ≡ put_four (48 + at) 1 (row_of 3 t) w
    → v ≡ put at t z
unfolding put
put_rows at t z y x w v d e f g =
    g ∙ ap (put_four (48 + at) 1 (row_of 3 t))
    (f ∙ ap (put_four (32 + at) 1 (row_of 2 t)) (e ∙ ap (put_four (16 + at) 1 (row_of 1 t)) d))

put_half : (s t : State) (x : List ℕ) → length x ≡ 128
    → (half 0 (put 4 t (put 0 s x)) ≡ words s) × (half 4 (put 4 t (put 0 s x)) ≡ words t)
unfolding half put store
put_half s t x h =
    subst (λ (y : List ℕ). (half 0 (put 4 t (put 0 s y)) ≡ words s) × (half 4 (put 4 t (put 0 s y)) ≡ words t))
    (all 128 x h) (refl, refl)

-- a table with both states put in
pub both_put : (s t : State) (x y z : List ℕ) → y ≡ put 0 s x → z ≡ put 4 t y → length x ≡ 128
    → (half 0 z ≡ words s) × (half 4 z ≡ words t)
both_put s t x y z e f h =
    let g : z ≡ put 4 t (put 0 s x) = f ∙ ap (put 4 t) e in
    let each = put_half s t x h in
    (ap (half 0) g ∙ each.0, ap (half 4) g ∙ each.1)

-- one more double round
pub rounds_more : (at n : ℕ) (x y z : List ℕ) → half at x ≡ rounds n (half at z) → half at y ≡ double_round (half at x)
    → half at y ≡ rounds (n + 1) (half at z)
unfolding rounds
rounds_more at n x y z e f = rw (add-one n) (f ∙ ap double_round e)

-- what the sums give
pub block_of : (at : ℕ) (y z r s : List ℕ) → r ≡ added (half at y) s → half at y ≡ rounds 10 (half at z) → half at z ≡ s
    → r ≡ block_from s
unfolding block_from
block_of at y z r s e f g = e ∙ ap (λ (v : List ℕ). added v s) (f ∙ ap (rounds 10) g)
