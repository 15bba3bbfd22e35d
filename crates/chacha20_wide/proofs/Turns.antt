-- Double rounds on each of n states, and the sum of all, for any n. Assumes nothing.
use mathlib.Core.Path.{◌≡◌, refl, sym, ap, ap₂, ◌∙◌}
use Prim.Native.Nat.{ℕ, suc, ◌+◌, ◌*◌, ◌%◌, ◌^◌, ◌<◌, ◌≤◌}
use native.Mathlib.Nat.{add_comm, mul-le-mul_left}
use native.Mathlib.Omega.{arith}
use native.Mathlib.Numerals.{add-one}
use mathlib.Core.List.{List, [], ◌∷◌, map}
use lib.ListN.{get_or, set}
use Rattle.base_algebra.specs.Word.{add}
use Rattle.base_words.specs.List.{tab, tab_ext, get_or_tab}
use Rattle.chacha20_rounds.specs.Rounds.{double_round, added, rounds, block_from}
use Rattle.chacha20_lanes.specs.Lanes.{each_ext, map_each, get_or_each, col, rows, length_rows, up_to, map_more}
use Rattle.chacha20_lanes.specs.Lanes.{map_all}

-- a double round on one more of the n states, and on all
pub round_more : (n : ℕ) (x₀ x y s : List ℕ) (l : ℕ) → l < n
    → rows n x ≡ up_to l (map double_round (rows n x₀)) (rows n x₀)
    → s ≡ double_round (get_or (rows n x) l []) → rows n y ≡ set (rows n x) l s
    → rows n y ≡ up_to (l + 1) (map double_round (rows n x₀)) (rows n x₀)
round_more n x₀ x y s l h e f g =
    map_more double_round (rows n x₀) (rows n x) (rows n y) s l (rw (length_rows n x₀) h) e f g

pub round_all : (n : ℕ) (x₀ x : List ℕ) (l : ℕ) → l ≡ n → rows n x ≡ up_to l (map double_round (rows n x₀)) (rows n x₀)
    → rows n x ≡ map double_round (rows n x₀)
round_all n x₀ x l done e = rw done at e ∙ map_all double_round (rows n x₀) n (length_rows n x₀)

-- the sum of the words is the sum of each state's words
abbrev pub sums : ℕ → List ℕ → List ℕ → List ℕ
sums m x y = tab (λ i. add (get_or x i 0) (get_or y i 0)) m

added_tab : (f g : ℕ → ℕ) → added (tab f 16) (tab g 16) ≡ tab (λ w. add (f w) (g w)) 16
unfolding added tab
added_tab f g = refl

within : (n l w : ℕ) → l < n → w < 16 → n * w + l < 16 * n
within n l w h k = let most : n * w ≤ n * 15 = mul-le-mul_left n (omega arith) in omega arith

added_col : (m n l : ℕ) (x y : List ℕ) → 16 * n ≤ m → l < n → col n l (sums m x y) ≡ added (col n l x) (col n l y)
unfolding col
added_col m n l x y fits h =
    tab_ext (λ w. get_or (sums m x y) (n * w + l) 0)
    (λ w. add (get_or x (n * w + l) 0) (get_or y (n * w + l) 0)) 16
    (λ w k. get_or_tab (λ i. add (get_or x i 0) (get_or y i 0)) m (n * w + l) (omega (arith, within n l w h k)))
    ∙ sym (added_tab (λ w. get_or x (n * w + l) 0) (λ w. get_or y (n * w + l) 0))

sums_comm : (m : ℕ) (x y : List ℕ) → sums m x y ≡ sums m y x
unfolding add
sums_comm m x y =
    tab_ext (λ i. add (get_or x i 0) (get_or y i 0)) (λ i. add (get_or y i 0) (get_or x i 0)) m
    (λ i _. ap (λ (k : ℕ). k % 2 ^ 32) (add_comm (get_or x i 0) (get_or y i 0)))

-- y is x after the rounds
pub added_rows : (m n : ℕ) (x y : List ℕ) → 16 * n ≤ m → rows n y ≡ map (rounds 10) (rows n x)
    → rows n (sums m x y) ≡ map block_from (rows n x)
unfolding rows block_from
added_rows m n x y fits e =
    each_ext (λ l. col n l (sums m x y)) (λ l. block_from (col n l x)) n state
    ∙ sym (map_each block_from (λ l. col n l x) n)
  where
    turned : (l : ℕ) → l < n → col n l y ≡ rounds 10 (col n l x)
    turned l h =
        sym (get_or_each (λ l. col n l y) n l h)
        ∙ ap (λ (r : List (List ℕ)). get_or r l []) (e ∙ map_each (rounds 10) (λ l. col n l x) n)
        ∙ get_or_each (λ l. rounds 10 (col n l x)) n l h

    state : (l : ℕ) → l < n → col n l (sums m x y) ≡ block_from (col n l x)
    state l h =
        ap (col n l) (sums_comm m x y) ∙ added_col m n l y x fits h
        ∙ ap (λ (s : List ℕ). added s (col n l x)) (turned l h)

-- no double round, and one more
pub rounds_none : (n : ℕ) (x : List ℕ) → rows n x ≡ map (rounds 0) (rows n x)
unfolding rounds
rounds_none n x = go (rows n x)
  where
    go : (r : List (List ℕ)) → r ≡ map (rounds 0) r
    go [] = refl
    go (s ∷ r) = ap (λ (t : List (List ℕ)). s ∷ t) (go r)

one_more : (k : ℕ) (s : List ℕ) → double_round (rounds k s) ≡ rounds (suc k) s
unfolding rounds
one_more k s = refl

pub rounds_more : (n k : ℕ) (x y z : List ℕ) → rows n x ≡ map (rounds k) (rows n z)
    → rows n y ≡ map double_round (rows n x) → rows n y ≡ map (rounds (k + 1)) (rows n z)
rounds_more n k x y z e f = rw (add-one k) (f ∙ ap (map double_round) e ∙ go (rows n z))
  where
    go : (z : List (List ℕ)) → map double_round (map (rounds k) z) ≡ map (rounds (suc k)) z
    go [] = refl
    go (s ∷ z) = ap₂ ◌∷◌ (one_more k s) (go z)
