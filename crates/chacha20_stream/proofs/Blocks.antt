-- m blocks in a row, for any m: started, written one after the other, and as the key stream. Assumes nothing.
use mathlib.Core.Path.{◌≡◌, refl, sym, ap, ap₂, ◌∙◌}
use Prim.Native.Nat.{ℕ, ◌+◌, ◌*◌, ◌/◌, ◌%◌, ◌<◌}
use native.Mathlib.Omega.{arith}
use mathlib.Core.List.{List, [], ◌++◌, map}
use lib.ListN.{length, get_or, set}
use Rattle.base_algebra.specs.Word.{add}
use Rattle.base_words.specs.List.{tab, over, over_next, over_all, tab_ext, tab_get_or, flat}
use Rattle.base_words.specs.Bytes.{bytes_of, bytes_of_append, length_bytes_of}
use Rattle.chacha20_rounds.specs.Rounds.{block_from}
use Rattle.chacha20_block.specs.ChaCha20.{start, block, length_block}
use Rattle.chacha20_lanes.specs.Lanes.{each, each_ext, map_each, get_or_each, length_each, flat_tab, flat_more}
use Rattle.chacha20_lanes.specs.Lanes.{length_flat, col, rows, row, in_order, length_rows, length_col, length_in_order}
use Rattle.chacha20_lanes.specs.Lanes.{up_to, row_more, row_all}
use Rattle.chacha20_stream.specs.Keystream.{starts, blocks_from, key_word}

length_starts : (m : ℕ) (key : List ℕ) (n : ℕ) (nonce : List ℕ) → length (starts m key n nonce) ≡ m
unfolding starts
length_starts m key n nonce = length_each (λ l. start key (add n l) nonce) m

-- one more of the starting states, and all
pub start_more : (m : ℕ) (key : List ℕ) (counter : ℕ) (nonce x₀ x y s : List ℕ) (l n : ℕ)
    → l < m → n ≡ add counter l → rows m x ≡ up_to l (starts m key counter nonce) (rows m x₀)
    → s ≡ start key n nonce → rows m y ≡ set (rows m x) l s
    → rows m y ≡ up_to (l + 1) (starts m key counter nonce) (rows m x₀)
unfolding starts
start_more m key counter nonce x₀ x y s l n h i e f g =
    g ∙ ap (λ (r : List (List ℕ)). set r l s) e
    ∙ row_more (starts m key counter nonce) (rows m x₀) s l
    (length_starts m key counter nonce ∙ sym (length_rows m x₀)) (rw (length_rows m x₀) h)
    (f ∙ ap (λ (k : ℕ). start key k nonce) i ∙ sym (get_or_each (λ l. start key (add counter l) nonce) m l h))

pub start_all : (m : ℕ) (key : List ℕ) (counter : ℕ) (nonce x₀ x : List ℕ) (l : ℕ) → l ≡ m
    → rows m x ≡ up_to l (starts m key counter nonce) (rows m x₀) → rows m x ≡ starts m key counter nonce
start_all m key counter nonce x₀ x l done e =
    rw done at e
    ∙ row_all (starts m key counter nonce) (rows m x₀) m (length_starts m key counter nonce) (length_rows m x₀)

pub blocks_of_starts : (m : ℕ) (key : List ℕ) (n : ℕ) (nonce : List ℕ)
    → map block_from (starts m key n nonce) ≡ blocks_from m key n nonce
unfolding starts blocks_from block
blocks_of_starts m key n nonce = map_each block_from (λ l. start key (add n l) nonce) m

-- ---- written one after the other

-- the words of the first l states
unfoldable pub laid : ℕ → ℕ → List ℕ → List ℕ
laid m l x = flat (each (λ j. col m j x) l)

length_laid : (m l : ℕ) (x : List ℕ) → length (laid m l x) ≡ 16 * l
unfolding laid
length_laid m l x = length_flat (λ j. col m j x) 16 l (λ j h. length_col m j x)

laid_more : (m l : ℕ) (x : List ℕ) → l < m → laid m l x ++ get_or (rows m x) l [] ≡ laid m (l + 1) x
unfolding laid
laid_more m l x h = ap (λ (s : List ℕ). laid m l x ++ s) (row m l x h) ∙ sym (flat_more (λ j. col m j x) l)

laid_all : (m l : ℕ) (x : List ℕ) → l ≡ m → laid m l x ≡ in_order m x
unfolding laid in_order rows
laid_all m l x done = ap (λ (k : ℕ). flat (each (λ j. col m j x) k)) done

pub put_none : (m : ℕ) (x s : List ℕ) (at : ℕ) → s ≡ over at (laid m 0 x) s
unfolding laid each flat over
put_none m x s at = refl

pub put_more : (m : ℕ) (x s t u : List ℕ) (at l : ℕ) → l < m → t ≡ over at (laid m l x) s
    → u ≡ over (at + 16 * l) (get_or (rows m x) l []) t → u ≡ over at (laid m (l + 1) x) s
put_more m x s t u at l h e f =
    over_next (laid m l x) (get_or (rows m x) l []) s t u at (16 * l) (length_laid m l x) e f
    ∙ ap (λ (p : List ℕ). over at p s) (laid_more m l x h)

pub put_all : (m : ℕ) (x s t : List ℕ) (at l : ℕ) → l ≡ m → t ≡ over at (laid m l x) s → t ≡ over at (in_order m x) s
put_all m x s t at l done e = e ∙ ap (λ (p : List ℕ). over at p s) (laid_all m l x done)

-- and as bytes
pub store_none : (m : ℕ) (x s : List ℕ) → s ≡ over 0 (bytes_of (laid m 0 x)) s
unfolding laid each flat over bytes_of
store_none m x s = refl

pub store_more : (m : ℕ) (x s t u : List ℕ) (l : ℕ) → l < m → t ≡ over 0 (bytes_of (laid m l x)) s
    → u ≡ over (64 * l) (bytes_of (get_or (rows m x) l [])) t → u ≡ over 0 (bytes_of (laid m (l + 1) x)) s
store_more m x s t u l h e f =
    let here : 64 * l ≡ 0 + 64 * l = omega arith in
    over_next (bytes_of (laid m l x)) (bytes_of (get_or (rows m x) l [])) s t u 0 (64 * l) (length_bytes_of (laid m l x)
    ∙ omega (arith, length_laid m l x)) e (f ∙ ap (λ (k : ℕ). over k (bytes_of (get_or (rows m x) l [])) t) here)
    ∙ ap (λ (p : List ℕ). over 0 p s)
    (sym (bytes_of_append (laid m l x) (get_or (rows m x) l [])) ∙ ap bytes_of (laid_more m l x h))

pub store_all : (m : ℕ) (x s t : List ℕ) (l : ℕ) → l ≡ m → length s ≡ 64 * m → t ≡ over 0 (bytes_of (laid m l x)) s
    → t ≡ bytes_of (in_order m x)
store_all m x s t l done size e =
    e ∙ ap (λ (p : List ℕ). over 0 (bytes_of p) s) (laid_all m l x done)
    ∙ over_all (bytes_of (in_order m x)) s (length_bytes_of (in_order m x) ∙ omega (arith, length_in_order m x))

-- ---- the blocks' words in order are the key stream's

one_block : (key : List ℕ) (n : ℕ) (nonce : List ℕ) (l : ℕ) → length key ≡ 8 → length nonce ≡ 3
    → block key (add n l) nonce ≡ tab (λ w. key_word key n nonce (16 * l + w)) 16
unfolding key_word
one_block key n nonce l hk hn =
    let b = block key (add n l) nonce in
    let size : length b ≡ 16 = length_block key (add n l) nonce hk hn in
    sym (tab_get_or b) ∙ ap (tab (λ i. get_or b i 0)) size
    ∙ tab_ext (λ i. get_or b i 0) (λ w. key_word key n nonce (16 * l + w)) 16 (λ w h. word w h)
  where
    word : (w : ℕ) → w < 16 → get_or (block key (add n l) nonce) w 0 ≡ key_word key n nonce (16 * l + w)
    word w h =
        let q : l ≡ (16 * l + w) / 16 = omega arith in
        let r : w ≡ (16 * l + w) % 16 = omega arith in
        ap₂ (λ (k p : ℕ). get_or (block key (add n k) nonce) p 0) q r

-- and their places among the states
pub places : (m : ℕ) (x : List ℕ) → tab (λ j. get_or x (m * (j % 16) + j / 16) 0) (16 * m) ≡ in_order m x
unfolding in_order rows col
places m x =
    sym (flat_tab (λ j. get_or x (m * (j % 16) + j / 16) 0) 16 m)
    ∙ ap flat (each_ext (λ l. tab (λ w. get_or x (m * ((16 * l + w) % 16) + (16 * l + w) / 16) 0) 16)
    (λ l. tab (λ w. get_or x (m * w + l) 0) 16) m (λ l h. tab_ext _ _ 16 (word l)))
  where
    word : (l w : ℕ) → w < 16 → get_or x (m * ((16 * l + w) % 16) + (16 * l + w) / 16) 0 ≡ get_or x (m * w + l) 0
    word l w h =
        let r : (16 * l + w) % 16 ≡ w = omega arith in
        let q : (16 * l + w) / 16 ≡ l = omega arith in
        ap₂ (λ (a b : ℕ). get_or x (m * a + b) 0) r q

pub in_order_lem : (m : ℕ) (key : List ℕ) (n : ℕ) (nonce x : List ℕ) → length key ≡ 8 → length nonce ≡ 3
    → rows m x ≡ blocks_from m key n nonce → in_order m x ≡ tab (key_word key n nonce) (16 * m)
unfolding in_order blocks_from
in_order_lem m key n nonce x hk hn e =
    ap flat (e ∙ each_ext (λ l. block key (add n l) nonce)
    (λ l. tab (λ w. key_word key n nonce (16 * l + w)) 16) m (λ l h. one_block key n nonce l hk hn))
    ∙ flat_tab (key_word key n nonce) 16 m
