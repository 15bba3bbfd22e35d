-- m blocks 0, for any m: started, their first words stored one after the other, and as one-time keys. Assumes nothing.
use mathlib.Core.Path.{◌≡◌, refl, sym, ap, ◌∙◌}
use Prim.Native.Nat.{ℕ, ◌+◌, ◌*◌, ◌^◌, ◌<◌, ◌≤◌}
use native.Mathlib.Omega.{arith}
use mathlib.Core.List.{List, [], ◌∷◌, map}
use lib.ListN.{length, get_or, set, take}
use lib.Seq.{length-take-le}
use Rattle.base_algebra.specs.Word.{add}
use Rattle.base_words.specs.List.{tab, over, over_next, over_all, take_tab, flat}
use Rattle.base_words.specs.Bytes.{bytes_of, length_bytes_of, take_bytes_of, words_at, word_at_bytes_of}
use Rattle.chacha20_rounds.specs.Rounds.{block_from}
use Rattle.chacha20_block.specs.ChaCha20.{start, block, block_bytes}
use Rattle.chacha20_lanes.specs.Lanes.{each, each_ext, map_each, get_or_each, length_each, flat_more, length_flat, col}
use Rattle.chacha20_lanes.specs.Lanes.{rows, row, length_rows, length_col, up_to, row_more, row_all}
use Rattle.aead_seal.specs.Aead.{poly_key}
use Rattle.aead_one_time.specs.OneTime.{nonce_of, keys, starts, firsts}

length_starts : (m : ℕ) (key : List ℕ) (a b first : ℕ) → length (starts m key a b first) ≡ m
unfolding starts
length_starts m key a b first = length_each (λ l. start key 0 (a ∷ b ∷ add first l ∷ [])) m

pub start_more : (m : ℕ) (key : List ℕ) (a b first : ℕ) (x₀ x y s : List ℕ) (l n : ℕ)
    → l < m → n ≡ add first l → rows m x ≡ up_to l (starts m key a b first) (rows m x₀)
    → s ≡ start key 0 (a ∷ b ∷ n ∷ []) → rows m y ≡ set (rows m x) l s
    → rows m y ≡ up_to (l + 1) (starts m key a b first) (rows m x₀)
unfolding starts
start_more m key a b first x₀ x y s l n h i e f g =
    g ∙ ap (λ (r : List (List ℕ)). set r l s) e
    ∙ row_more (starts m key a b first) (rows m x₀) s l
    (length_starts m key a b first ∙ sym (length_rows m x₀)) (rw (length_rows m x₀) h)
    (f ∙ ap (λ (k : ℕ). start key 0 (a ∷ b ∷ k ∷ [])) i
    ∙ sym (get_or_each (λ l. start key 0 (a ∷ b ∷ add first l ∷ [])) m l h))

pub start_all : (m : ℕ) (key : List ℕ) (a b first : ℕ) (x₀ x : List ℕ) (l : ℕ) → l ≡ m
    → rows m x ≡ up_to l (starts m key a b first) (rows m x₀) → rows m x ≡ starts m key a b first
start_all m key a b first x₀ x l done e =
    rw done at e ∙ row_all (starts m key a b first) (rows m x₀) m (length_starts m key a b first) (length_rows m x₀)

-- ---- stored one after the other

pub first_words : (m l : ℕ) (x : List ℕ) → l < m → tab (λ w. get_or x (m * w + l) 0) 8 ≡ take 8 (get_or (rows m x) l [])
unfolding col
first_words m l x h = sym (take_tab (λ w. get_or x (m * w + l) 0) 8 16 (omega arith)) ∙ ap (take 8) (sym (row m l x h))

-- the bytes of the first l
unfoldable pub laid : ℕ → ℕ → List ℕ → List ℕ
laid m l x = flat (each (λ j. bytes_of (take 8 (get_or (rows m x) j []))) l)

length_laid : (m l : ℕ) (x : List ℕ) → l ≤ m → length (laid m l x) ≡ 32 * l
unfolding laid
length_laid m l x h = length_flat (λ j. bytes_of (take 8 (get_or (rows m x) j []))) 32 l size
  where
    size : (j : ℕ) → j < l → length (bytes_of (take 8 (get_or (rows m x) j []))) ≡ 32
    size j k =
        let long : length (get_or (rows m x) j []) ≡ 16 = ap length (row m j x (omega arith)) ∙ length_col m j x in
        length_bytes_of (take 8 (get_or (rows m x) j []))
        ∙ omega (arith, length-take-le 8 (get_or (rows m x) j []) (omega arith))

pub store_none : (m : ℕ) (x s : List ℕ) → s ≡ over 0 (laid m 0 x) s
unfolding laid each flat over
store_none m x s = refl

pub store_more : (m : ℕ) (x s t u : List ℕ) (l : ℕ) → l < m → t ≡ over 0 (laid m l x) s
    → u ≡ over (32 * l) (bytes_of (take 8 (get_or (rows m x) l []))) t → u ≡ over 0 (laid m (l + 1) x) s
unfolding laid
store_more m x s t u l h e f =
    let here : 32 * l ≡ 0 + 32 * l = omega arith in
    over_next (laid m l x) (bytes_of (take 8 (get_or (rows m x) l []))) s t u 0 (32 * l)
    (length_laid m l x (omega arith)) e (f ∙ ap (λ (k : ℕ). over k (bytes_of (take 8 (get_or (rows m x) l []))) t) here)
    ∙ ap (λ (p : List ℕ). over 0 p s) (sym (flat_more (λ j. bytes_of (take 8 (get_or (rows m x) j []))) l))

pub store_all : (m : ℕ) (x s t : List ℕ) (l : ℕ) → l ≡ m → length s ≡ 32 * m → t ≡ over 0 (laid m l x) s
    → t ≡ firsts m x
unfolding laid firsts
store_all m x s t l done size e =
    e ∙ over_all (laid m l x) s (length_laid m l x (omega arith) ∙ omega arith)
    ∙ ap (λ (k : ℕ). flat (each (λ j. bytes_of (take 8 (get_or (rows m x) j []))) k)) done

-- ---- as one-time keys

-- only a nonce's words count in a one-time key
pub same_words : (key m n : List ℕ) → words_at 3 m ≡ words_at 3 n → poly_key key m ≡ poly_key key n
unfolding poly_key block_bytes
same_words key m n e = ap (λ (w : List ℕ). take 32 (bytes_of (block (words_at 8 key) 0 w))) e

pub nonce_words : (a b c : ℕ) → a < 2 ^ 32 → b < 2 ^ 32 → c < 2 ^ 32 → words_at 3 (nonce_of a b c) ≡ a ∷ b ∷ c ∷ []
unfolding words_at nonce_of tab
nonce_words a b c ha hb hc =
    let w : List ℕ = a ∷ b ∷ c ∷ [] in
    let p = word_at_bytes_of w 0 (omega arith) ha in
    let q = word_at_bytes_of w 1 (omega arith) hb in
    let r = word_at_bytes_of w 2 (omega arith) hc in
    λ i. p i ∷ q i ∷ r i ∷ []

one_key : (key : List ℕ) (a b c : ℕ) → a < 2 ^ 32 → b < 2 ^ 32 → c < 2 ^ 32
    → bytes_of (take 8 (block (words_at 8 key) 0 (a ∷ b ∷ c ∷ []))) ≡ poly_key key (nonce_of a b c)
unfolding poly_key block_bytes
one_key key a b c ha hb hc =
    take_bytes_of 8 (block (words_at 8 key) 0 (a ∷ b ∷ c ∷ []))
    ∙ ap (λ (n : List ℕ). take 32 (bytes_of (block (words_at 8 key) 0 n))) (sym (nonce_words a b c ha hb hc))

pub keys_law : (m : ℕ) (key k : List ℕ) (a b first : ℕ) (x y : List ℕ) → a < 2 ^ 32 → b < 2 ^ 32
    → k ≡ words_at 8 key → rows m x ≡ starts m k a b first → rows m y ≡ map block_from (rows m x)
    → firsts m y ≡ keys m key a b first
unfolding firsts keys starts block add
keys_law m key k a b first x y ha hb ek ex ey =
    ap flat
    (each_ext (λ l. bytes_of (take 8 (get_or (rows m y) l [])))
    (λ l. poly_key key (nonce_of a b (add first l))) m state)
  where
    made : rows m y ≡ each (λ l. block k 0 (a ∷ b ∷ add first l ∷ [])) m
    made = ey ∙ ap (map block_from) ex ∙ map_each block_from (λ l. start k 0 (a ∷ b ∷ add first l ∷ [])) m

    state : (l : ℕ) → l < m → bytes_of (take 8 (get_or (rows m y) l [])) ≡ poly_key key (nonce_of a b (add first l))
    state l h =
        ap (λ (r : List (List ℕ)). bytes_of (take 8 (get_or r l []))) made
        ∙ ap (λ (s : List ℕ). bytes_of (take 8 s)) (get_or_each (λ l. block k 0 (a ∷ b ∷ add first l ∷ [])) m l h)
        ∙ ap (λ (w : List ℕ). bytes_of (take 8 (block w 0 (a ∷ b ∷ add first l ∷ [])))) ek
        ∙ one_key key a b (add first l) ha hb (omega arith)
