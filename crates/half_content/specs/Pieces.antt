-- Lists cut in pieces of given widths, and words read back from their bytes. Assumes nothing.
use Rattle.std.specs.Prelude.{◌≡◌, refl, List, [], ◌∷◌, ◌++◌, map, ℕ, zero, suc, ◌+◌, ◌*◌, ◌-◌, ◌^◌, ◌<◌, ◌≤◌, length}
use Rattle.std.specs.Prelude.{get_or, take, drop, replicate}
use Rattle.std.proofs.Common.{sym, ap, ◌∙◌, subst, append_assoc, arith, length-append, length-drop, drop-drop}
use Rattle.std.proofs.Common.{get_or-append-add, get_or-take, get_or-drop, take_at, drop_at, length-take-le}
use Rattle.std.proofs.lemmas.List.{length-replicate, replicate-append-replicate}
use Rattle.std.proofs.Math.ListN.{get_or-append}
use Rattle.std.proofs.Math.Seq.{take-append_seam, drop-append-add}
use Rattle.base_words.specs.List.{tab, tab_ext, tab_get_or, flat}
use Rattle.base_words.specs.Bytes.{le32, bytes_of, word_at, words_at, length_bytes_of, word_at_bytes_of, Words}
use Rattle.half_content.specs.Content.{part, sum_first}

-- within a list the default does not matter
pub get_d_any {ℓ} : {A : Type ℓ} (l : List A) (i : ℕ) (d e : A) → i < length l → get_or l i d ≡ get_or l i e
get_d_any [] i d e h = absurd (omega arith)
get_d_any (x ∷ l) zero d e h = refl
get_d_any (x ∷ l) (suc i) d e h = get_d_any l i d e (omega arith)

-- a part, as it is cut
pub part_is : (at n : ℕ) (l : List ℕ) → take n (drop at l) ≡ part at n l
unfolding part
part_is at n l = refl

pub length_part : (l : List ℕ) (at n : ℕ) → at + n ≤ length l → length (part at n l) ≡ n
unfolding part
length_part l at n h = length-take-le n (drop at l) (omega (arith, length-drop at l))

-- ---- pieces

pub length_flat : (fs : List (List ℕ)) → length (flat fs) ≡ sum_first (map length fs) (length fs)
unfolding flat sum_first
length_flat [] = refl
length_flat (f ∷ fs) = length-append f (flat fs) ∙ ap (λ (k : ℕ). length f + k) (length_flat fs)

pub sum_first_suc : (ws : List ℕ) (k : ℕ) → sum_first ws (suc k) ≡ sum_first ws k + get_or ws k 0
unfolding sum_first
sum_first_suc [] zero = refl
sum_first_suc [] (suc k) = refl
sum_first_suc (w ∷ ws) zero = omega arith
sum_first_suc (w ∷ ws) (suc k) = omega (arith, sum_first_suc ws k)

pub flat_append : (p q : List (List ℕ)) → flat (p ++ q) ≡ flat p ++ flat q
unfolding flat
flat_append [] q = refl
flat_append (f ∷ p) q = ap (λ (l : List ℕ). f ++ l) (flat_append p q) ∙ sym (append_assoc f (flat p) (flat q))

-- piece k of what was put together from pieces stands past the first k
pub piece_at : (fs : List (List ℕ)) (rest : List ℕ) (k : ℕ)
    → part (sum_first (map length fs) k) (get_or (map length fs) k 0) (flat fs ++ rest) ≡ get_or fs k []
unfolding part flat sum_first
piece_at [] rest k = refl
piece_at (f ∷ fs) rest zero = rw (append_assoc f (flat fs) rest) (take-append_seam f (flat fs ++ rest))
piece_at (f ∷ fs) rest (suc k) =
    let past : ℕ = sum_first (map length fs) k in
    rw (append_assoc f (flat fs) rest, drop-append-add f (flat fs ++ rest) past) (piece_at fs rest k)

-- piece i of those that all have w elements
pub part_flat : (w : ℕ) (fs : List (List ℕ)) (i : ℕ) → ((k : ℕ) → k < length fs → length (get_or fs k []) ≡ w)
    → i < length fs → part (w * i) w (flat fs) ≡ get_or fs i []
unfolding part flat
part_flat w [] i all h = absurd (omega arith)
part_flat w (f ∷ fs) zero all h =
    let e : w * 0 ≡ 0 = omega arith in
    ap (λ (k : ℕ). take w (drop k (f ++ flat fs))) e ∙ take_at f (flat fs) w (all 0 (omega arith))
part_flat w (f ∷ fs) (suc i) all h =
    let e : w * suc i ≡ w + w * i = omega arith in
    let next : drop w (f ++ flat fs) ≡ flat fs = drop_at f (flat fs) w (all 0 (omega arith)) in
    ap (λ (k : ℕ). take w (drop k (f ++ flat fs))) e
    ∙ ap (take w) (sym (drop-drop (w * i) w (f ++ flat fs)) ∙ ap (drop (w * i)) next)
    ∙ part_flat w fs i (λ k l. all (suc k) (omega arith)) (omega arith)

pub length_even : (w : ℕ) (fs : List (List ℕ)) → ((k : ℕ) → k < length fs → length (get_or fs k []) ≡ w)
    → length (flat fs) ≡ w * length fs
unfolding flat
length_even w [] all = omega arith
length_even w (f ∷ fs) all =
    length-append f (flat fs) ∙ omega (arith, all 0 (omega arith), length_even w fs (λ k l. all (suc k) (omega arith)))

pub take_replicate : (k m : ℕ) → k ≤ m → take k (replicate m 0) ≡ replicate {A = ℕ} k 0
take_replicate k m h =
    let e : k + (m - k) ≡ m = omega arith in
    ap (take k) (sym (replicate-append-replicate k (m - k) 0 ∙ ap (λ (i : ℕ). replicate i 0) e))
    ∙ take_at (replicate k 0) (replicate (m - k) 0) k (length-replicate k 0)

-- ---- words and their bytes

pub word_at_append : (p q : List ℕ) (i : ℕ) → i + 4 ≤ length p → word_at (p ++ q) i ≡ word_at p i
unfolding word_at
word_at_append p q i h =
    let at : (k : ℕ) → k < length p → get_or (p ++ q) k 0 ≡ get_or p k 0 = get_or-append p q 0 in
    rw (at i (omega arith), at (i + 1) (omega arith), at (i + 2) (omega arith), at (i + 3) (omega arith)) refl

pub word_at_past : (p q : List ℕ) (n i : ℕ) → length p ≡ n → word_at (p ++ q) (n + i) ≡ word_at q i
unfolding word_at
word_at_past p q n i h = subst (λ (m : ℕ). word_at (p ++ q) (m + i) ≡ word_at q i) h go
  where
    at : (k : ℕ) → get_or (p ++ q) (length p + i + k) 0 ≡ get_or q (i + k) 0
    at k = let e : length p + i + k ≡ length p + (i + k) = omega arith in rw e (get_or-append-add p q (i + k) 0)

    go : word_at (p ++ q) (length p + i) ≡ word_at q i
    go = rw (get_or-append-add p q i 0, at 1, at 2, at 3) refl

pub get_d_past : (p q : List ℕ) (n i : ℕ) → length p ≡ n → get_or (p ++ q) (n + i) 0 ≡ get_or q i 0
get_d_past p q n i h = subst (λ (m : ℕ). get_or (p ++ q) (m + i) 0 ≡ get_or q i 0) h (get_or-append-add p q i 0)

-- what stands in a part
pub get_d_part : (at w : ℕ) (b : List ℕ) (i : ℕ) → i < w → get_or (part at w b) i 0 ≡ get_or b (at + i) 0
unfolding part
get_d_part at w b i h = get_or-take w (drop at b) i 0 h ∙ get_or-drop at b i 0

pub word_at_part : (at w : ℕ) (b : List ℕ) (i : ℕ) → i + 4 ≤ w → word_at (part at w b) i ≡ word_at b (at + i)
unfolding word_at
word_at_part at w b i h =
    let byte : (k : ℕ) → i + k < w → get_or (part at w b) (i + k) 0 ≡ get_or b (at + i + k) 0 =
    λ k l. get_d_part at w b (i + k) l ∙ ap (λ (j : ℕ). get_or b j 0) (omega arith) in
    rw (get_d_part at w b i (omega arith), byte 1 (omega arith), byte 2 (omega arith), byte 3 (omega arith)) refl

pub words_at_part : (n at w v : ℕ) (b : List ℕ) → 4 * n ≤ w → 4 * n ≤ v
    → words_at n (part at w b) ≡ words_at n (part at v b)
unfolding words_at
words_at_part n at w v b h k =
    tab_ext _ _ n (λ i l. word_at_part at w b (4 * i) (omega arith) ∙ sym (word_at_part at v b (4 * i) (omega arith)))

-- words that fit are read back
pub words_at_bytes_of : (n : ℕ) (w rest : List ℕ) → Words n w → words_at n (bytes_of w ++ rest) ≡ w
unfolding words_at
words_at_bytes_of n w rest h =
    subst (λ (m : ℕ). tab (λ i. word_at (bytes_of w ++ rest) (4 * i)) m ≡ w)
    h.long (tab_ext _ (λ i. get_or w i 0) (length w) word ∙ tab_get_or w)
  where
    word : (i : ℕ) → i < length w → word_at (bytes_of w ++ rest) (4 * i) ≡ get_or w i 0
    word i l =
        word_at_append (bytes_of w) rest (4 * i) (omega (arith, length_bytes_of w)) ∙ word_at_bytes_of w i l (h.below i)

pub word_at_le32 : (x : ℕ) (rest : List ℕ) → x < 2 ^ 32 → word_at (le32 x ++ rest) 0 ≡ x
unfolding bytes_of le32
word_at_le32 x rest h =
    word_at_append (bytes_of (x ∷ [])) rest 0 (omega arith) ∙ word_at_bytes_of (x ∷ []) 0 (omega arith) h
