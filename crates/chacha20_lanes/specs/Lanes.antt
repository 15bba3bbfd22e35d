-- n states side by side in 16 n words, for any n. Assumes nothing.
use Rattle.std.specs.Prelude.{◌≡◌, refl, ℕ, zero, suc, ◌+◌, ◌*◌, ◌<◌}
use Rattle.std.specs.Prelude.{List, [], ◌∷◌, ◌++◌, map, length, get_or, set, take, drop}
use Rattle.std.proofs.Common.{sym, ap, ap₂, ◌∙◌, append-nil, append_assoc, arith, add-one, length-append}
use Rattle.std.proofs.Common.{drop_of_length-le, take_all, take_at}
use Rattle.std.proofs.lemmas.List.{length-map}
use Rattle.std.proofs.Math.Seq.{drop-append-add}
use Rattle.base_words.specs.List.{flat, tab, length_tab, tab_ext, tab_add}
use Rattle.chacha20_rounds.specs.declared.Four.{Four}

-- f 0, f 1, .., f (n - 1)
unfoldable pub each : (ℕ → List ℕ) → ℕ → List (List ℕ)
each f zero = []
each f (suc n) = f 0 ∷ each (λ i. f (suc i)) n

-- state l of the n: its word w stands at n * w + l
unfoldable pub col : ℕ → ℕ → List ℕ → List ℕ
col n l x = tab (λ w. get_or x (n * w + l) 0) 16

-- four words of a state, from the one at `at` on
abbrev pub four_at : ℕ → ℕ → List ℕ → Four
four_at n at x = record {
  a = get_or x at 0;
  b = get_or x (n + at) 0;
  c = get_or x (2 * n + at) 0;
  d = get_or x (3 * n + at) 0;
}

-- and those words written over
abbrev pub put_four : ℕ → ℕ → ℕ → ℕ → ℕ → ℕ → List ℕ → List ℕ
put_four n at a b c d x = set (set (set (set x at a) (n + at) b) (2 * n + at) c) (3 * n + at) d

-- the n states
unfoldable pub rows : ℕ → List ℕ → List (List ℕ)
rows n x = each (λ l. col n l x) n

-- their words, state after state
unfoldable pub in_order : ℕ → List ℕ → List ℕ
in_order n x = flat (rows n x)

-- ---- laws of each

pub length_each : (f : ℕ → List ℕ) (n : ℕ) → length (each f n) ≡ n
unfolding each
length_each f zero = refl
length_each f (suc n) = ap suc (length_each (λ i. f (suc i)) n)

pub get_or_each : (f : ℕ → List ℕ) (n i : ℕ) → i < n → get_or (each f n) i [] ≡ f i
unfolding each
get_or_each f zero i h = absurd (omega arith)
get_or_each f (suc n) zero h = refl
get_or_each f (suc n) (suc i) h = get_or_each (λ i. f (suc i)) n i (omega arith)

pub each_ext : (f g : ℕ → List ℕ) (n : ℕ) → ((i : ℕ) → i < n → f i ≡ g i) → each f n ≡ each g n
unfolding each
each_ext f g zero h = refl
each_ext f g (suc n) h =
    ap₂ ◌∷◌ (h 0 (omega arith)) (each_ext (λ i. f (suc i)) (λ i. g (suc i)) n (λ i k. h (suc i) (omega arith)))

pub map_each : (h : List ℕ → List ℕ) (f : ℕ → List ℕ) (n : ℕ) → map h (each f n) ≡ each (λ i. h (f i)) n
unfolding each
map_each h f zero = refl
map_each h f (suc n) = ap (λ (r : List (List ℕ)). h (f 0) ∷ r) (map_each h (λ i. f (suc i)) n)

-- two rules that differ at l alone
pub each_set : (f g : ℕ → List ℕ) (n l : ℕ) (w : List ℕ) → l < n → g l ≡ w → ((i : ℕ) → i < n → (i ≡ l → ⊥) → g i ≡ f i)
    → each g n ≡ set (each f n) l w
unfolding each
each_set f g zero l w h e k = absurd (omega arith)
each_set f g (suc n) zero w h e k =
    ap₂ ◌∷◌ e (each_ext (λ i. g (suc i)) (λ i. f (suc i)) n (λ i m. k (suc i) (omega arith) (λ no. omega arith)))
each_set f g (suc n) (suc l) w h e k =
    ap₂ ◌∷◌ (k 0 (omega arith) (λ no. omega arith)) (each_set (λ i. f (suc i)) (λ i. g (suc i)) n l w
    (omega arith) e (λ i m d. k (suc i) (omega arith) (λ no. d (omega arith))))

-- lists of m elements each, one after the other, are made by one rule
pub flat_tab : (f : ℕ → ℕ) (m n : ℕ) → flat (each (λ i. tab (λ w. f (m * i + w)) m) n) ≡ tab f (m * n)
unfolding each flat tab
flat_tab f m zero = let none : m * 0 ≡ 0 = omega arith in rw none refl
flat_tab f m (suc n) =
    let more : m + m * n ≡ m * suc n = omega arith in
    let here : tab (λ w. f (m * 0 + w)) m ≡ tab f m = tab_ext (λ w. f (m * 0 + w)) f m (λ w h. ap f (omega arith)) in
    let rest : flat (each (λ i. tab (λ w. f (m * suc i + w)) m) n) ≡ tab (λ j. f (m + j)) (m * n) =
    ap flat (each_ext (λ i. tab (λ w. f (m * suc i + w)) m) (λ i. tab (λ w. f (m + (m * i + w))) m) n
    (λ i h. tab_ext (λ w. f (m * suc i + w)) (λ w. f (m + (m * i + w))) m (λ w k. ap f (omega arith))))
    ∙ flat_tab (λ j. f (m + j)) m n in
    ap₂ ◌++◌ here rest ∙ sym (tab_add f m (m * n)) ∙ ap (tab f) more

-- one list more
pub flat_more : (f : ℕ → List ℕ) (n : ℕ) → flat (each f (n + 1)) ≡ flat (each f n) ++ f n
unfolding each flat
flat_more f n = rw (add-one n) (go f n)
  where
    go : (f : ℕ → List ℕ) (n : ℕ) → flat (each f (suc n)) ≡ flat (each f n) ++ f n
    go f zero = append-nil (f 0)
    go f (suc n) =
        ap (λ (s : List ℕ). f 0 ++ s) (go (λ i. f (suc i)) n)
        ∙ sym (append_assoc (f 0) (flat (each (λ i. f (suc i)) n)) (f (suc n)))

-- ---- laws of rows

pub length_rows : (n : ℕ) (x : List ℕ) → length (rows n x) ≡ n
unfolding rows
length_rows n x = length_each (λ l. col n l x) n

pub length_col : (n l : ℕ) (x : List ℕ) → length (col n l x) ≡ 16
unfolding col
length_col n l x = length_tab (λ w. get_or x (n * w + l) 0) 16

-- a row is a state
pub row : (n l : ℕ) (x : List ℕ) → l < n → get_or (rows n x) l [] ≡ col n l x
unfolding rows
row n l x h = get_or_each (λ l. col n l x) n l h

pub length_flat : (f : ℕ → List ℕ) (m n : ℕ) → ((i : ℕ) → i < n → length (f i) ≡ m) → length (flat (each f n)) ≡ m * n
unfolding flat each
length_flat f m zero h = omega arith
length_flat f m (suc n) h =
    length-append (f 0) (flat (each (λ i. f (suc i)) n))
    ∙ omega (arith, h 0 (omega arith), length_flat (λ i. f (suc i)) m n (λ i k. h (suc i) (omega arith)))

-- and one of them, cut out again
pub flat_at : (f : ℕ → List ℕ) (rest : List ℕ) (m n l : ℕ) → l < n → ((i : ℕ) → i < n → length (f i) ≡ m)
    → take m (drop (m * l) (flat (each f n) ++ rest)) ≡ f l
unfolding flat each
flat_at f rest m zero l h size = absurd (omega arith)
flat_at f rest m (suc n) zero h size =
    let others : List ℕ = flat (each (λ i. f (suc i)) n) in
    let here : m * 0 ≡ 0 = omega arith in
    rw here (ap (take m) (append_assoc (f 0) others rest) ∙ take_at (f 0) (others ++ rest) m (size 0 (omega arith)))
flat_at f rest m (suc n) (suc l) h size =
    let others : List ℕ = flat (each (λ i. f (suc i)) n) in
    let past : m * suc l ≡ length (f 0) + m * l = omega (arith, size 0 (omega arith)) in
    ap₂ (λ (k : ℕ) (s : List ℕ). take m (drop k s)) past (append_assoc (f 0) others rest)
    ∙ ap (take m) (drop-append-add (f 0) (others ++ rest) (m * l))
    ∙ flat_at (λ i. f (suc i)) rest m n l (omega arith) (λ i k. size (suc i) (omega arith))

pub length_in_order : (n : ℕ) (x : List ℕ) → length (in_order n x) ≡ 16 * n
unfolding in_order rows
length_in_order n x = length_flat (λ l. col n l x) 16 n (λ l h. length_col n l x)

-- ---- states replaced one after the other

-- lists of which the first l are replaced by those of f
abbrev pub up_to : ℕ → List (List ℕ) → List (List ℕ) → List (List ℕ)
up_to l f r = take l f ++ drop l r

-- one more of them
pub row_more : (f r : List (List ℕ)) (w : List ℕ) (l : ℕ) → length f ≡ length r → l < length r → w ≡ get_or f l []
    → set (up_to l f r) l w ≡ up_to (l + 1) f r
row_more f r w l e h is = ap (set (up_to l f r) l) is ∙ rw (add-one l) (go f r l e h)
  where
    go : (f r : List (List ℕ)) (l : ℕ) → length f ≡ length r → l < length r
        → set (up_to l f r) l (get_or f l []) ≡ up_to (suc l) f r
    go [] [] l e h = absurd (omega arith)
    go [] (b ∷ r) l e h = absurd (omega arith)
    go (a ∷ f) [] l e h = absurd (omega arith)
    go (a ∷ f) (b ∷ r) zero e h = refl
    go (a ∷ f) (b ∷ r) (suc l) e h = ap (λ (s : List (List ℕ)). a ∷ s) (go f r l (omega arith) (omega arith))

-- the next one is as it was
pub row_next : (f r : List (List ℕ)) (l : ℕ) → length f ≡ length r → get_or (up_to l f r) l [] ≡ get_or r l []
row_next f r zero e = refl
row_next [] [] (suc l) e = refl
row_next [] (b ∷ r) (suc l) e = absurd (omega arith)
row_next (a ∷ f) [] (suc l) e = absurd (omega arith)
row_next (a ∷ f) (b ∷ r) (suc l) e = row_next f r l (omega arith)

-- all of them
pub row_all : (f r : List (List ℕ)) (n : ℕ) → length f ≡ n → length r ≡ n → up_to n f r ≡ f
row_all f r n e h = ap₂ ◌++◌ (take_all n f (omega arith)) (drop_of_length-le r {i = n} (omega arith)) ∙ append-nil f

-- and where each is replaced by what f makes of it
pub map_more : (f : List ℕ → List ℕ) (r₀ r r' : List (List ℕ)) (w : List ℕ) (l : ℕ) → l < length r₀
    → r ≡ up_to l (map f r₀) r₀ → w ≡ f (get_or r l []) → r' ≡ set r l w → r' ≡ up_to (l + 1) (map f r₀) r₀
map_more f r₀ r r' w l h e is next =
    next ∙ ap (λ (s : List (List ℕ)). set s l w) e
    ∙ row_more (map f r₀) r₀ w l (length-map r₀ f) h
    (is ∙ ap (λ (s : List (List ℕ)). f (get_or s l [])) e ∙ ap f (row_next (map f r₀) r₀ l (length-map r₀ f))
    ∙ at r₀ l h)
  where
    at : (r : List (List ℕ)) (l : ℕ) → l < length r → f (get_or r l []) ≡ get_or (map f r) l []
    at [] l h = absurd (omega arith)
    at (a ∷ r) zero h = refl
    at (a ∷ r) (suc l) h = at r l (omega arith)

pub map_all : (f : List ℕ → List ℕ) (r₀ : List (List ℕ)) (n : ℕ) → length r₀ ≡ n → up_to n (map f r₀) r₀ ≡ map f r₀
map_all f r₀ n h = row_all (map f r₀) r₀ n (length-map r₀ f ∙ h) h
