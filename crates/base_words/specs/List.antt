-- Lists as code makes them: written over from a place on, and made from the front by a rule for each index.
-- Assumes nothing.
use Rattle.std.specs.Prelude.{◌≡◌, ℕ, zero, suc, ◌+◌, ◌-◌, ◌<◌, ◌≤◌, Bool, true, false, ◌&&◌, T, List, [], ◌∷◌, ◌++◌}
use Rattle.std.specs.Prelude.{length, take, drop, replicate, ◌==◌, ◌≢◌, nat_lt, slice_index, slice_set, refl}
use Rattle.std.proofs.Common.{sym, ap, ap₂, ◌∙◌, subst, append_assoc, append-nil, add-zero, add-suc, add-one, arith}
use Rattle.std.proofs.Common.{ltb-true, ltb-false, eqb→eq, length-append, length-drop, length-set, drop_of_length-le}
use Rattle.std.proofs.Common.{ext_get_or, get_or-drop, take_at, drop_at, drop-drop, get_or-set_other, take_all}
use Rattle.std.proofs.Common.{take-suc, length-take-le, drop-cons, get_or-append-add}
use Rattle.std.proofs.Math.Bool.{and-true, and-false, and_assoc}
use Rattle.std.proofs.Math.Dec.{eqb_refl}
use Rattle.std.proofs.Math.ListN.{get_or-append}
use Rattle.std.proofs.lemmas.List.{length-replicate, replicate-append-replicate, get_or_at, set_at}
use Rattle.std.proofs.Math.Seq.{append_snoc, drop-append-add}
use Rattle.std.proofs.lemmas.List.Edits.{sets, sets-eq}

-- s with p written over it from index i on
unfoldable pub over : ℕ → List ℕ → List ℕ → List ℕ
over i [] s = s
over i (v ∷ p) s = over (i + 1) p (slice_set s i v)

-- lists, one after the other
unfoldable pub flat : List (List ℕ) → List ℕ
flat [] = []
flat (r ∷ s) = r ++ flat s

-- f 0, f 1, .., f (n - 1)
unfoldable pub tab : (ℕ → ℕ) → ℕ → List ℕ
tab f zero = []
tab f (suc n) = tab f n ++ (f n ∷ [])

-- whether two lists are the same
unfoldable pub same : List ℕ → List ℕ → Bool
same [] [] = true
same [] (b ∷ t) = false
same (a ∷ s) [] = false
same (a ∷ s) (b ∷ t) = a == b && same s t

-- ---- laws of over

pub length_over : (p s : List ℕ) (i : ℕ) → length (over i p s) ≡ length s
unfolding over
length_over [] s i = refl
length_over (v ∷ p) s i = length_over p (slice_set s i v) (i + 1) ∙ length-set s i v

pub over_append : (p q : List ℕ) (i : ℕ) (s : List ℕ) → over i (p ++ q) s ≡ over (i + length p) q (over i p s)
unfolding over
over_append [] q i s = ap (λ (k : ℕ). over k q s) (sym (add-zero i))
over_append (v ∷ p) q i s =
    let e : i + 1 + length p ≡ i + length (v ∷ p) = omega arith in
    over_append p q (i + 1) (slice_set s i v) ∙ ap (λ (k : ℕ). over k q (over (i + 1) p (slice_set s i v))) e

-- what is written next, after the n elements of p
pub over_next : (p q s t u : List ℕ) (i n : ℕ) → length p ≡ n → t ≡ over i p s → u ≡ over (i + n) q t
    → u ≡ over i (p ++ q) s
over_next p q s t u i n l e f =
    f ∙ ap (λ (x : List ℕ). over (i + n) q x) e
    ∙ ap (λ (k : ℕ). over (i + k) q (over i p s)) (sym l) ∙ sym (over_append p q i s)

over_sets : (p s : List ℕ) (i : ℕ) → over i p s ≡ sets s i p
unfolding over
over_sets [] s i = refl
over_sets (v ∷ p) s i = ap (λ (k : ℕ). over k p (slice_set s i v)) (add-one i) ∙ over_sets p (slice_set s i v) (suc i)

-- where it fits, it stands between what was before it and what comes after
pub over_eq : (p s : List ℕ) (i : ℕ) → i + length p ≤ length s → over i p s ≡ take i s ++ p ++ drop (i + length p) s
over_eq p s i h = over_sets p s i ∙ sets-eq p s i h

-- written over what follows a front
pub over_after : (a p s : List ℕ) (n : ℕ) → length a ≡ n → length p ≤ length s
    → over n p (a ++ s) ≡ a ++ (p ++ drop (length p) s)
over_after a p s n e h =
    over_eq p (a ++ s) n (omega (arith, length-append a s))
    ∙ ap₂ (λ (x y : List ℕ). x ++ p ++ y) (take_at a s n e)
    (ap (λ (k : ℕ). drop (k + length p) (a ++ s)) (sym e) ∙ drop-append-add a s (length p))
    ∙ append_assoc a p (drop (length p) s)

-- one element more of what is copied
pub over_store : (src s t : List ℕ) (at i : ℕ) → i < length src → t ≡ over at (take i src) s
    → slice_set t (at + i) (slice_index src i) ≡ over at (take (i + 1) src) s
unfolding over
over_store src s t at i h e =
    rw (add-one i, take-suc src i 0 h)
    (over_next (take i src) (slice_index src i ∷ []) s t
    (slice_set t (at + i) (slice_index src i)) at i (length-take-le i src (omega arith)) e refl)

-- ---- laws of tab

pub length_tab : (f : ℕ → ℕ) (n : ℕ) → length (tab f n) ≡ n
unfolding tab
length_tab f zero = refl
length_tab f (suc n) = length-append (tab f n) (f n ∷ []) ∙ ap (λ (k : ℕ). k + 1) (length_tab f n) ∙ add-one n

-- one store more, over the start of d
pub tab_more : (f : ℕ → ℕ) (n : ℕ) (d : List ℕ) → n < length d
    → slice_set (tab f n ++ drop n d) n (f n) ≡ tab f (n + 1) ++ drop (n + 1) d
unfolding tab
tab_more f n d h =
    rw (add-one n, drop-cons d n 0 h) (set_at (tab f n) (slice_index d n) (drop (suc n) d) (f n) n (length_tab f n)
    ∙ sym (append_snoc (tab f n) (f n) (drop (suc n) d)))

pub tab_ext : (f g : ℕ → ℕ) (n : ℕ) → ((i : ℕ) → i < n → f i ≡ g i) → tab f n ≡ tab g n
unfolding tab
tab_ext f g zero h = refl
tab_ext f g (suc n) h =
    ap₂ (λ (l : List ℕ) (x : ℕ). l ++ (x ∷ [])) (tab_ext f g n (λ i k. h i (omega arith))) (h n (omega arith))

pub tab_add : (f : ℕ → ℕ) (a b : ℕ) → tab f (a + b) ≡ tab f a ++ tab (λ i. f (a + i)) b
unfolding tab
tab_add f a zero = rw (add-zero a) (sym (append-nil (tab f a)))
tab_add f a (suc b) =
    rw (add-suc a b) (ap (λ (l : List ℕ). l ++ (f (a + b) ∷ [])) (tab_add f a b)
    ∙ append_assoc (tab f a) (tab (λ i. f (a + i)) b) (f (a + b) ∷ []))

pub get_or_tab : (f : ℕ → ℕ) (n i : ℕ) → i < n → slice_index (tab f n) i ≡ f i
unfolding tab
get_or_tab f zero i h = absurd (omega arith)
get_or_tab f (suc n) i h = go (nat_lt i n) refl (get_or_tab f n i)
  where
    go : (b : Bool) → nat_lt i n ≡ b → (i < n → slice_index (tab f n) i ≡ f i)
        → slice_index (tab f n ++ (f n ∷ [])) i ≡ f i
    go true e ih =
        let l : i < n = ltb-true i n e in
        get_or-append (tab f n) (f n ∷ []) 0 i (rw (length_tab f n) l) ∙ ih l
    go false e ih =
        let same : i ≡ n = omega (arith, ltb-false i n e) in
        rw same (get_or_at (tab f n) (f n) [] 0 n (length_tab f n))

-- a list is made of its own elements
pub tab_get_or : (s : List ℕ) → tab (λ i. slice_index s i) (length s) ≡ s
tab_get_or s =
    ext_get_or 0 (tab (λ i. slice_index s i) (length s)) s (length_tab (λ i. slice_index s i) (length s))
    (λ i h. get_or_tab (λ i. slice_index s i) (length s) i (rw (length_tab (λ i. slice_index s i) (length s)) at h))

pub take_tab : (f : ℕ → ℕ) (k n : ℕ) → k ≤ n → take k (tab f n) ≡ tab f k
take_tab f k n h =
    let whole : k + (n - k) ≡ n = omega arith in
    ap (λ (m : ℕ). take k (tab f m)) (sym whole) ∙ ap (take k) (tab_add f k (n - k))
    ∙ take_at (tab f k) (tab (λ i. f (k + i)) (n - k)) k (length_tab f k)

-- one element more of what is written over s from `at` on
pub over_tab : (g : ℕ → ℕ) (s t : List ℕ) (at i : ℕ) → t ≡ over at (tab g i) s
    → slice_set t (at + i) (g i) ≡ over at (tab g (i + 1)) s
unfolding over tab
over_tab g s t at i e =
    rw (add-one i) (over_next (tab g i) (g i ∷ []) s t (slice_set t (at + i) (g i)) at i (length_tab g i) e refl)

-- what is past p is as it was
pub get_d_over : (p s : List ℕ) (i j : ℕ) → i + length p ≤ j → slice_index (over i p s) j ≡ slice_index s j
unfolding over
get_d_over [] s i j h = refl
get_d_over (v ∷ p) s i j h =
    get_d_over p (slice_set s i v) (i + 1) j (omega arith) ∙ get_or-set_other s i j v 0 (λ e. omega arith)

-- the next k elements of what a rule makes over the start of d
pub tab_chunk : (f g : ℕ → ℕ) (d s t : List ℕ) (at k : ℕ)
    → at + k ≤ length d → s ≡ tab f at ++ drop at d → t ≡ over at (tab g k) s
    → ((i : ℕ) → i < k → g i ≡ f (at + i)) → t ≡ tab f (at + k) ++ drop (at + k) d
tab_chunk f g d s t at k fits es et same =
    let ls : length s ≡ length d =
    ap length es ∙ length-append (tab f at) (drop at d) ∙ omega (arith, length_tab f at, length-drop at d) in
    let lp : length (tab g k) ≡ k = length_tab g k in
    let front : take at s ≡ tab f at = ap (take at) es ∙ take_at (tab f at) (drop at d) at (length_tab f at) in
    let past : drop (at + k) s ≡ drop (at + k) d = sym (drop-drop k at s) ∙ ap (λ (l : List ℕ). drop k (drop at l)) es
    ∙ ap (drop k) (drop_at (tab f at) (drop at d) at (length_tab f at)) ∙ drop-drop k at d in
    et ∙ over_eq (tab g k) s at (omega arith)
    ∙ ap₂ (λ (a b : List ℕ). a ++ b)
    (ap₂ (λ (a b : List ℕ). a ++ b) front (tab_ext g (λ i. f (at + i)) k same) ∙ sym (tab_add f at k))
    (ap (λ (n : ℕ). drop (at + n) s) lp ∙ past)

-- what a rule has not reached yet is as it was
pub get_or_rest : (f : ℕ → ℕ) (d : List ℕ) (i j : ℕ) → i ≤ j → slice_index (tab f i ++ drop i d) j ≡ slice_index d j
get_or_rest f d i j h =
    let whole : i + (j - i) ≡ j = omega arith in
    ap (λ (k : ℕ). slice_index (tab f i ++ drop i d) k) (sym whole)
    ∙ ap (λ (k : ℕ). slice_index (tab f i ++ drop i d) (k + (j - i))) (sym (length_tab f i))
    ∙ get_or-append-add (tab f i) (drop i d) (j - i) 0 ∙ get_or-drop i d (j - i) 0
    ∙ ap (λ (k : ℕ). slice_index d k) whole

-- what is written over all of a list
pub over_all : (p s : List ℕ) → length p ≡ length s → over 0 p s ≡ p
over_all p s h =
    over_eq p s 0 (omega arith)
    ∙ ap (λ (l : List ℕ). p ++ l) (drop_of_length-le s {i = 0 + length p} (omega arith)) ∙ append-nil p

-- what is left of zeros
pub drop_replicate : (k m : ℕ) → k ≤ m → drop k (replicate m 0) ≡ replicate {A = ℕ} (m - k) 0
drop_replicate k m h =
    let e : k + (m - k) ≡ m = omega arith in
    ap (drop k) (sym (replicate-append-replicate k (m - k) 0 ∙ ap (λ (i : ℕ). replicate i 0) e))
    ∙ drop_at (replicate k 0) (replicate (m - k) 0) k (length-replicate k 0)

-- what is written over the start of zeros
pub over_zeros : (p z : List ℕ) (k n : ℕ) → length p ≡ k → k ≤ n → z ≡ replicate n 0
    → over 0 p z ≡ p ++ replicate (n - k) 0
over_zeros p z k n l h e =
    let lz : length z ≡ n = ap length e ∙ length-replicate n 0 in
    let at : 0 + length p ≡ k = omega arith in
    over_eq p z 0 (omega arith) ∙ ap (λ (l : List ℕ). p ++ l) (ap₂ drop at e ∙ drop_replicate k n h)

-- ---- laws of same

pub same_more : (a b : List ℕ) (i : ℕ) → i < length a → i < length b
    → same (take (i + 1) a) (take (i + 1) b) ≡ same (take i a) (take i b) && slice_index a i == slice_index b i
unfolding same
same_more a b i h k = rw (add-one i) (go a b i h k)
  where
    go : (a b : List ℕ) (i : ℕ) → i < length a → i < length b
        → same (take (suc i) a) (take (suc i) b) ≡ same (take i a) (take i b) && slice_index a i == slice_index b i
    go [] b i h k = absurd (omega arith)
    go (x ∷ a) [] i h k = absurd (omega arith)
    go (x ∷ a) (y ∷ b) zero h k = and-true (x == y)
    go (x ∷ a) (y ∷ b) (suc i) h k =
        ap (λ (c : Bool). (x == y) && c) (go a b i (omega arith) (omega arith))
        ∙ sym (and_assoc (x == y) (same (take i a) (take i b)) (slice_index a i == slice_index b i))

pub same_whole : (a b : List ℕ) (i : ℕ) → i ≡ length a → i ≡ length b → same (take i a) (take i b) ≡ same a b
same_whole a b i h k = ap₂ same (take_all i a (omega arith)) (take_all i b (omega arith))

pub same_unequal : (a b : List ℕ) → (length a ≢ length b) → same a b ≡ false
unfolding same
same_unequal [] [] h = absurd (h refl)
same_unequal [] (y ∷ b) h = refl
same_unequal (x ∷ a) [] h = refl
same_unequal (x ∷ a) (y ∷ b) h =
    ap (λ (c : Bool). (x == y) && c) (same_unequal a b (λ e. h (ap suc e))) ∙ and-false (x == y)

-- what the test says
pub same_eq : (a b : List ℕ) → same a b ≡ true → a ≡ b
unfolding same
same_eq [] [] h = refl
same_eq [] (y ∷ b) h = absurd (subst T (sym h) tt)
same_eq (x ∷ a) [] h = absurd (subst T (sym h) tt)
same_eq (x ∷ a) (y ∷ b) h = go (x == y) refl h (same_eq a b)
  where
    go : (c : Bool) → (x == y) ≡ c → c && same a b ≡ true → (same a b ≡ true → a ≡ b) → ◌≡◌ {A = List ℕ} (x ∷ a) (y ∷ b)
    go true e h f = ap₂ (λ (u : ℕ) (v : List ℕ). u ∷ v) (eqb→eq x y (subst T (sym e) tt)) (f h)
    go false e h f = absurd (subst T (sym h) tt)

pub same_refl : (a : List ℕ) → same a a ≡ true
unfolding same
same_refl [] = refl
same_refl (x ∷ a) = ap₂ ◌&&◌ (is_true (x == x) (eqb_refl x)) (same_refl a)
  where
    is_true : (c : Bool) → T c → c ≡ true
    is_true true t = refl
    is_true false t = elim t [ ]
