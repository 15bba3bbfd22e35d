-- Words as bytes, little-endian (01, "Measures"; RFC 8439, 2.3), and the rotation of a word (RFC 8439, 2.1).
-- Assumes nothing. [SPEC 2.5, 4.1]
use Rattle.std.specs.Prelude.{◌≡◌, ℕ, zero, suc, ◌+◌, ◌-◌, ◌*◌, ◌/◌, ◌%◌, ◌^◌, ◌<◌, List, [], ◌∷◌, ◌++◌, length, take}
use Rattle.std.specs.Prelude.{slice_index, refl}
use Rattle.std.proofs.Common.{sym, ap, ◌∙◌, append_assoc, append-nil, arith, add-one, shr-shr}
use Rattle.std.proofs.Math.Seq.{take-nil}
use Rattle.base_words.specs.List.{tab, length_tab, tab_ext, tab_get_or, over, over_next}

-- a word rotated left by n bits
unfoldable pub rotl : ℕ → ℕ → ℕ
rotl n x = x * 2 ^ n % 2 ^ 32 + x / 2 ^ (32 - n)

-- the four bytes of a word, lowest first
unfoldable pub le32 : ℕ → List ℕ
le32 x = x % 256 ∷ x / 2 ^ 8 % 256 ∷ x / 2 ^ 16 % 256 ∷ x / 2 ^ 24 % 256 ∷ []

-- the bytes of words, one after the other
unfoldable pub bytes_of : List ℕ → List ℕ
bytes_of [] = []
bytes_of (x ∷ s) = le32 x ++ bytes_of s

-- the word whose four bytes stand at i
unfoldable pub word_at : List ℕ → ℕ → ℕ
word_at b i =
    slice_index b i + slice_index b (i + 1) * 2 ^ 8 + slice_index b (i + 2) * 2 ^ 16 + slice_index b (i + 3) * 2 ^ 24

-- the first n words of a list of bytes
unfoldable pub words_at : ℕ → List ℕ → List ℕ
words_at n b = tab (λ i. word_at b (4 * i)) n

-- ---- laws

pub bytes_of_append : (p q : List ℕ) → bytes_of (p ++ q) ≡ bytes_of p ++ bytes_of q
unfolding bytes_of
bytes_of_append [] q = refl
bytes_of_append (x ∷ p) q =
    ap (λ (l : List ℕ). le32 x ++ l) (bytes_of_append p q) ∙ sym (append_assoc (le32 x) (bytes_of p) (bytes_of q))

pub length_bytes_of : (p : List ℕ) → length (bytes_of p) ≡ 4 * length p
unfolding bytes_of le32
length_bytes_of [] = refl
length_bytes_of (x ∷ p) = omega (arith, length_bytes_of p)

-- byte i of some words is a byte of one of them
pub get_or_bytes_of : (w : List ℕ) (i : ℕ) → i < 4 * length w
    → slice_index (bytes_of w) i ≡ slice_index (le32 (slice_index w (i / 4))) (i % 4)
unfolding bytes_of le32
get_or_bytes_of [] i h = absurd (omega arith)
get_or_bytes_of (x ∷ w) zero h = refl
get_or_bytes_of (x ∷ w) (suc zero) h = refl
get_or_bytes_of (x ∷ w) (suc (suc zero)) h = refl
get_or_bytes_of (x ∷ w) (suc (suc (suc zero))) h = refl
get_or_bytes_of (x ∷ w) (suc (suc (suc (suc i)))) h =
    let q : suc (suc (suc (suc i))) / 4 ≡ suc (i / 4) = omega arith in
    let r : suc (suc (suc (suc i))) % 4 ≡ i % 4 = omega arith in
    rw (q, r) (get_or_bytes_of w i (omega arith))

-- one word more of those that are stored from `at` on
pub over_word : (g : ℕ → ℕ) (s t u : List ℕ) (at i : ℕ)
    → t ≡ over at (bytes_of (tab g i)) s → u ≡ over (at + 4 * i) (le32 (g i)) t
    → u ≡ over at (bytes_of (tab g (i + 1))) s
unfolding tab bytes_of
over_word g s t u at i e f =
    let l : length (bytes_of (tab g i)) ≡ 4 * i = length_bytes_of (tab g i) ∙ ap (λ (k : ℕ). 4 * k) (length_tab g i) in
    rw (add-one i, bytes_of_append (tab g i) (g i ∷ []), append-nil (le32 (g i)))
    (over_next (bytes_of (tab g i)) (le32 (g i)) s t u at (4 * i) l e f)

-- the bytes of the first k words
pub take_bytes_of : (k : ℕ) (w : List ℕ) → bytes_of (take k w) ≡ take (4 * k) (bytes_of w)
unfolding bytes_of le32
take_bytes_of zero w = refl
take_bytes_of (suc k) [] = sym (take-nil (4 * suc k))
take_bytes_of (suc k) (x ∷ w) =
    let e : 4 * suc k ≡ suc (suc (suc (suc (4 * k)))) = omega arith in
    rw e (ap (λ (l : List ℕ). le32 x ++ l) (take_bytes_of k w))

-- a word's bytes make the word
pub word_at_bytes_of : (w : List ℕ) (i : ℕ) → i < length w → slice_index w i < 2 ^ 32
    → word_at (bytes_of w) (4 * i) ≡ slice_index w i
unfolding word_at le32
word_at_bytes_of w i l h =
    let b0 = byte (4 * i) 0 (omega arith) (omega arith) in
    let b1 = byte (4 * i + 1) 1 (omega arith) (omega arith) in
    let b2 = byte (4 * i + 2) 2 (omega arith) (omega arith) in
    let b3 = byte (4 * i + 3) 3 (omega arith) (omega arith) in
    (λ k. b0 k + b1 k * 2 ^ 8 + b2 k * 2 ^ 16 + b3 k * 2 ^ 24) ∙ sum (slice_index w i) h
  where
    byte : (k j : ℕ) → k ≡ 4 * i + j → j < 4 → slice_index (bytes_of w) k ≡ slice_index (le32 (slice_index w i)) j
    byte k j e hj =
        let q : k / 4 ≡ i = omega arith in
        let r : k % 4 ≡ j = omega arith in
        get_or_bytes_of w k (omega arith) ∙ rw (q, r) refl

    sum : (x : ℕ) → x < 2 ^ 32
        → x % 256 + x / 2 ^ 8 % 256 * 2 ^ 8 + x / 2 ^ 16 % 256 * 2 ^ 16 + x / 2 ^ 24 % 256 * 2 ^ 24 ≡ x
    sum x h = rw (← (shr-shr x 16 8), ← (shr-shr x 8 8)) (omega arith)

-- ---- n words, read back from their bytes

-- each element is a word
abbrev pub Below : List ℕ → Type 0
Below l = (i : ℕ) → slice_index l i < 2 ^ 32

pub record Words (n : ℕ) (l : List ℕ) : Type 0 where
  pub long : length l ≡ n
  pub below : Below l

pub words_back : (n : ℕ) (w : List ℕ) → Words n w → words_at n (bytes_of w) ≡ w
unfolding words_at
words_back n w h =
    tab_ext (λ i. word_at (bytes_of w) (4 * i)) (λ i. slice_index w i) n (λ i l.
    word_at_bytes_of w i (omega (arith, h.long)) (h.below i))
    ∙ ap (tab (λ i. slice_index w i)) (sym h.long) ∙ tab_get_or w
