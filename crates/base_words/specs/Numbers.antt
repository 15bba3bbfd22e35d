-- Numbers as little-endian bytes (01, "Measures"; RFC 8439, 2.5.1): words make them up, and they are read back.
-- Assumes nothing.
use Rattle.std.specs.Prelude.{◌≡◌, ℕ, zero, suc, ◌+◌, ◌*◌, ◌/◌, ◌%◌, ◌^◌, ◌<◌, ◌≤◌, List, [], ◌∷◌, ◌++◌, length, take}
use Rattle.std.specs.Prelude.{drop, slice_index, refl}
use Rattle.std.proofs.Common.{sym, ap, ◌∙◌, add-one, arith, drop-cons, shr-shr}
use Rattle.std.proofs.Math.Pow.{field, mod-mod-pow}
use Rattle.base_algebra.specs.Ring.{ring=, reify}
use Rattle.base_words.specs.Bytes.{le32, word_at}

-- RFC 8439, 2.5.1, le_bytes_to_num: the number whose bytes these are, lowest first
unfoldable pub number : List ℕ → ℕ
number [] = 0
number (b ∷ s) = b + 256 * number s

-- RFC 8439, 2.5.1, num_to_16_le_bytes, at n bytes: the n lowest bytes of a number, lowest first
unfoldable pub bytes : ℕ → ℕ → List ℕ
bytes zero x = []
bytes (suc n) x = x % 256 ∷ bytes n (x / 256)

-- ---- laws

pub length_bytes : (n x : ℕ) → length (bytes n x) ≡ n
unfolding bytes
length_bytes zero x = refl
length_bytes (suc n) x = ap suc (length_bytes n (x / 256))

-- a byte of the lower word of a
low : (a j k : ℕ) → a % 2 ^ (j + 8 + k) / 2 ^ k % 256 ≡ a / 2 ^ k % 256
low a j k = ap (λ (x : ℕ). x % 256) (field a (j + 8) k) ∙ mod-mod-pow (a / 2 ^ k) j 8

pub eight : (a : ℕ) → le32 (a % 2 ^ 32) ++ le32 (a / 2 ^ 32) ≡ bytes 8 a
unfolding le32 bytes
eight a =
    let byte : ℕ → ℕ = λ x. x % 256 in
    let s2 : a / 2 ^ 8 / 2 ^ 8 ≡ a / 2 ^ 16 = shr-shr a 8 8 in
    let s3 : a / 2 ^ 8 / 2 ^ 8 / 2 ^ 8 ≡ a / 2 ^ 24 = ap (λ (x : ℕ). x / 2 ^ 8) s2 ∙ shr-shr a 16 8 in
    let s4 : a / 2 ^ 8 / 2 ^ 8 / 2 ^ 8 / 2 ^ 8 ≡ a / 2 ^ 32 = ap (λ (x : ℕ). x / 2 ^ 8) s3 ∙ shr-shr a 24 8 in
    let b0 : a % 2 ^ 32 % 256 ≡ a % 256 = mod-mod-pow a 24 8 in
    let b1 : a % 2 ^ 32 / 2 ^ 8 % 256 ≡ a / 2 ^ 8 % 256 = low a 16 8 in
    let b2 : a % 2 ^ 32 / 2 ^ 16 % 256 ≡ a / 2 ^ 8 / 2 ^ 8 % 256 = low a 8 16 ∙ ap byte (sym s2) in
    let b3 : a % 2 ^ 32 / 2 ^ 24 % 256 ≡ a / 2 ^ 8 / 2 ^ 8 / 2 ^ 8 % 256 = low a 0 24 ∙ ap byte (sym s3) in
    let b4 : a / 2 ^ 32 % 256 ≡ a / 2 ^ 8 / 2 ^ 8 / 2 ^ 8 / 2 ^ 8 % 256 = ap byte (sym s4) in
    let b5 : a / 2 ^ 32 / 2 ^ 8 % 256 ≡ a / 2 ^ 8 / 2 ^ 8 / 2 ^ 8 / 2 ^ 8 / 2 ^ 8 % 256 =
    ap (λ (x : ℕ). x / 2 ^ 8 % 256) (sym s4) in
    let b6 : a / 2 ^ 32 / 2 ^ 16 % 256 ≡ a / 2 ^ 8 / 2 ^ 8 / 2 ^ 8 / 2 ^ 8 / 2 ^ 8 / 2 ^ 8 % 256 =
    ap byte (sym (shr-shr (a / 2 ^ 32) 8 8)) ∙ ap (λ (x : ℕ). x / 2 ^ 8 / 2 ^ 8 % 256) (sym s4) in
    let b7 : a / 2 ^ 32 / 2 ^ 24 % 256 ≡ a / 2 ^ 8 / 2 ^ 8 / 2 ^ 8 / 2 ^ 8 / 2 ^ 8 / 2 ^ 8 / 2 ^ 8 % 256 =
    ap byte (sym (ap (λ (x : ℕ). x / 2 ^ 8) (shr-shr (a / 2 ^ 32) 8 8) ∙ shr-shr (a / 2 ^ 32) 16 8))
    ∙ ap (λ (x : ℕ). x / 2 ^ 8 / 2 ^ 8 / 2 ^ 8 % 256) (sym s4) in
    λ i. b0 i ∷ b1 i ∷ b2 i ∷ b3 i ∷ b4 i ∷ b5 i ∷ b6 i ∷ b7 i ∷ []

pub four : (a : ℕ) → le32 a ≡ bytes 4 a
unfolding le32 bytes
four a =
    let s2 : a / 2 ^ 16 ≡ a / 2 ^ 8 / 2 ^ 8 = sym (shr-shr a 8 8) in
    let s3 : a / 2 ^ 24 ≡ a / 2 ^ 8 / 2 ^ 8 / 2 ^ 8 =
    sym (ap (λ (x : ℕ). x / 2 ^ 8) (shr-shr a 8 8) ∙ shr-shr a 16 8) in
    λ i. a % 256 ∷ a / 2 ^ 8 % 256 ∷ s2 i % 256 ∷ s3 i % 256 ∷ []

-- a number that fits its bytes is read back
pub number_four : (a : ℕ) → a < 2 ^ 32 → number (bytes 4 a) ≡ a
unfolding number bytes
number_four a h = omega arith

pub number_eight : (a : ℕ) → a < 2 ^ 64 → number (bytes 8 a) ≡ a
unfolding number bytes
number_eight a h = omega arith

-- ---- words out of bytes

pub number4 : (a b c d : ℕ) (s : List ℕ)
    → number (a ∷ b ∷ c ∷ d ∷ s) ≡ a + b * 2 ^ 8 + c * 2 ^ 16 + d * 2 ^ 24 + number s * 2 ^ 32
unfolding number
number4 a b c d s = ring= _ _ (a ∷ b ∷ c ∷ d ∷ number s ∷ []) (search reify depth 40 fits 9000) refl

pub last4 : (a b c d : ℕ) → number (a ∷ b ∷ c ∷ d ∷ []) ≡ a + b * 2 ^ 8 + c * 2 ^ 16 + d * 2 ^ 24 + 0 * 2 ^ 32
unfolding number
last4 a b c d = number4 a b c d []

pub drop_one : (m : List ℕ) (i : ℕ) → i < length m → drop i m ≡ slice_index m i ∷ drop (i + 1) m
drop_one m i h = rw (add-one, drop-cons m i 0)

pub drop_more : (m : List ℕ) (i k j : ℕ) → i + k < length m → i + k + 1 ≡ i + j
    → drop (i + k) m ≡ slice_index m (i + k) ∷ drop (i + j) m
drop_more m i k j h e = drop_one m (i + k) h ∙ ap (λ (n : ℕ). slice_index m (i + k) ∷ drop n m) e

-- a number whose lowest word stands at i
pub number_of_word : (m : List ℕ) (i n : ℕ) → i + 4 ≤ length m
    → number (take (suc (suc (suc (suc n)))) (drop i m)) ≡ word_at m i + number (take n (drop (i + 4) m)) * 2 ^ 32
unfolding word_at
number_of_word m i n h =
    ap (λ (l : List ℕ). number (take (suc (suc (suc (suc n)))) l)) four
    ∙ number4 (slice_index m i) (slice_index m (i + 1)) (slice_index m (i + 2)) (slice_index m (i + 3))
    (take n (drop (i + 4) m))
  where
    four : drop i m
        ≡ slice_index m i ∷ slice_index m (i + 1) ∷ slice_index m (i + 2) ∷ slice_index m (i + 3) ∷ drop (i + 4) m
    four =
        drop_one m i (omega arith)
        ∙ ap (λ (l : List ℕ). slice_index m i ∷ l) (drop_more m i 1 2 (omega arith) (omega arith)
        ∙ ap (λ (l : List ℕ). slice_index m (i + 1) ∷ l) (drop_more m i 2 3 (omega arith) (omega arith)
        ∙ ap (λ (l : List ℕ). slice_index m (i + 2) ∷ l) (drop_more m i 3 4 (omega arith) (omega arith))))

pub word_after : (m : List ℕ) (i k j n : ℕ) → i + k + 4 ≤ length m → i + k + 4 ≡ i + j
    → number (take (suc (suc (suc (suc n)))) (drop (i + k) m))
    ≡ word_at m (i + k) + number (take n (drop (i + j) m)) * 2 ^ 32
word_after m i k j n h e =
    number_of_word m (i + k) n h ∙ ap (λ (x : ℕ). word_at m (i + k) + number (take n (drop x m)) * 2 ^ 32) e

-- a word, and a number of two words
pub number_word : (m : List ℕ) (i : ℕ) → i + 4 ≤ length m → number (take 4 (drop i m)) ≡ word_at m i
unfolding number
number_word m i h = number_of_word m i 0 h ∙ omega arith

pub number_words : (m : List ℕ) (i : ℕ) → i + 8 ≤ length m
    → number (take 8 (drop i m)) ≡ word_at m i + word_at m (i + 4) * 2 ^ 32
number_words m i h =
    number_of_word m i 4 (omega arith) ∙ ap (λ (x : ℕ). word_at m i + x * 2 ^ 32) (number_word m (i + 4) (omega arith))
