-- Numbers and their bytes: the laws of the functions that load and store. Assumes nothing.
use mathlib.Core.Path.{◌≡◌, refl, sym, ap, ◌∙◌}
use mathlib.Core.List.{List, [], ◌∷◌, ◌++◌}
use Prim.Native.Nat.{ℕ, suc, ◌+◌, ◌*◌, ◌/◌, ◌%◌, ◌^◌, ◌≤◌, ◌<◌}
use native.Mathlib.Nat.{add-zero, pow-suc, add-mul-mod_self_right, add-mul-div_right}
use native.Mathlib.Omega.{arith}
use lib.Dec.{T, ltb, lit<}
use lib.ListN.{length, get_or, take, drop, replicate, length-drop}
use lib.Seq.{take_all, get_or-take}
use Rattle.base_words.specs.Numbers.{number, bytes, number4, last4, number_of_word, word_after}
use Rattle.base_algebra.specs.Mod.{m_eq}
use Rattle.base_algebra.specs.Ring.{ring=, reify}
use Rattle.base_words.specs.List.{over}
use Rattle.base_words.specs.Bytes.{le32, bytes_of, word_at}
use Rattle.poly1305_mac.specs.Poly1305.{clamp, r_of, s_of, tag_of}
use Rattle.poly1305_limbs.specs.Limbs.{words4, low128}

-- ---- words out of bytes

pub number_append : (s t : List ℕ) → number (s ++ t) ≡ number s + 256 ^ length s * number t
unfolding number
number_append [] t = omega arith
number_append (b ∷ s) t = rw (number_append s t, pow-suc) (omega arith)

-- four words, each with what is above it
words : (w0 w1 w2 w3 : ℕ) {n0 n1 n2 n3 : ℕ} → n0 ≡ w0 + n1 * 2 ^ 32
    → n1 ≡ w1 + n2 * 2 ^ 32 → n2 ≡ w2 + n3 * 2 ^ 32 → n3 ≡ w3 + 0 * 2 ^ 32
    → n0 ≡ w0 + w1 * 2 ^ 32 + w2 * 2 ^ 64 + w3 * 2 ^ 96
words w0 w1 w2 w3 e0 e1 e2 e3 =
    let e0 = m_eq {m = 0} e0 in
    let e1 = m_eq {m = 0} e1 in
    let e2 = m_eq {m = 0} e2 in
    let e3 = m_eq {m = 0} e3 in
    ring= _ _ (w0 ∷ w1 ∷ w2 ∷ w3 ∷ []) (search reify depth 40 fits 9000) refl

pub number16 : (m : List ℕ) (i : ℕ) → i + 16 ≤ length m
    → number (take 16 (drop i m))
    ≡ word_at m i + word_at m (i + 4) * 2 ^ 32 + word_at m (i + 8) * 2 ^ 64 + word_at m (i + 12) * 2 ^ 96
unfolding number
number16 m i h =
    words (word_at m i) (word_at m (i + 4)) (word_at m (i + 8)) (word_at m (i + 12))
    (number_of_word m i 12 (omega arith))
    (word_after m i 4 8 8 (omega arith) (omega arith))
    (word_after m i 8 12 4 (omega arith) (omega arith))
    (word_after m i 12 16 0 (omega arith) (omega arith))

pub block_is : (m : List ℕ) (i top : ℕ) {v w0 w1 w2 w3 : ℕ} → i + 16 ≤ length m
    → v ≡ w0 + w1 * 2 ^ 32 + w2 * 2 ^ 64 + w3 * 2 ^ 96 + top * 2 ^ 104
    → w0 ≡ word_at m i → w1 ≡ word_at m (i + 4) → w2 ≡ word_at m (i + 8) → w3 ≡ word_at m (i + 12)
    → v ≡ number (take 16 (drop i m)) + top * 2 ^ 104
block_is m i top h e e0 e1 e2 e3 = rw (number16 m i h, ← e0, ← e1, ← e2, ← e3) e

-- ---- the key

clamped0 : {a b c d : ℕ} → a < 256 → b < 256 → c < 256 → d < 256
    → (a + b * 2 ^ 8 + c * 2 ^ 16 + d * 2 ^ 24) % 2 ^ 28 ≡ a + b * 2 ^ 8 + c * 2 ^ 16 + d % 16 * 2 ^ 24
clamped0 ha hb hc hd = omega arith

clamped : {a b c d : ℕ} → a < 256 → b < 256 → c < 256 → d < 256
    → (a + b * 2 ^ 8 + c * 2 ^ 16 + d * 2 ^ 24) % 2 ^ 28 / 4 * 4 ≡ a / 4 * 4 + b * 2 ^ 8 + c * 2 ^ 16 + d % 16 * 2 ^ 24
clamped ha hb hc hd = omega arith

clamp_take : (k : List ℕ) → clamp (take 16 k) ≡ clamp k
unfolding clamp
clamp_take k = rw (
  at 0 tt,
  at 1 tt,
  at 2 tt,
  at 3 tt,
  at 4 tt,
  at 5 tt,
  at 6 tt,
  at 7 tt,
  at 8 tt,
  at 9 tt,
  at 10 tt,
  at 11 tt,
  at 12 tt,
  at 13 tt,
  at 14 tt,
  at 15 tt,
)
  where
    at : (i : ℕ) → T (ltb i 16) → get_or (take 16 k) i 0 ≡ get_or k i 0
    at i t = get_or-take 16 k i 0 (lit< t)

clamp_number : (k : List ℕ)
    → number (clamp k)
    ≡ (get_or k 0 0 + get_or k 1 0 * 2 ^ 8 + get_or k 2 0 * 2 ^ 16 + get_or k 3 0 % 16 * 2 ^ 24)
    + (get_or k 4 0 / 4 * 4 + get_or k 5 0 * 2 ^ 8 + get_or k 6 0 * 2 ^ 16 + get_or k 7 0 % 16 * 2 ^ 24) * 2 ^ 32
    + (get_or k 8 0 / 4 * 4 + get_or k 9 0 * 2 ^ 8 + get_or k 10 0 * 2 ^ 16 + get_or k 11 0 % 16 * 2 ^ 24) * 2 ^ 64
    + (get_or k 12 0 / 4 * 4 + get_or k 13 0 * 2 ^ 8 + get_or k 14 0 * 2 ^ 16 + get_or k 15 0 % 16 * 2 ^ 24) * 2 ^ 96
unfolding clamp
clamp_number k = words _ _ _ _ (number4 _ _ _ _ _) (number4 _ _ _ _ _) (number4 _ _ _ _ _) (last4 _ _ _ _)

-- r from its four words
r_is : (k : List ℕ) → ((i : ℕ) → get_or k i 0 < 256)
    → word_at k 0 % 2 ^ 28 + word_at k 4 % 2 ^ 28 / 4 * 4 * 2 ^ 32
    + word_at k 8 % 2 ^ 28 / 4 * 4 * 2 ^ 64 + word_at k 12 % 2 ^ 28 / 4 * 4 * 2 ^ 96 ≡ r_of k
unfolding r_of word_at
r_is k b =
    rw (
      clamped0 (b 0) (b 1) (b 2) (b 3),
      clamped (b 4) (b 5) (b 6) (b 7),
      clamped (b 8) (b 9) (b 10) (b 11),
      clamped (b 12) (b 13) (b 14) (b 15),
    )
    (sym (ap number (clamp_take k) ∙ clamp_number k))

s_is : (k : List ℕ) → length k ≡ 32
    → word_at k 16 + word_at k 20 * 2 ^ 32 + word_at k 24 * 2 ^ 64 + word_at k 28 * 2 ^ 96 ≡ s_of k
unfolding s_of
s_is k l =
    sym (ap number (sym (take_all 16 (drop 16 k) (omega (arith, length-drop 16 k)))) ∙ number16 k 16 (omega arith))

pub r_law : (k : List ℕ) (l0 l1 l2 l3 : ℕ) {v w0 w1 w2 w3 : ℕ} → ((i : ℕ) → get_or k i 0 < 256)
    → v ≡ w0 + w1 * 2 ^ 32 + w2 * 2 ^ 64 + w3 * 2 ^ 96 + 0 * 2 ^ 104
    → w0 ≡ l0 % 2 ^ 28 → w1 ≡ l1 % 2 ^ 28 / 4 * 4 → w2 ≡ l2 % 2 ^ 28 / 4 * 4 → w3 ≡ l3 % 2 ^ 28 / 4 * 4
    → l0 ≡ word_at k 0 → l1 ≡ word_at k 4 → l2 ≡ word_at k 8 → l3 ≡ word_at k 12
    → v ≡ r_of k
r_law k l0 l1 l2 l3 b e e0 e1 e2 e3 f0 f1 f2 f3 = e ∙ add-zero _ ∙ rw (e0, e1, e2, e3, f0, f1, f2, f3) (r_is k b)

pub s_law : (k : List ℕ) {w0 w1 w2 w3 : ℕ} → length k ≡ 32
    → w0 ≡ word_at k 16 → w1 ≡ word_at k 20 → w2 ≡ word_at k 24 → w3 ≡ word_at k 28
    → words4 (w0 ∷ w1 ∷ w2 ∷ w3 ∷ []) ≡ s_of k
unfolding words4
s_law k l e0 e1 e2 e3 = rw (e0, e1, e2, e3) (s_is k l)

-- ---- bytes out of words

one_byte : (k n t y : ℕ) → bytes (suc n) (t + y * (256 * k)) ≡ t % 256 ∷ bytes n (t / 256 + y * k)
unfolding bytes
one_byte k n t y =
    let e : t + y * (256 * k) ≡ t + y * k * 256 = omega arith in
    rw (e, add-mul-mod_self_right, add-mul-div_right t (y * k) (lit< {m = 0} {n = 256} tt))

four_bytes : (n t y : ℕ) → t < 2 ^ 32 → bytes (suc (suc (suc (suc n)))) (t + y * 2 ^ 32) ≡ le32 t ++ bytes n y
unfolding le32
four_bytes n t y h =
    let e2 : t / 256 / 256 ≡ t / 2 ^ 16 = omega arith in
    let e3 : t / 2 ^ 16 / 256 ≡ t / 2 ^ 24 = omega arith in
    let e4 : t / 2 ^ 24 / 256 + y * 1 ≡ y = omega arith in
    one_byte (2 ^ 24) (suc (suc (suc n))) t y
    ∙ ap (λ (l : List ℕ). t % 256 ∷ l) (one_byte (2 ^ 16) (suc (suc n)) (t / 256) y
    ∙ ap (λ (l : List ℕ). t / 256 % 256 ∷ l)
    (ap (λ (u : ℕ). bytes (suc (suc n)) (u + y * 2 ^ 16)) e2 ∙ one_byte (2 ^ 8) (suc n) (t / 2 ^ 16) y
    ∙ ap (λ (l : List ℕ). t / 2 ^ 16 % 256 ∷ l)
    (ap (λ (u : ℕ). bytes (suc n) (u + y * 2 ^ 8)) e3 ∙ one_byte 1 n (t / 2 ^ 24) y
    ∙ ap (λ (x : ℕ). t / 2 ^ 24 % 256 ∷ bytes n x) e4)))

sixteen : (a b c d : ℕ) → a < 2 ^ 32 → b < 2 ^ 32 → c < 2 ^ 32 → d < 2 ^ 32
    → bytes 16 (a + b * 2 ^ 32 + c * 2 ^ 64 + d * 2 ^ 96) ≡ le32 a ++ (le32 b ++ (le32 c ++ le32 d))
unfolding bytes le32
sixteen a b c d ha hb hc hd =
    ap (bytes 16) nested
    ∙ four_bytes 12 a (b + (c + (d + 0 * 2 ^ 32) * 2 ^ 32) * 2 ^ 32) ha
    ∙ ap (λ (l : List ℕ). le32 a ++ l) (four_bytes 8 b (c + (d + 0 * 2 ^ 32) * 2 ^ 32) hb
    ∙ ap (λ (l : List ℕ). le32 b ++ l) (four_bytes 4 c (d + 0 * 2 ^ 32) hc
    ∙ ap (λ (l : List ℕ). le32 c ++ l) (four_bytes 0 d 0 hd)))
  where
    nested : a + b * 2 ^ 32 + c * 2 ^ 64 + d * 2 ^ 96 ≡ a + (b + (c + (d + 0 * 2 ^ 32) * 2 ^ 32) * 2 ^ 32) * 2 ^ 32
    nested = ring= _ _ (a ∷ b ∷ c ∷ d ∷ []) (search reify depth 40 fits 9000) refl

over_zeros : (a b c d : ℕ)
    → over 0 (bytes_of (a ∷ b ∷ c ∷ d ∷ [])) (replicate 16 0) ≡ le32 a ++ (le32 b ++ (le32 c ++ le32 d))
unfolding over bytes_of le32
over_zeros a b c d = refl

four : (t : List ℕ) → length t ≡ 4 → t ≡ get_or t 0 0 ∷ get_or t 1 0 ∷ get_or t 2 0 ∷ get_or t 3 0 ∷ []
four [] h = absurd (omega arith)
four (a ∷ []) h = absurd (omega arith)
four (a ∷ b ∷ []) h = absurd (omega arith)
four (a ∷ b ∷ c ∷ []) h = absurd (omega arith)
four (a ∷ b ∷ c ∷ d ∷ []) h = refl
four (a ∷ b ∷ c ∷ d ∷ e ∷ s) h = absurd (omega arith)

stored : (t out : List ℕ) {x : ℕ} → length t ≡ 4
    → get_or t 0 0 < 2 ^ 32 → get_or t 1 0 < 2 ^ 32 → get_or t 2 0 < 2 ^ 32 → get_or t 3 0 < 2 ^ 32
    → out ≡ over 0 (bytes_of t) (replicate 16 0) → words4 t ≡ x → out ≡ bytes 16 x
unfolding words4
stored t out l h0 h1 h2 h3 f e =
    f
    ∙ ap (λ (s : List ℕ). over 0 (bytes_of s) (replicate 16 0)) (four t l)
    ∙ over_zeros (get_or t 0 0) (get_or t 1 0) (get_or t 2 0) (get_or t 3 0)
    ∙ sym (sixteen (get_or t 0 0) (get_or t 1 0) (get_or t 2 0) (get_or t 3 0) h0 h1 h2 h3)
    ∙ ap (bytes 16) e

pub tag_law : (t out : List ℕ) (w : ℕ) {a v : ℕ} → length t ≡ 4
    → get_or t 0 0 < 2 ^ 32 → get_or t 1 0 < 2 ^ 32 → get_or t 2 0 < 2 ^ 32 → get_or t 3 0 < 2 ^ 32
    → out ≡ over 0 (bytes_of t) (replicate 16 0) → a ≡ v → words4 t ≡ low128 (a + w) → out ≡ tag_of v w
unfolding low128 tag_of
tag_law t out w l h0 h1 h2 h3 o f e =
    stored t out l h0 h1 h2 h3 o (e ∙ ap (λ (x : ℕ). (x + w) % 2 ^ 128) f)
