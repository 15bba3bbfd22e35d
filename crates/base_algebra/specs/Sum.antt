-- Sums over the first n places: of words, taken modulo 2^32 (01, "Measures"), of integers and of natural numbers.
-- Assumes nothing. [SPEC 2.2, 2.7]
use Rattle.std.specs.Prelude.{◌≡◌, ℕ, zero, suc, ◌+◌, ◌*◌, ◌^◌, ◌<◌, ℤ, pos, ◌+ℤ◌, refl}
use Rattle.std.proofs.Common.{sym, ap, ap₂, ◌∙◌, add-zero, add-suc, add-one, arith}
use Rattle.base_algebra.specs.Mod.{m_eq, m_sym, m_trans, m_add}
use Rattle.base_algebra.specs.Integer.{residue, residue_pos, residue_add}
use Rattle.base_algebra.specs.Word.{add, add≈, add_lt, ◌≈◌}

-- f 0 + f 1 + .. + f (n - 1), as words
unfoldable pub sum : (ℕ → ℕ) → ℕ → ℕ
sum f zero = 0
sum f (suc n) = add (sum f n) (f n)

-- the same over the integers
unfoldable pub sumℤ : (ℕ → ℤ) → ℕ → ℤ
sumℤ f zero = pos 0
sumℤ f (suc n) = sumℤ f n +ℤ f n

-- and over the natural numbers
unfoldable pub sumℕ : (ℕ → ℕ) → ℕ → ℕ
sumℕ f zero = 0
sumℕ f (suc n) = sumℕ f n + f n

-- ---- laws

pub sum_more : (f : ℕ → ℕ) (n : ℕ) → sum f (n + 1) ≡ add (sum f n) (f n)
unfolding sum
sum_more f n = ap (sum f) (add-one n)

pub sum_lt : (f : ℕ → ℕ) (n : ℕ) → sum f n < 2 ^ 32
unfolding sum
sum_lt f zero = omega arith
sum_lt f (suc n) = add_lt (sum f n) (f n)

-- a sum asks for its own places only
pub sum_ext : (f g : ℕ → ℕ) (n : ℕ) → ((i : ℕ) → i < n → f i ≡ g i) → sum f n ≡ sum g n
unfolding sum
sum_ext f g zero h = refl
sum_ext f g (suc n) h = ap₂ add (sum_ext f g n (λ i l. h i (omega arith))) (h n (omega arith))

-- a sum of words is the residue of the sum of the integers that they are residues of
pub sum≈ : (f : ℕ → ℕ) (g : ℕ → ℤ) (n : ℕ) → ((i : ℕ) → f i ≈ residue (2 ^ 32) (g i))
    → sum f n ≈ residue (2 ^ 32) (sumℤ g n)
unfolding sum sumℤ
sum≈ f g zero h = m_eq (residue_pos (2 ^ 32) 0)
sum≈ f g (suc n) h =
    m_trans (add≈ (sum f n) (f n))
    (m_trans (m_add (sum≈ f g n h) (h n)) (m_sym (residue_add (2 ^ 32) refl (sumℤ g n) (g n))))

-- ---- of integers

pub sumℤ_ext : (f g : ℕ → ℤ) (n : ℕ) → ((i : ℕ) → i < n → f i ≡ g i) → sumℤ f n ≡ sumℤ g n
unfolding sumℤ
sumℤ_ext f g zero h = refl
sumℤ_ext f g (suc n) h = ap₂ ◌+ℤ◌ (sumℤ_ext f g n (λ i l. h i (omega arith))) (h n (omega arith))

-- ---- of natural numbers

pub sumℕ_more : (f : ℕ → ℕ) (n : ℕ) → sumℕ f (n + 1) ≡ sumℕ f n + f n
unfolding sumℕ
sumℕ_more f n = ap (sumℕ f) (add-one n)

pub sumℕ_ext : (f g : ℕ → ℕ) (n : ℕ) → ((i : ℕ) → i < n → f i ≡ g i) → sumℕ f n ≡ sumℕ g n
unfolding sumℕ
sumℕ_ext f g zero h = refl
sumℕ_ext f g (suc n) h = ap₂ ◌+◌ (sumℕ_ext f g n (λ i l. h i (omega arith))) (h n (omega arith))

-- the same sum as an integer
pub sumℤ_pos : (f : ℕ → ℕ) (n : ℕ) → sumℤ (λ i. pos (f i)) n ≡ pos (sumℕ f n)
unfolding sumℤ sumℕ
sumℤ_pos f zero = refl
sumℤ_pos f (suc n) = ap (λ (z : ℤ). z +ℤ pos (f n)) (sumℤ_pos f n)

-- the first a places, and b more
sumℕ_append : (f : ℕ → ℕ) (a b : ℕ) → sumℕ f (a + b) ≡ sumℕ f a + sumℕ (λ i. f (a + i)) b
unfolding sumℕ
sumℕ_append f a zero = rw (add-zero a) (sym (add-zero (sumℕ f a)))
sumℕ_append f a (suc b) = rw (add-suc a b) (omega (arith, sumℕ_append f a b))

-- the first place, and the others
pub sumℕ_front : (f : ℕ → ℕ) (n : ℕ) → sumℕ f (suc n) ≡ f 0 + sumℕ (λ i. f (suc i)) n
unfolding sumℕ
sumℕ_front f zero = omega arith
sumℕ_front f (suc n) = omega (arith, sumℕ_front f n)

-- m groups of n places
pub sumℕ_grouped : (f : ℕ → ℕ) (n m : ℕ) → sumℕ f (m * n) ≡ sumℕ (λ j. sumℕ (λ k. f (j * n + k)) n) m
unfolding sumℕ
sumℕ_grouped f n zero = rw none refl
  where
    none : 0 * n ≡ 0
    none = omega arith
sumℕ_grouped f n (suc m) =
    rw more (sumℕ_append f (m * n) n
    ∙ ap (λ (k : ℕ). k + sumℕ (λ k. f (m * n + k)) n) (sumℕ_grouped f n m))
  where
    more : suc m * n ≡ m * n + n
    more = omega arith

sumℕ_zero : (n : ℕ) → sumℕ (λ i. 0) n ≡ 0
unfolding sumℕ
sumℕ_zero zero = refl
sumℕ_zero (suc n) = ap (λ (k : ℕ). k + 0) (sumℕ_zero n)

sumℕ_add : (f g : ℕ → ℕ) (n : ℕ) → sumℕ (λ i. f i + g i) n ≡ sumℕ f n + sumℕ g n
unfolding sumℕ
sumℕ_add f g zero = refl
sumℕ_add f g (suc n) = omega (arith, sumℕ_add f g n)

-- row by row, or column by column
pub sumℕ_swapped : (f : ℕ → ℕ → ℕ) (m n : ℕ)
    → sumℕ (λ j. sumℕ (λ k. f j k) n) m ≡ sumℕ (λ k. sumℕ (λ j. f j k) m) n
unfolding sumℕ
sumℕ_swapped f zero n = sym (sumℕ_zero n)
sumℕ_swapped f (suc m) n =
    ap (λ (k : ℕ). k + sumℕ (λ k. f m k) n) (sumℕ_swapped f m n)
    ∙ sym (sumℕ_add (λ k. sumℕ (λ j. f j k) m) (λ k. f m k) n)
