-- Searching and counting below a number, by a test. Assumes nothing.
use Rattle.std.specs.Prelude.{◌≡◌, refl, Bool, true, false, cond, ℕ, zero, suc, ◌+◌, ◌≤◌, ◌<◌, eqb}
use Rattle.std.proofs.Common.{sym, ap, ap₂, subst, ◌∙◌, add-one, arith, eqb-true}
use Rattle.std.proofs.lemmas.Bool.{eqb-false}
use Rattle.base_algebra.specs.Bit.{neither}

-- the lowest i below n that passes the test, or n where none does
unfoldable pub least : (ℕ → Bool) → ℕ → ℕ
least p zero = 0
least p (suc n) = cond (p 0) 0 (suc (least (λ i. p (suc i)) n))

-- how many numbers below n pass the test
unfoldable pub count : (ℕ → Bool) → ℕ → ℕ
count p zero = 0
count p (suc n) = count p n + cond (p n) 1 0

-- ---- what the two say

-- k is the lowest below n that passes, or n where none does
pub record Least (p : ℕ → Bool) (n k : ℕ) : Type 0 where
  pub within : k ≤ n
  pub before : (j : ℕ) → j < k → p j ≡ false
  pub at : k < n → p k ≡ true

pub record Some (p : ℕ → Bool) (n : ℕ) : Type 0 where
  pub one : ℕ
  pub below : one < n
  pub passes : p one ≡ true

-- just one below n passes
pub record Single (p : ℕ → Bool) (n : ℕ) : Type 0 where
  pub one : ℕ
  pub below : one < n
  pub passes : p one ≡ true
  pub only : (j : ℕ) → j < n → p j ≡ true → j ≡ one

-- two below n pass
pub record Two (p : ℕ → Bool) (n : ℕ) : Type 0 where
  pub one : ℕ
  pub two : ℕ
  pub below : one < n
  pub below_two : two < n
  pub apart : one ≡ two → ⊥
  pub passes : p one ≡ true
  pub passes_two : p two ≡ true

-- none below n passes
abbrev pub None : (ℕ → Bool) → ℕ → Type 0
None p n = (j : ℕ) → j < n → p j ≡ false

-- ---- laws of least

pub least_only : (p : ℕ → Bool) (n k : ℕ) → Least p n k → k ≡ least p n
unfolding least
least_only p zero k l = omega (arith, l.within)
least_only p (suc n) zero l = ap (λ (b : Bool). cond b 0 (suc (least (λ i. p (suc i)) n))) (sym (l.at (omega arith)))
least_only p (suc n) (suc k) l =
    ap suc
    (least_only (λ i. p (suc i)) n k
    record {
      within = omega (arith, l.within);
      before = λ j h. l.before (suc j) (omega arith);
      at = λ h. l.at (omega arith);
    })
    ∙ ap (λ (b : Bool). cond b 0 (suc (least (λ i. p (suc i)) n))) (sym (l.before 0 (omega arith)))

pub least_least : (p : ℕ → Bool) (n : ℕ) → Least p n (least p n)
unfolding least
least_least p zero =
    record { within = omega arith; before = λ j h. absurd (omega arith); at = λ h. absurd (omega arith) }
least_least p (suc n) = go (p 0) refl (least_least (λ i. p (suc i)) n)
  where
    go : (b : Bool) → p 0 ≡ b → Least (λ i. p (suc i)) n (least (λ i. p (suc i)) n)
        → Least p (suc n) (cond b 0 (suc (least (λ i. p (suc i)) n)))
    go true e l = record { within = omega arith; before = λ j h. absurd (omega arith); at = λ h. e }
    go false e l = record { within = omega (arith, l.within); before = before; at = λ h. l.at (omega arith) }
      where
        before : (j : ℕ) → j < suc (least (λ i. p (suc i)) n) → p j ≡ false
        before zero h = e
        before (suc j) h = l.before j (omega arith)

-- a search that stops at i, and one that comes to the end
pub found : {p : ℕ → Bool} {n i : ℕ} → i < n → ((k : ℕ) → k < i → p k ≡ false) → p i ≡ true → i ≡ least p n
found {p} {n} {i} l b e = least_only p n i record { within = omega arith; before = b; at = λ h. e }

pub not_found : {p : ℕ → Bool} {n i : ℕ} → i ≡ n → ((k : ℕ) → k < i → p k ≡ false) → i ≡ least p n
not_found {p} {n} {i} l b = least_only p n i record { within = omega arith; before = b; at = λ h. absurd (omega arith) }

-- ---- laws of count

bit_le : (b : Bool) → cond b 1 0 ≤ 1
bit_le true = omega arith
bit_le false = omega arith

-- one number more
pub count_yes : (p : ℕ → Bool) (n : ℕ) → p n ≡ true → count p (n + 1) ≡ count p n + 1
unfolding count
count_yes p n e = rw (add-one n) (ap (λ (b : Bool). count p n + cond b 1 0) e)

pub count_no : (p : ℕ → Bool) (n : ℕ) → p n ≡ false → count p (n + 1) ≡ count p n
unfolding count
count_no p n e = rw (add-one n) (ap (λ (b : Bool). count p n + cond b 1 0) e ∙ omega arith)

pub count_le : (p : ℕ → Bool) (n : ℕ) → count p n ≤ n
unfolding count
count_le p zero = omega arith
count_le p (suc n) = omega (arith, count_le p n, bit_le (p n))

-- what holds of every number below n, and of n
below_suc : {P : ℕ → Type 0} (n : ℕ) → ((j : ℕ) → j < n → P j) → P n → (j : ℕ) → j < suc n → P j
below_suc {P} n f h j l = go (eqb j n) refl
  where
    go : (b : Bool) → eqb j n ≡ b → P j
    go true e = subst P (sym (eqb-true j n e)) h
    go false e = let d = eqb-false j n e in f j (lt d)
      where
        lt : (j ≡ n → ⊥) → j < n
        lt d = omega (arith, l)

pub count_none : (p : ℕ → Bool) (n : ℕ) → count p n ≡ 0 → None p n
unfolding count
count_none p zero e = λ j h. absurd (omega arith)
count_none p (suc n) e = go (p n) refl e (count_none p n)
  where
    go : (b : Bool) → p n ≡ b → count p n + cond b 1 0 ≡ 0 → (count p n ≡ 0 → None p n) → None p (suc n)
    go true f e ih = absurd (omega arith)
    go false f e ih = below_suc {P = λ j. p j ≡ false} n (ih (omega arith)) f

pub count_some : (p : ℕ → Bool) (n : ℕ) → 1 ≤ count p n → Some p n
unfolding count
count_some p zero e = absurd (omega arith)
count_some p (suc n) e = go (p n) refl e (count_some p n)
  where
    go : (b : Bool) → p n ≡ b → 1 ≤ count p n + cond b 1 0 → (1 ≤ count p n → Some p n) → Some p (suc n)
    go true f e ih = record { one = n; below = omega arith; passes = f }
    go false f e ih =
        let s = ih (omega arith) in record { one = s.one; below = omega (arith, s.below); passes = s.passes }

pub count_single : (p : ℕ → Bool) (n : ℕ) → count p n ≡ 1 → Single p n
unfolding count
count_single p zero e = absurd (omega arith)
count_single p (suc n) e = go (p n) refl e (count_single p n)
  where
    go : (b : Bool) → p n ≡ b → count p n + cond b 1 0 ≡ 1 → (count p n ≡ 1 → Single p n) → Single p (suc n)
    go true f e ih =
        let none = count_none p n (omega arith) in
        record {
          one = n;
          below = omega arith;
          passes = f;
          only = below_suc {P = λ j. p j ≡ true → j ≡ n} n (λ j h t. neither (sym (none j h) ∙ t)) (λ t. refl);
        }
    go false f e ih =
        let s = ih (omega arith) in
        record {
          one = s.one;
          below = omega (arith, s.below);
          passes = s.passes;
          only = below_suc {P = λ j. p j ≡ true → j ≡ s.one} n s.only (λ t. neither (sym f ∙ t));
        }

pub count_two : (p : ℕ → Bool) (n : ℕ) → 2 ≤ count p n → Two p n
unfolding count
count_two p zero e = absurd (omega arith)
count_two p (suc n) e = go (p n) refl e (count_two p n)
  where
    go : (b : Bool) → p n ≡ b → 2 ≤ count p n + cond b 1 0 → (2 ≤ count p n → Two p n) → Two p (suc n)
    go true f e ih =
        let s = count_some p n (omega arith) in
        record {
          one = s.one;
          two = n;
          below = omega (arith, s.below);
          below_two = omega arith;
          apart = λ h. omega (arith, s.below);
          passes = s.passes;
          passes_two = f;
        }
    go false f e ih =
        let s = ih (omega arith) in
        record {
          one = s.one;
          two = s.two;
          below = omega (arith, s.below);
          below_two = omega (arith, s.below_two);
          apart = s.apart;
          passes = s.passes;
          passes_two = s.passes_two;
        }

-- two tests that agree below n
pub count_same : (p q : ℕ → Bool) (n : ℕ) → ((j : ℕ) → j < n → p j ≡ q j) → count p n ≡ count q n
unfolding count
count_same p q zero h = refl
count_same p q (suc n) h =
    ap₂ (λ (k : ℕ) (b : Bool). k + cond b 1 0) (count_same p q n (λ j l. h j (omega arith))) (h n (omega arith))

-- ---- and back

data Number (k : ℕ) : Type 0 where
  is_0 : k ≡ 0 → Number k
  is_1 : k ≡ 1 → Number k
  is_more : 2 ≤ k → Number k

number : (k : ℕ) → Number k
number zero = is_0 refl
number (suc zero) = is_1 refl
number (suc (suc k)) = is_more (omega arith)

not_both {ℓ} : {X : Type ℓ} {p : ℕ → Bool} {n : ℕ} → Single p n → Two p n → X
not_both s t =
    absurd (t.apart (s.only t.one t.below t.passes ∙ sym (s.only t.two t.below_two t.passes_two)))

pub none_count : (p : ℕ → Bool) (n : ℕ) → None p n → count p n ≡ 0
none_count p n h = go (number (count p n))
  where
    go : Number (count p n) → count p n ≡ 0
    go (is_0 e) = e
    go (is_1 e) = let s = count_single p n e in neither (sym (h s.one s.below) ∙ s.passes)
    go (is_more e) = let s = count_two p n e in neither (sym (h s.one s.below) ∙ s.passes)

pub single_count : (p : ℕ → Bool) (n : ℕ) → Single p n → count p n ≡ 1
single_count p n s = go (number (count p n))
  where
    go : Number (count p n) → count p n ≡ 1
    go (is_0 e) = neither (sym (count_none p n e s.one s.below) ∙ s.passes)
    go (is_1 e) = e
    go (is_more e) = not_both s (count_two p n e)

pub two_count : (p : ℕ → Bool) (n : ℕ) → Two p n → 2 ≤ count p n
two_count p n t = go (number (count p n))
  where
    go : Number (count p n) → 2 ≤ count p n
    go (is_0 e) = neither (sym (count_none p n e t.one t.below) ∙ t.passes)
    go (is_1 e) = not_both (count_single p n e) t
    go (is_more e) = e
