-- Numbers as the code has them: five limbs of 26 bits, or four words of 32, lowest first. Assumes nothing.
use Rattle.std.specs.Prelude.{◌≡◌, List, ℕ, ◌+◌, ◌-◌, ◌*◌, ◌/◌, ◌%◌, ◌^◌, ◌<◌, get_or}

-- RFC 8439, 2.5: "the constant prime "P""
abbrev pub prime : ℕ
prime = 2 ^ 130 - 5

-- the number of five limbs
unfoldable pub value : List ℕ → ℕ
value h = get_or h 0 0 + get_or h 1 0 * 2 ^ 26 + get_or h 2 0 * 2 ^ 52 + get_or h 3 0 * 2 ^ 78 + get_or h 4 0 * 2 ^ 104

-- the number of four words
unfoldable pub words4 : List ℕ → ℕ
words4 w = get_or w 0 0 + get_or w 1 0 * 2 ^ 32 + get_or w 2 0 * 2 ^ 64 + get_or w 3 0 * 2 ^ 96

-- five limbs, each below n
pub record Below (n : ℕ) (h : List ℕ) : Type 0 where
  pub l0 : get_or h 0 0 < n
  pub l1 : get_or h 1 0 < n
  pub l2 : get_or h 2 0 < n
  pub l3 : get_or h 3 0 < n
  pub l4 : get_or h 4 0 < n

-- limbs after the carries: 26 bits, and in one of them a little
-- more. What code passes on as an accumulator, or as r, has these
abbrev pub Limbs : List ℕ → Type 0
Limbs h = Below (2 ^ 26 + 2 ^ 13) h

-- limbs c: those of d and x, each with what the one below has beyond 26 bits
pub record Carried (d : List ℕ) (x : ℕ) (c : List ℕ) : Type 0 where
  pub l0 : get_or c 0 0 ≡ get_or d 0 0 + x
  pub l1 : get_or c 1 0 ≡ get_or d 1 0 + get_or c 0 0 / 2 ^ 26
  pub l2 : get_or c 2 0 ≡ get_or d 2 0 + get_or c 1 0 / 2 ^ 26
  pub l3 : get_or c 3 0 ≡ get_or d 3 0 + get_or c 2 0 / 2 ^ 26
  pub l4 : get_or c 4 0 ≡ get_or d 4 0 + get_or c 3 0 / 2 ^ 26

-- a column of a product
unfoldable pub column : List ℕ → ℕ → ℕ → ℕ → ℕ → ℕ → ℕ
column h b0 b1 b2 b3 b4 =
    get_or h 0 0 * b0 + get_or h 1 0 * b1 + get_or h 2 0 * b2 + get_or h 3 0 * b3 + get_or h 4 0 * b4

-- (These have names because `omega` stops at numbers as large as theirs, and takes a name for an unknown.)
-- how often x and 5 hold 2^130; x modulo the prime; the lowest 128 bits of x
unfoldable pub over_prime : ℕ → ℕ
over_prime x = (x + 5) / 2 ^ 130

unfoldable pub mod_prime : ℕ → ℕ
mod_prime x = x % prime

unfoldable pub low128 : ℕ → ℕ
low128 x = x % 2 ^ 128
