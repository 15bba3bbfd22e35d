-- Poly1305 by four accumulators, each with every fourth block. Assumes nothing.
use Rattle.std.specs.Prelude.{List, [], ◌∷◌, ℕ, zero, suc, ◌+◌, ◌*◌, ◌^◌, ◌<◌, get_or, take, drop}
use Rattle.base_words.specs.Numbers.{number}
use Rattle.base_algebra.specs.Mod.{Mod}
use Rattle.poly1305_limbs.specs.Limbs.{prime, value, Below}
use Rattle.poly1305_mac.specs.Poly1305.{piece}

-- ---- the four accumulators of a message m, over numbers

-- what stands above each block of 16 bytes: a bit at 2^128
abbrev pub bit : ℕ
bit = 2 ^ 24 * 2 ^ 104

abbrev pub power4 : ℕ → ℕ
power4 r = r * r * r * r

-- lane 0 starts at the accumulator a, the others at 0
abbrev pub start : ℕ → ℕ → ℕ
start a zero = a
start a (suc l) = 0

-- lane l after its first k + 1 blocks: block l is added, and then
-- each step multiplies by r^4 and adds the fourth block from there
unfoldable pub lane_after : ℕ → ℕ → List ℕ → ℕ → ℕ → ℕ
lane_after r a m zero l = start a l + (number (piece m l) + bit)
lane_after r a m (suc k) l = lane_after r a m k l * power4 r + (number (piece m (4 * suc k + l)) + bit)

abbrev pub combined : ℕ → ℕ → ℕ → ℕ → ℕ → ℕ
combined r x0 x1 x2 x3 = x0 * (r * r * r * r) + x1 * (r * r * r) + x2 * (r * r) + x3 * r

-- ---- four lanes of five limbs in 20 words: limb i of lane l stands at 4 * i + l

abbrev pub five : List ℕ → List ℕ
five h = get_or h 0 0 ∷ get_or h 1 0 ∷ get_or h 2 0 ∷ get_or h 3 0 ∷ get_or h 4 0 ∷ []

abbrev pub row : ℕ → List ℕ → List ℕ
row l x = get_or x l 0 ∷ get_or x (4 + l) 0 ∷ get_or x (8 + l) 0 ∷ get_or x (12 + l) 0 ∷ get_or x (16 + l) 0 ∷ []

unfoldable pub rows : List ℕ → List (List ℕ)
rows x = row 0 x ∷ row 1 x ∷ row 2 x ∷ row 3 x ∷ []

-- limbs of a lane between two steps: what the carries leave, and a block
abbrev pub Held : List ℕ → Type 0
Held h = Below (2 ^ 27 + 2 ^ 13) h

-- limbs that hold lane l of m
pub record Lane (r a : ℕ) (m : List ℕ) (k l : ℕ) (h : List ℕ) : Type 0 where
  pub below : Held h
  pub is : Mod prime (value h) (lane_after r a m k l)

-- a lane h after its block at `at`, multiplied by r
pub record Next (r : ℕ) (m : List ℕ) (at : ℕ) (h h' : List ℕ) : Type 0 where
  pub below : Held h'
  pub is : Mod prime (value h') (value h * r + (number (take 16 (drop at m)) + bit))

-- limbs a that have what c has, and what the carries leave
abbrev pub Adds : List ℕ → List ℕ → Type 0
Adds c a = (n : ℕ) → Below n c → Below (2 ^ 26 + 2 ^ 13 + n) a

-- the four lanes
abbrev pub HeldAll : List (List ℕ) → Type 0
HeldAll y = (l : ℕ) → l < 4 → Held (get_or y l [])

abbrev pub NextAll : ℕ → List ℕ → ℕ → List (List ℕ) → List (List ℕ) → Type 0
NextAll r m at y z = (l : ℕ) → l < 4 → Next r m (at + 16 * l) (get_or y l []) (get_or z l [])

abbrev pub LaneAll : ℕ → ℕ → List ℕ → ℕ → List (List ℕ) → Type 0
LaneAll r a m k y = (l : ℕ) → l < 4 → Lane r a m k l (get_or y l [])

-- after one block each, whatever r
abbrev pub First : ℕ → List ℕ → List (List ℕ) → Type 0
First a m y = (r : ℕ) → LaneAll r a m 0 y

abbrev pub combined_rows : ℕ → List (List ℕ) → ℕ
combined_rows r y =
    combined r (value (get_or y 0 [])) (value (get_or y 1 [])) (value (get_or y 2 [])) (value (get_or y 3 []))
