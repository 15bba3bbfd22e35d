-- Margins worked out, as one table with one theorem: X, Y, T and e. Assumes nothing. [SPEC 36.3, 36.5, 36.6]
use Rattle.std.specs.Prelude.{List, [], ◌∷◌, map, ℕ, ◌^◌, ℤ, pos, neg_ℤ}
use Rattle.measure_table.specs.Measure.{word}
use Rattle.measure_margin.specs.Margin.{Largest}

pub data Line : Type 0 where
  line : List ℤ → List ℤ → ℤ → ℕ → Line

-- e is the margin of the words of X, Y and T
unfoldable pub Holds : Line → Type 0
Holds (line x y t e) = Largest (map word x) (map word y) (word t) e

unfoldable pub AllHold : List Line → Type 0
AllHold [] = Unit {0}
AllHold (l ∷ ls) = Holds l × AllHold ls

unfoldable pub table : List Line
table =
    -- (3, -4) with (2, 5): the product is -14, and the absolute elements of Y sum to 7. -14 is reached with nothing to
    -- spare, -20 with 6, -21 with 7
    line (pos 3 ∷ neg_ℤ (pos 4) ∷ []) (pos 2 ∷ pos 5 ∷ []) (neg_ℤ (pos 14)) 0
    ∷ line (pos 3 ∷ neg_ℤ (pos 4) ∷ []) (pos 2 ∷ pos 5 ∷ []) (neg_ℤ (pos 20)) 0
    ∷ line (pos 3 ∷ neg_ℤ (pos 4) ∷ []) (pos 2 ∷ pos 5 ∷ []) (neg_ℤ (pos 21)) 1
    -- -13 is missed with nothing to spare, -7 with 6, -6 with 7
    ∷ line (pos 3 ∷ neg_ℤ (pos 4) ∷ []) (pos 2 ∷ pos 5 ∷ []) (neg_ℤ (pos 13)) 0
    ∷ line (pos 3 ∷ neg_ℤ (pos 4) ∷ []) (pos 2 ∷ pos 5 ∷ []) (neg_ℤ (pos 7)) 0
    ∷ line (pos 3 ∷ neg_ℤ (pos 4) ∷ []) (pos 2 ∷ pos 5 ∷ []) (neg_ℤ (pos 6)) 1
    -- a whole-number vector may leave the range of elements
    ∷ line (pos 1023 ∷ []) (pos 1 ∷ []) (pos 1024) 0
    -- a Y of zeros, with T missed and reached
    ∷ line (pos 5 ∷ pos 6 ∷ []) (pos 0 ∷ pos 0 ∷ []) (pos 1) 2047
    ∷ line (pos 5 ∷ pos 6 ∷ []) (pos 0 ∷ pos 0 ∷ []) (pos 0) 2047
    -- up to the most, and past it
    ∷ line (pos 0 ∷ []) (pos 1 ∷ []) (pos 2047) 2046
    ∷ line (pos 0 ∷ []) (neg_ℤ (pos 1) ∷ []) (pos 2048) 2047
    ∷ line (pos 0 ∷ []) (pos 1 ∷ []) (pos 2049) 2047
    ∷ line (pos 1 ∷ []) (pos 1 ∷ []) (neg_ℤ (pos (2 ^ 30))) 2047
    ∷ []
