-- Two states in one table of words. Assumes nothing.
use Rattle.std.specs.Prelude.{ℕ, zero, suc, ◌+◌, List, [], ◌∷◌, get_or}
use Rattle.chacha20_rounds.specs.declared.Four.{Four}
use Rattle.chacha20_rounds.specs.declared.State.{State}
use Rattle.chacha20_rounds.specs.Rounds.{store, quarter_at}

-- A row is eight words: four of the one state, from 0 on, and four of the other, from 4 on. The rows of the states
-- stand 16 words apart. They are turned as a diagonal round leaves them: row r of a state stands r places to the left.

-- four words, from `at` on and `step` apart
abbrev pub four_at : ℕ → ℕ → List ℕ → Four
four_at at step z = record {
  a = get_or z at 0;
  b = get_or z (step + at) 0;
  c = get_or z (step + (step + at)) 0;
  d = get_or z (step + (step + (step + at))) 0;
}

-- those words written over
abbrev pub put_four : ℕ → ℕ → Four → List ℕ → List ℕ
put_four at step q z = store at (step + at) (step + (step + at)) (step + (step + (step + at))) z q

-- the words of the state whose rows stand so
abbrev pub turned_back : Four → Four → Four → Four → List ℕ
turned_back p q r s =
    p.a ∷ p.b ∷ p.c ∷ p.d ∷ q.d ∷ q.a ∷ q.b ∷ q.c ∷ r.c ∷ r.d ∷ r.a ∷ r.b ∷ s.b ∷ s.c ∷ s.d ∷ s.a ∷ []

-- the words of the state whose rows begin at `at`
unfoldable pub half : ℕ → List ℕ → List ℕ
half at z = turned_back (four_at at 1 z) (four_at (16 + at) 1 z) (four_at (32 + at) 1 z) (four_at (48 + at) 1 z)

-- row r of a state, turned r places to the left
abbrev pub row_of : ℕ → State → Four
row_of zero t = record { a = t.x0; b = t.x1; c = t.x2; d = t.x3 }
row_of (suc zero) t = record { a = t.x5; b = t.x6; c = t.x7; d = t.x4 }
row_of (suc (suc zero)) t = record { a = t.x10; b = t.x11; c = t.x8; d = t.x9 }
row_of (suc (suc (suc r))) t = record { a = t.x15; b = t.x12; c = t.x13; d = t.x14 }

-- the table with that state's words written over
unfoldable pub put : ℕ → State → List ℕ → List ℕ
put at t z =
    put_four (48 + at) 1 (row_of 3 t)
    (put_four (32 + at) 1 (row_of 2 t) (put_four (16 + at) 1 (row_of 1 t) (put_four at 1 (row_of 0 t) z)))

-- a quarter round on each of the first n columns
unfoldable pub columns : ℕ → List ℕ → List ℕ
columns zero z = z
columns (suc n) z = quarter_at n (16 + n) (32 + n) (48 + n) (columns n z)

-- four words turned to the left by n places
unfoldable pub left_by : ℕ → Four → Four
left_by zero q = q
left_by (suc n) q = left_by n record { a = q.b; b = q.c; c = q.d; d = q.a }

-- the four words at `at`, turned to the left
unfoldable pub turned : ℕ → ℕ → List ℕ → List ℕ
turned at by z = put_four at 1 (left_by by (four_at at 1 z)) z

-- row 1 of both states turned by b, row 2 by two, row 3 by d
unfoldable pub turned_rows : ℕ → ℕ → List ℕ → List ℕ
turned_rows b d z = turned 52 d (turned 48 d (turned 36 2 (turned 32 2 (turned 20 b (turned 16 b z)))))
