-- What the C functions of a check do with slices of any lengths: the vector's length counts, and where another slice is
-- shorter nothing is computed. Assumes nothing.
use Rattle.std.specs.Prelude.{Bool, cond, ◌&&◌, List, ℕ, leb, length}
use Rattle.base_words.specs.List.{over}
use Rattle.share_vectors.specs.Share.{plus, share, box_word}
use Rattle.measure_table.specs.declared.Terms.{Terms}
use Rattle.measure_table.specs.Measure.{ordinary_mark, own_word}

-- whether a mask and a place for the answer are as long as a vector
unfoldable pub mask_fits : List ℕ → List ℕ → List ℕ → Bool
mask_fits v m out = leb (length v) (length m) && leb (length v) (length out)

-- call 2: what then stands in that place
unfoldable pub masked_over : List ℕ → List ℕ → List ℕ → List ℕ
masked_over v m out = cond (mask_fits v m out) (over 0 (plus (length v) v m) out) out

-- whether both masked vectors and both shares are as long as a vector
unfoldable pub word_fits : List ℕ → List ℕ → List ℕ → List ℕ → List ℕ → Bool
word_fits v mx my sx sy =
    leb (length v) (length mx)
    && (leb (length v) (length my) && (leb (length v) (length sx) && leb (length v) (length sy)))

-- the terms of a set under this code, for vectors as long as v
unfoldable pub terms_of : ℕ → List ℕ → Terms
terms_of code v = record { code = code; n = length v }

-- call 3 in an ordinary set: the word of the party whose vector is v, else 0
unfoldable pub word_or_zero : ℕ → ℕ → ℕ → ℕ → List ℕ → List ℕ → List ℕ → List ℕ → List ℕ → ℕ
word_or_zero code party c r v mx my sx sy =
    let terms : Terms = terms_of code v in
    cond (word_fits v mx my sx sy)
    (box_word terms ordinary_mark (share party (length v) c mx my sx sy) (own_word terms v) r)
    0
