-- The three measures (01, "Measures"; 02, §2, "Distances mean close", §4, "Between two marks", and §6, "Squares worked
-- out"): the table, the whole number that a set's terms and two vectors have, when that number meets the rule that was
-- dealt, and the words that a box computes. Elements, thresholds and marks are words: a negative number stands for
-- itself plus 2^32. The terms are what a set's measure is of: its code, and L as `n`. Assumes nothing.
-- [SPEC 2.3, 2.4, 3.1 to 3.4, 3.6, 3.8, 3.13]
use Rattle.std.specs.Prelude.{Bool, true, false, cond, ◌&&◌, List, [], ◌∷◌, ℕ, zero, suc, ◌-◌, ◌%◌, ◌^◌, eqb, ltb, leb}
use Rattle.std.specs.Prelude.{ℤ, pos, negsuc, neg_ℤ, ◌+ℤ◌, ◌-ℤ◌, ◌*ℤ◌, get_or}
use Rattle.std.specs.Int.Signed.{le_z}
use Rattle.base_algebra.specs.Word.{neg, sub, mul, signed}
use Rattle.base_algebra.specs.Sum.{sum, sumℤ}
use Rattle.measure_table.specs.declared.Terms.{Terms}
use Rattle.measure_table.specs.declared.Rule.{Rule}
use Rattle.measure_table.specs.declared.Rule.TheVariants.{Threshold, Between}

-- the most elements that a vector has under any measure: the places of every array of a vector's words
abbrev pub most_elements : ℕ
most_elements = 512

-- the mark of an ordinary set, and of one between two marks; and an ordinary set's width [SPEC 3.14]
abbrev pub ordinary_mark : ℕ
ordinary_mark = 0

abbrev pub between_mark : ℕ
between_mark = 1

abbrev pub ordinary_width : ℕ
ordinary_width = 2 ^ 31 - 1

-- 01's table, a row for each code. `squares`: own is the sum of squares, else 0. An element lies from `low` to `high`,
-- a threshold from `least` to `most`. Two columns more: a vector has at most `longest` elements; `sign` is 1 where more
-- means the same person, and -1 where less does. [SPEC 3.3, 3.6]
pub record Row : Type 0 where
  pub squares : Bool
  pub k : ℤ
  pub low : ℤ
  pub high : ℤ
  pub least : ℤ
  pub most : ℤ
  pub longest : ℕ
  pub sign : ℤ

-- the columns in the order of 01's table, then the length's and the sign's
abbrev columns : Bool → ℤ → ℤ → ℤ → ℤ → ℤ → ℕ → ℤ → Row
columns squares k low high least most longest sign =
    record {
      squares = squares;
      k = k;
      low = low;
      high = high;
      least = least;
      most = most;
      longest = longest;
      sign = sign;
    }

-- "scalar product keeps measure ≥ T"
unfoldable pub scalar_product : Row
scalar_product =
    columns false (pos 1) (neg_ℤ (pos 1024)) (pos 1023) (neg_ℤ (pos (2 ^ 30))) (pos (2 ^ 30)) most_elements (pos 1)

-- "For squared Euclid and Hamming the lock's 1 means measure ≤ T"
unfoldable pub squared_euclid : Row
squared_euclid =
    columns true (neg_ℤ (pos 2)) (neg_ℤ (pos 1024)) (pos 1023) (pos 0) (pos (2 ^ 31 - 1)) most_elements (neg_ℤ (pos 1))

unfoldable pub hamming : Row
hamming = columns true (neg_ℤ (pos 2)) (pos 0) (pos 1) (pos 0) (pos 513) most_elements (neg_ℤ (pos 1))

-- 01's table, column "code". A code above 2 reads as 2: no accepted
-- call has one (01, "When a call is turned down", 2, 3 and 11). [SPEC 3.3, 3.10, 23.2]
unfoldable pub row : ℕ → Row
row zero = scalar_product
row (suc zero) = squared_euclid
row (suc (suc code)) = hamming

-- the codes that there are (01, "When a call is turned down", 2) [SPEC 23.2]
unfoldable pub is_code : ℕ → Bool
is_code code = ltb code 3

-- "Let L be the vector length, 1 to 512"
unfoldable pub length_fits : Terms → Bool
length_fits terms = leb 1 terms.n && leb terms.n (row terms.code).longest

-- X_i as a whole number
unfoldable pub element : List ℕ → ℕ → ℤ
element v i = signed (get_or v i 0)

-- own(X) over the first L places (01's table, column "own") [SPEC 3.3, 3.4]
unfoldable pub own : Terms → List ℕ → ℤ
own terms v = cond (row terms.code).squares (sumℤ (λ i. element v i *ℤ element v i) terms.n) (pos 0)

-- the "sum of X_i × Y_i"
unfoldable pub cross : Terms → List ℕ → List ℕ → ℤ
cross terms x y = sumℤ (λ i. element x i *ℤ element y i) terms.n

-- "Measure = own(X) + own(Y) + k × (sum of X_i × Y_i)" [SPEC 3.2]
unfoldable pub measure : Terms → List ℕ → List ℕ → ℤ
measure terms x y = own terms x +ℤ own terms y +ℤ (row terms.code).k *ℤ cross terms x y

-- the sign of a set's sum: an ordinary set, of mark 0, "keeps its code's sign", and one between two marks has "the
-- plain sign for every code" (02, §4). A mark above 1, which a state handed in may have, counts as 1. Terms, mark
-- [SPEC 3.6, 3.14, 12.21]
unfoldable pub sign : Terms → ℕ → ℤ
sign terms mark = cond (eqb mark ordinary_mark) (row terms.code).sign (pos 1)

-- what the two boxes open, less r: measure - T, and T - measure where the sign is -1. Terms, mark, measure, T or P
-- [SPEC 17.6]
unfoldable pub difference : Terms → ℕ → ℤ → ℤ → ℤ
difference terms mark m t = sign terms mark *ℤ (m -ℤ t)

-- whether the threshold is reached: an ordinary set's difference is not below 0. With sign 1 that is "measure ≥ T"
-- (Laws.`reached-plain`), with sign -1 it is "measure ≤ T" (`reached-close`). Terms, measure, T [SPEC 3.6]
unfoldable pub reached : Terms → ℤ → ℤ → Bool
reached terms m t = le_z (pos 0) (difference terms ordinary_mark m t)

-- whether z lies from low to high
unfoldable pub within : ℤ → ℤ → ℤ → Bool
within low high z = le_z low z && le_z z high

-- 01's table, column "elements": terms, word [SPEC 3.3, 23.8]
unfoldable pub in_range : Terms → ℕ → Bool
in_range terms w = within (row terms.code).low (row terms.code).high (signed w)

unfoldable pub all_in_range : Terms → List ℕ → Bool
all_in_range terms [] = true
all_in_range terms (w ∷ v) = in_range terms w && all_in_range terms v

-- 01's table, column "threshold T": terms, word [SPEC 3.3, 23.8]
unfoldable pub threshold_fits : Terms → ℕ → Bool
threshold_fits terms t = within (row terms.code).least (row terms.code).most (signed t)

-- ---- the rule of a set, which the dealer is handed: a threshold T, or two marks P and Q (02, §4)

-- whether a measure meets it: "The lock's 1 is now proved to mean P ≤ measure ≤ Q for such sets" [SPEC 3.6, 3.13]
unfoldable pub meets : Terms → Rule → ℤ → Bool
meets terms (Threshold t) m = reached terms m (signed t)
meets terms (Between p q) m = within (signed p) (signed q) m

-- "The dealer takes P and Q, each within the measure's threshold range" [SPEC 3.13, 23.8]
unfoldable pub rule_fits : Terms → Rule → Bool
rule_fits terms (Threshold t) = threshold_fits terms t
rule_fits terms (Between p q) = threshold_fits terms p && threshold_fits terms q

-- "Number 13, tested after 8, means Q < P or Q - P above 2^31 - 1" [SPEC 23.13]
unfoldable pub in_order : Rule → Bool
in_order (Threshold t) = true
in_order (Between p q) = le_z (signed p) (signed q) && le_z (signed q -ℤ signed p) (pos ordinary_width)

-- "It deals as for T = P" [SPEC 3.14, 5.8]
unfoldable pub offset_of : Rule → ℕ
offset_of (Threshold t) = t
offset_of (Between p q) = p

-- "the width w = Q - P", and "An ordinary set has w = 2^31 - 1" [SPEC 3.14]
unfoldable pub width_of : Rule → ℕ
width_of (Threshold t) = ordinary_width
width_of (Between p q) = sub q p

-- "a mark byte, 1 for such a set and 0 for an ordinary one" [SPEC 3.14]
unfoldable pub mark_of : Rule → ℕ
mark_of (Threshold t) = ordinary_mark
mark_of (Between p q) = between_mark

-- ---- as words (01, "Measures": "word sums, differences and products are taken modulo 2^32") [SPEC 2.2, 3.7]

-- "A negative number stands for itself plus 2^32" [SPEC 2.3]
unfoldable pub word : ℤ → ℕ
word (pos n) = n % 2 ^ 32
word (negsuc n) = neg (suc n)

unfoldable pub k_word : Terms → ℕ
k_word terms = word (row terms.code).k

unfoldable pub sign_word : Terms → ℕ → ℕ
sign_word terms mark = word (sign terms mark)

-- 01's table, column "own": a square is a word times itself [SPEC 3.4, 3.8]
unfoldable pub own_word : Terms → List ℕ → ℕ
own_word terms v = cond (row terms.code).squares (sum (λ i. mul (get_or v i 0) (get_or v i 0)) terms.n) 0

-- what a party carries into the product and puts under its mask: its vector as it is, at both parties. The sum of the
-- products of what the two carry is `cross` (Laws.`cross≈`). Terms, party, vector
unfoldable pub carried : Terms → ℕ → List ℕ → List ℕ
carried terms party v = v
