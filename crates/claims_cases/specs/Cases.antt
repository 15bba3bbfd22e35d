-- 01, "The proved cases": the lines marked *, as one table with one theorem; and lines on 02, §2, "Distances mean
-- close", §4, "Between two marks", §5, "Strictness by the clock", and §6, "Squares worked out". Assumes nothing.
-- [SPEC 30.1]
use Rattle.std.specs.Prelude.{◌≡◌, refl, Bool, true, false, ◌&&◌, List, [], ◌∷◌, map, ℕ, ◌-◌, ◌^◌, eqb, ℤ, pos, neg_ℤ}
use Rattle.std.specs.Prelude.{◌*ℤ◌, length, replicate}
use Rattle.std.specs.Bool.{beq}
use Rattle.std.specs.Int.Signed.{le_z}
use Rattle.base_algebra.specs.Word.{add, sub}
use Rattle.base_algebra.specs.Sum.{sum, sumℤ}
use Rattle.base_algebra.specs.Bit.{only, less}
use Rattle.base_algebra.specs.Word as W
use Rattle.base_words.specs.List.{tab, same}
use Rattle.measure_table.specs.declared.Terms.{Terms}
use Rattle.measure_table.specs.Measure.{row, scalar_product, squared_euclid, hamming, element, own, cross, measure}
use Rattle.measure_table.specs.declared.Rule.TheVariants.{Between}
use Rattle.measure_table.specs.Measure.{sign, difference, reached, within, threshold_fits, meets, rule_fits, in_order}
use Rattle.measure_table.specs.Measure.{word, ordinary_width, own_word}
use Rattle.share_vectors.specs.Share.{plus, ideal_gate}
use Rattle.base_messages.specs.Messages.{bad_rows, no_row, more_rows}
use Rattle.half_content.specs.Content.{widths, sum_first, size, block_count}
use Rattle.call_day.specs.Search.{least, count}
use Rattle.call_day.specs.Table.{Fault}
use Rattle.call_day.specs.Table.{Choice}
use Rattle.call_day.specs.Table.{table_of, holds as in_row, bad_row, rows_with, bad_minute, first_bad_row}
use Rattle.call_day.specs.Table.{first_bad_minute}
use Rattle.call_day.specs.Table.{row_at, shaped, why_not_table, choose}

-- a line: what is given, and what it comes to
pub data Line : Type 0 where
  -- code, X, Y: the three summands own(X), own(Y) and k × (sum of X_i × Y_i), and the measure
  measured : ℕ → List ℤ → List ℤ → ℤ → ℤ → ℤ → ℤ → Line
  -- code, L, vector: the own term of its first L elements, as a word
  own_term : ℕ → ℕ → List ℤ → ℕ → Line
  -- code, X, Y, T: whether it is reached
  reaches : ℕ → List ℤ → List ℤ → ℤ → Bool → Line
  -- code, X, Y, P, Q: whether the measure lies from P to Q
  between : ℕ → List ℤ → List ℤ → ℤ → ℤ → Bool → Line
  -- code, P, Q: whether 8 lets the two marks through
  ranged : ℕ → ℤ → ℤ → Bool → Line
  -- P, Q: whether 13 lets them through
  ordered : ℤ → ℤ → Bool → Line
  -- an element and its mask: the masked element
  masked : ℤ → ℕ → ℕ → Line
  -- width, r and a difference: Z, and what the ideal gate gives
  gated : ℕ → ℕ → ℤ → ℕ → ℕ → Line
  -- L: how many blocks
  filled : ℕ → ℕ → Line
  -- a table's first minutes, last minutes and thresholds: why it is turned down, and where
  turned_down : List ℕ → List ℕ → List ℕ → ℕ → ℕ → Line
  -- a table and a minute: the row's place, counted from 1, and its threshold
  looked : List ℕ → List ℕ → List ℕ → ℕ → ℕ → ℕ → Line

unfoldable pub sameℤ : ℤ → ℤ → Bool
sameℤ a b = le_z a b && le_z b a

-- the terms of a set under this code, for vectors as long as this one
unfoldable pub terms_of : ℕ → List ℤ → Terms
terms_of code x = record { code = code; n = length x }

-- the third summand of a measure: k × (sum of X_i × Y_i)
unfoldable pub crossed : Terms → List ℕ → List ℕ → ℤ
crossed terms x y = (row terms.code).k *ℤ cross terms x y

-- whether a line holds
unfoldable pub holds : Line → Bool
holds (measured code x y own_x own_y cross m) =
    let terms : Terms = terms_of code x in
    sameℤ (own terms (map word x)) own_x && sameℤ (own terms (map word y)) own_y
    && eqb (own_word terms (map word x)) (word own_x) && eqb (own_word terms (map word y)) (word own_y)
    && sameℤ (crossed terms (map word x) (map word y)) cross && sameℤ (measure terms (map word x) (map word y)) m
holds (own_term code n v w) = eqb (own_word (record { code = code; n = n }) (map word v)) w
holds (reaches code x y t b) =
    let terms : Terms = terms_of code x in
    beq (reached terms (measure terms (map word x) (map word y)) t) b
holds (between code x y p q b) =
    let terms : Terms = terms_of code x in
    beq (meets terms (Between (word p) (word q)) (measure terms (map word x) (map word y))) b
holds (ranged code p q b) = beq (rule_fits (record { code = code; n = 1 }) (Between (word p) (word q))) b
holds (ordered p q b) = beq (in_order (Between (word p) (word q))) b
holds (masked x m r) = same (plus 1 (word x ∷ []) (m ∷ [])) (r ∷ [])
holds (gated w r d z g) = eqb (add (word d) r) z && eqb (ideal_gate w r z) g
holds (filled n b) = eqb (block_count n) b
holds (turned_down firsts lasts thresholds why place) =
    let f : Fault = why_not_table (table_of firsts lasts thresholds) in eqb f.why why && eqb f.place place
holds (looked firsts lasts thresholds minute place threshold) =
    let c : Choice = choose (table_of firsts lasts thresholds) minute in
    eqb c.why 0 && eqb c.place place && eqb c.threshold threshold

-- 512 elements that are all the same
abbrev all_of : ℤ → List ℤ
all_of e = replicate 512 e

unfoldable pub table : List Line
table =
    -- scalar (3, -4) with (2, 5): -14. T = -14 reached, T = -13 not [SPEC 30.3, 30.4]
    measured 0 (pos 3 ∷ neg_ℤ (pos 4) ∷ []) (pos 2 ∷ pos 5 ∷ []) (pos 0) (pos 0) (neg_ℤ (pos 14)) (neg_ℤ (pos 14))
    ∷ reaches 0 (pos 3 ∷ neg_ℤ (pos 4) ∷ []) (pos 2 ∷ pos 5 ∷ []) (neg_ℤ (pos 14)) true
    ∷ reaches 0 (pos 3 ∷ neg_ℤ (pos 4) ∷ []) (pos 2 ∷ pos 5 ∷ []) (neg_ℤ (pos 13)) false
    -- squared Euclid of the same: 25 + 29 + 28 = 82 [SPEC 30.5]
    ∷ measured 1 (pos 3 ∷ neg_ℤ (pos 4) ∷ []) (pos 2 ∷ pos 5 ∷ []) (pos 25) (pos 29) (pos 28) (pos 82)
    -- Hamming (1,0,1,1) with (1,1,0,1): 3 + 3 - 4 = 2 [SPEC 30.6]
    ∷ measured 2 (pos 1 ∷ pos 0 ∷ pos 1 ∷ pos 1 ∷ [])
    (pos 1 ∷ pos 1 ∷ pos 0 ∷ pos 1 ∷ []) (pos 3) (pos 3) (neg_ℤ (pos 4)) (pos 2)
    -- the last two against T, by 02, §2: T = 82, 81 and 83; T = 2, 1 and 3 [SPEC 30.19, 30.20]
    ∷ reaches 1 (pos 3 ∷ neg_ℤ (pos 4) ∷ []) (pos 2 ∷ pos 5 ∷ []) (pos 82) true
    ∷ reaches 1 (pos 3 ∷ neg_ℤ (pos 4) ∷ []) (pos 2 ∷ pos 5 ∷ []) (pos 81) false
    ∷ reaches 1 (pos 3 ∷ neg_ℤ (pos 4) ∷ []) (pos 2 ∷ pos 5 ∷ []) (pos 83) true
    ∷ reaches 2 (pos 1 ∷ pos 0 ∷ pos 1 ∷ pos 1 ∷ []) (pos 1 ∷ pos 1 ∷ pos 0 ∷ pos 1 ∷ []) (pos 2) true
    ∷ reaches 2 (pos 1 ∷ pos 0 ∷ pos 1 ∷ pos 1 ∷ []) (pos 1 ∷ pos 1 ∷ pos 0 ∷ pos 1 ∷ []) (pos 1) false
    ∷ reaches 2 (pos 1 ∷ pos 0 ∷ pos 1 ∷ pos 1 ∷ []) (pos 1 ∷ pos 1 ∷ pos 0 ∷ pos 1 ∷ []) (pos 3) true
    -- squared Euclid of all -1,024 and all 1,023: 2,145,387,008. "T equal gives 1, T one less gives 0"
    -- [SPEC 30.14, 30.15]
    ∷ measured 1 (all_of (neg_ℤ (pos 1024))) (all_of (pos 1023))
    (pos 536870912) (pos 535822848) (pos 1072693248) (pos 2145387008)
    ∷ reaches 1 (all_of (neg_ℤ (pos 1024))) (all_of (pos 1023)) (pos 2145387008) true
    ∷ reaches 1 (all_of (neg_ℤ (pos 1024))) (all_of (pos 1023)) (pos 2145387007) false
    ∷ reaches 1 (all_of (neg_ℤ (pos 1024))) (all_of (pos 1023)) (pos 2145387009) true
    -- on 02, §6: squares of words, also of ones that no measure takes; and the first two of (3, -4, 9), under each code
    -- [SPEC 30.36, 30.37]
    ∷ own_term 1 1 (neg_ℤ (pos 1024) ∷ []) (2 ^ 20)
    ∷ own_term 1 1 (pos 1023 ∷ []) 1046529
    ∷ own_term 1 1 (neg_ℤ (pos 1) ∷ []) 1
    ∷ own_term 1 1 (pos 1025 ∷ []) 1050625
    ∷ own_term 1 1 (pos 65535 ∷ []) 4294836225
    ∷ own_term 1 1 (pos 65536 ∷ []) 0
    ∷ own_term 0 2 (pos 3 ∷ neg_ℤ (pos 4) ∷ pos 9 ∷ []) 0
    ∷ own_term 1 2 (pos 3 ∷ neg_ℤ (pos 4) ∷ pos 9 ∷ []) 25
    ∷ own_term 2 2 (pos 3 ∷ neg_ℤ (pos 4) ∷ pos 9 ∷ []) 25
    -- Hamming of equal vectors against T = 0; of vectors that differ at all 512 places, against T = 511, 512 and 513
    -- [SPEC 30.21, 30.22]
    ∷ reaches 2 (pos 1 ∷ pos 0 ∷ pos 1 ∷ pos 1 ∷ []) (pos 1 ∷ pos 0 ∷ pos 1 ∷ pos 1 ∷ []) (pos 0) true
    ∷ reaches 2 (all_of (pos 0)) (all_of (pos 1)) (pos 511) false
    ∷ reaches 2 (all_of (pos 0)) (all_of (pos 1)) (pos 512) true
    ∷ reaches 2 (all_of (pos 0)) (all_of (pos 1)) (pos 513) true
    -- element -4, mask 4,294,967,295: 4,294,967,291; element 3, mask 4,294,967,294: 1 [SPEC 30.7, 30.8]
    ∷ masked (neg_ℤ (pos 4)) 4294967295 4294967291
    ∷ masked (pos 3) 4294967294 1
    -- ideal gate with r = 0: difference 0 gives 1; -2^31 gives 0 [SPEC 30.9]
    ∷ gated ordinary_width 0 (pos 0) 0 1
    ∷ gated ordinary_width 0 (neg_ℤ (pos (2 ^ 31))) (2 ^ 31) 0
    -- r = 1, difference -1: Z = 0, gives 0 [SPEC 30.10]
    ∷ gated ordinary_width 1 (neg_ℤ (pos 1)) 0 0
    -- r = 2^32 - 1, difference 0: Z = 2^32 - 1, gives 1 [SPEC 30.11]
    ∷ gated ordinary_width (2 ^ 32 - 1) (pos 0) (2 ^ 32 - 1) 1
    -- r = 2^31: difference 2^31 - 1 gives 1; -2^31 gives 0 [SPEC 30.12]
    ∷ gated ordinary_width (2 ^ 31) (pos (2 ^ 31 - 1)) (2 ^ 32 - 1) 1
    ∷ gated ordinary_width (2 ^ 31) (neg_ℤ (pos (2 ^ 31))) 0 0
    -- 02, §4: the squared distance 82 from 82 to 82, from 83 to 84 and from 80 to 81; the product -14 from -14 to -13,
    -- from -15 to -14, from -15 to -13 and from -16 to -15; two equal vectors of bits from 1 to 513, and from 0 to 0
    -- [SPEC 30.23 to 30.25]
    ∷ between 1 (pos 3 ∷ neg_ℤ (pos 4) ∷ []) (pos 2 ∷ pos 5 ∷ []) (pos 82) (pos 82) true
    ∷ between 1 (pos 3 ∷ neg_ℤ (pos 4) ∷ []) (pos 2 ∷ pos 5 ∷ []) (pos 83) (pos 84) false
    ∷ between 1 (pos 3 ∷ neg_ℤ (pos 4) ∷ []) (pos 2 ∷ pos 5 ∷ []) (pos 80) (pos 81) false
    ∷ between 0 (pos 3 ∷ neg_ℤ (pos 4) ∷ []) (pos 2 ∷ pos 5 ∷ []) (neg_ℤ (pos 14)) (neg_ℤ (pos 13)) true
    ∷ between 0 (pos 3 ∷ neg_ℤ (pos 4) ∷ []) (pos 2 ∷ pos 5 ∷ []) (neg_ℤ (pos 15)) (neg_ℤ (pos 14)) true
    ∷ between 0 (pos 3 ∷ neg_ℤ (pos 4) ∷ []) (pos 2 ∷ pos 5 ∷ []) (neg_ℤ (pos 15)) (neg_ℤ (pos 13)) true
    ∷ between 0 (pos 3 ∷ neg_ℤ (pos 4) ∷ []) (pos 2 ∷ pos 5 ∷ []) (neg_ℤ (pos 16)) (neg_ℤ (pos 15)) false
    ∷ between 2 (pos 1 ∷ pos 0 ∷ pos 1 ∷ pos 1 ∷ []) (pos 1 ∷ pos 0 ∷ pos 1 ∷ pos 1 ∷ []) (pos 1) (pos 513) false
    ∷ between 2 (pos 1 ∷ pos 0 ∷ pos 1 ∷ pos 1 ∷ []) (pos 1 ∷ pos 0 ∷ pos 1 ∷ pos 1 ∷ []) (pos 0) (pos 0) true
    -- the gate at widths 0 and 5: differences 0 and 5 are inside, 1, 6 and -1 outside, also where Z wraps
    -- [SPEC 30.26 to 30.28]
    ∷ gated 0 0 (pos 0) 0 1
    ∷ gated 0 0 (pos 1) 1 0
    ∷ gated 5 (2 ^ 32 - 1) (pos 5) 4 1
    ∷ gated 5 (2 ^ 32 - 1) (pos 6) 5 0
    ∷ gated 5 0 (neg_ℤ (pos 1)) (2 ^ 32 - 1) 0
    -- 8 of two marks under Hamming: 0 and 513; -1 and 513; 0 and 514 [SPEC 30.29]
    ∷ ranged 2 (pos 0) (pos 513) true
    ∷ ranged 2 (neg_ℤ (pos 1)) (pos 513) false
    ∷ ranged 2 (pos 0) (pos 514) false
    -- 13: 5 and 5; 5 and 4; -2^30 and 2^30; -2^30 and 2^30 - 1 [SPEC 30.30]
    ∷ ordered (pos 5) (pos 5) true
    ∷ ordered (pos 5) (pos 4) false
    ∷ ordered (neg_ℤ (pos (2 ^ 30))) (pos (2 ^ 30)) false
    ∷ ordered (neg_ℤ (pos (2 ^ 30))) (pos (2 ^ 30 - 1)) true
    -- blocks: 01's line, with 17: 4 by 02, §4, and 16 beside it. L = 1: 3; 16: 3; 17: 4; 18: 4; 512: 16 [SPEC 30.13]
    ∷ filled 1 3
    ∷ filled 16 3
    ∷ filled 17 4
    ∷ filled 18 4
    ∷ filled 512 16
    -- 02, §5: three rows in another order than the day's, at minutes 479, 480, 1,019 and 1,020 [SPEC 30.31]
    ∷ looked (0 ∷ 1020 ∷ 480 ∷ []) (479 ∷ 1439 ∷ 1019 ∷ []) (5 ∷ 6 ∷ 900 ∷ []) 479 1 5
    ∷ looked (0 ∷ 1020 ∷ 480 ∷ []) (479 ∷ 1439 ∷ 1019 ∷ []) (5 ∷ 6 ∷ 900 ∷ []) 480 3 900
    ∷ looked (0 ∷ 1020 ∷ 480 ∷ []) (479 ∷ 1439 ∷ 1019 ∷ []) (5 ∷ 6 ∷ 900 ∷ []) 1019 3 900
    ∷ looked (0 ∷ 1020 ∷ 480 ∷ []) (479 ∷ 1439 ∷ 1019 ∷ []) (5 ∷ 6 ∷ 900 ∷ []) 1020 2 6
    -- minute 300 in two rows and minute 900 in none: the lower one decides; and the other way about [SPEC 30.32]
    ∷ turned_down (901 ∷ 0 ∷ 300 ∷ []) (1439 ∷ 300 ∷ 899 ∷ []) (7 ∷ 7 ∷ 7 ∷ []) more_rows 300
    ∷ turned_down (900 ∷ 0 ∷ 301 ∷ []) (1439 ∷ 299 ∷ 900 ∷ []) (7 ∷ 7 ∷ 7 ∷ []) no_row 300
    -- one row that leaves out minute 0, one that leaves out 1,439, and one that runs past the day [SPEC 30.33]
    ∷ turned_down (1 ∷ []) (1439 ∷ []) (7 ∷ []) no_row 0
    ∷ turned_down (0 ∷ []) (1438 ∷ []) (7 ∷ []) no_row 1439
    ∷ turned_down (0 ∷ []) (1440 ∷ []) (7 ∷ []) bad_rows 1
    -- of three rows the second and third run backwards [SPEC 30.34]
    ∷ turned_down (0 ∷ 700 ∷ 9 ∷ []) (1439 ∷ 699 ∷ 8 ∷ []) (7 ∷ 7 ∷ 7 ∷ []) bad_rows 2
    -- no row, 33 rows, and lists of unequal length [SPEC 30.35]
    ∷ turned_down [] [] [] bad_rows 0
    ∷ turned_down (replicate 33 0) (replicate 33 1439) (replicate 33 7) bad_rows 0
    ∷ turned_down (0 ∷ []) (1439 ∷ []) [] bad_rows 0
    ∷ turned_down (0 ∷ []) [] (7 ∷ []) bad_rows 0
    ∷ turned_down [] (1439 ∷ []) (7 ∷ []) bad_rows 0
    ∷ []

unfoldable pub all : List Line → Bool
all [] = true
all (l ∷ t) = holds l && all t

pub the_cases : all table ≡ true
unfolding all table holds terms_of sameℤ crossed widths sum_first size block_count ideal_gate measure own cross element
    sign difference reached within threshold_fits meets rule_fits in_order row scalar_product squared_euclid hamming
    word own_word plus tab same sum sumℤ add sub W.mul W.neg W.signed only less choose why_not_table shaped
    first_bad_row first_bad_minute rows_with bad_row bad_minute in_row row_at least count
the_cases = refl
