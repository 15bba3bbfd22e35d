-- What a box computes in one check, and what the dealer computes for it, over free words (01, "Dealing a set" and "One
-- check at a box"; 02, §2 and §4). A party is its number: 0 the camera box, 1 the office box. With a set's sign 1 the
-- formulas are equal to 01's, with -1 to 02's (Claims.`word_plain`, `other_r_plain`, `word_close`, `other_r_close`). An
-- ordinary set's mark is 0, and its width 2^31 - 1 (`answer_ordinary`). Assumes nothing.
-- [SPEC 5.7, 5.8, 16.2, 17.3, 17.4, 18.3, 18.4]
use Rattle.std.specs.Prelude.{List, ℕ, get_or}
use Rattle.base_algebra.specs.Word.{add, sub, mul}
use Rattle.base_algebra.specs.Bit.{only, less, odd}
use Rattle.base_algebra.specs.Sum.{sum}
use Rattle.base_words.specs.List.{tab}
use Rattle.dcf_node.specs.declared.Key.{Key}
use Rattle.dcf_node.specs.Node.{value_at}
use Rattle.measure_table.specs.declared.Terms.{Terms}
use Rattle.measure_table.specs.Measure.{k_word, sign_word}

-- two vectors of n words added element by element: "X's mask is x0 + x1, element by element", and call 2's "element
-- plus mask, as words" [SPEC 5.5, 5.6, 16.2]
unfoldable pub plus : ℕ → List ℕ → List ℕ → List ℕ
plus n a b = tab (λ i. add (get_or a i 0) (get_or b i 0)) n

-- the sum of products over the first n places
unfoldable pub inner : ℕ → List ℕ → List ℕ → ℕ
inner n a b = sum (λ i. mul (get_or a i 0) (get_or b i 0)) n

-- "c1 = (sum of X-mask × Y-mask) - c0" [SPEC 5.7]
unfoldable pub other_c : ℕ → List ℕ → List ℕ → ℕ → ℕ
other_c n mask_x mask_y c0 = sub (inner n mask_x mask_y) c0

-- "r1 = r - T - r0", and with sign -1 "r1 = r + T - r0". Terms, mark, r, T or P, r0 [SPEC 5.8]
unfoldable pub other_r : Terms → ℕ → ℕ → ℕ → ℕ → ℕ
other_r terms mark r t r0 = sub (sub r (mul (sign_word terms mark) t)) r0

-- call 3: "share = its c - sum(MX × its Y share) - sum(MY × its X share), plus sum(MX × MY) at party 1" [SPEC 17.3]
unfoldable pub share : ℕ → ℕ → ℕ → List ℕ → List ℕ → List ℕ → List ℕ → ℕ
share party n c masked_x masked_y share_x share_y =
    add (sub (sub c (inner n masked_x share_y)) (inner n masked_y share_x))
    (only (odd party) (inner n masked_x masked_y))

-- call 3: "its word: k × (share) + own + its r", and with sign -1 "its r minus (k × (share) + own)". Terms, mark,
-- share, own, r [SPEC 17.4]
unfoldable pub box_word : Terms → ℕ → ℕ → ℕ → ℕ → ℕ
box_word terms mark s own r = add (mul (sign_word terms mark) (add (mul (k_word terms) s) own)) r

-- call 4 (02, §4): "An answer is then value at Z - (w + 1) minus value at Z, and party 1 adds 1 if Z < w + 1". At an
-- ordinary set's w that is 01's: "value at Z + 2^31 minus value at Z, and party 1 adds 1 if Z < 2^31". A w of 2^32 - 1,
-- which a state handed in may have, makes w + 1 zero, and the answer too. Width, party, key, key seed, Z
-- [SPEC 12.21, 18.3, 18.4]
unfoldable pub answer : ℕ → ℕ → Key → List ℕ → ℕ → ℕ
answer w party key seed z =
    let end : ℕ = add w 1 in
    add (sub (value_at party key seed (sub z end)) (value_at party key seed z)) (only (odd party) (less z end))

-- the gate of call 4 with ideal values: the two parties' values of a key for r at u sum to [u < r]. Width, r, Z
-- [SPEC 30.18]
unfoldable pub ideal_gate : ℕ → ℕ → ℕ → ℕ
ideal_gate w r z =
    let end : ℕ = add w 1 in
    add (sub (less (sub z end) r) (less z r)) (less z end)
