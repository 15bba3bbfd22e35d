-- What a caller uses of the measures: how long a vector may be; their words are the residues of the whole numbers, and
-- the own term that a box works out is the own term's word; the difference of measure and threshold fits a signed word
-- (01, "Measures"), with either sign, and whether that word is at most the rule's width says whether the rule is met;
-- and that this is the papers' rule for each code and between two marks. Assumes nothing.
-- [SPEC 2.3, 2.4, 3.5 to 3.7, 3.9, 3.11 to 3.15]
use Rattle.std.specs.Prelude.{◌≡◌, Bool, true, false, cond, List, [], ◌∷◌, ℕ, zero, suc, ◌-◌, ◌%◌, ◌^◌, ◌<◌}
use Rattle.std.specs.Prelude.{◌≤◌, eqb, ℤ, negsuc, ◌+ℤ◌, ◌-ℤ◌, ◌*ℤ◌, length, get_or}
use Rattle.std.proofs.Math.Path.{refl, ap, ap₂}
use Rattle.std.proofs.Common.{sym, ◌∙◌, subst, arith}
use Rattle.std.proofs.Math.Bool.{◌&&◌}
use borrow.Author.Tests.{leb-true, le-leb, ltb-true, lt-ltb, le-ltb, ne_eqb}
use Rattle.std.proofs.Math.IntN.{pos, neg_ℤ}
use Rattle.std.specs.Int.Signed.{le_z}
use Rattle.base_algebra.specs.Mod.{m_eq, m_sym, m_trans, m_mul, m_mod}
use Rattle.base_algebra.specs.Integer.{residue, residue_pos, residue_mul, ringℤ, reifyℤ}
use Rattle.base_algebra.specs.Ring.{ring}
use Rattle.base_algebra.specs.Word.{words, sub, neg, mul, signed, ◌≈◌, mul≈, neg≈, neg_lt, sub_lt, signed≈}
use Rattle.base_algebra.specs.Word.{same_word}
use Rattle.base_algebra.specs.Sum.{sum, sumℤ, sum≈, sum_lt, sumℤ_ext}
use Rattle.base_algebra.specs.Bit.{both, neither}
use Rattle.measure_table.specs.declared.Terms.{Terms}
use Rattle.measure_table.specs.declared.Rule.{Rule}
use Rattle.measure_table.specs.declared.Rule.TheVariants.{Threshold, Between}
use Rattle.measure_table.specs.Measure.{most_elements, ordinary_mark, ordinary_width, Row}
use Rattle.measure_table.specs.Measure.{scalar_product, squared_euclid, hamming, row, is_code}
use Rattle.measure_table.specs.Measure.{length_fits, element, own, cross, measure, sign, difference, reached}
use Rattle.measure_table.specs.Measure.{within, in_range, all_in_range, in_order}
use Rattle.measure_table.specs.Measure.{width_of}
use Rattle.measure_table.specs.Measure.{word, sign_word, own_word, carried}
use Rattle.measure_table.specs.Order.{above_zero, of_test, to_test, le_trans}

pub code_lt : (code : ℕ) → is_code code ≡ true → code < 3
unfolding is_code
code_lt code h = ltb-true code 3 h

-- ---- how long a vector may be

-- "1 to 512", whatever the code
pub longest_most : (code : ℕ) → (row code).longest ≤ most_elements
unfolding row scalar_product squared_euclid hamming
longest_most zero = omega arith
longest_most (suc zero) = omega arith
longest_most (suc (suc code)) = omega arith

module _ (terms : Terms) where
  pub length_longest : length_fits terms ≡ true → (1 ≤ terms.n) × (terms.n ≤ (row terms.code).longest)
  unfolding length_fits
  length_longest h =
      let parts = both _ _ h in
      (leb-true _ _ parts.0, leb-true _ _ parts.1)

  pub longest_length : 1 ≤ terms.n → terms.n ≤ (row terms.code).longest → length_fits terms ≡ true
  unfolding length_fits
  longest_length h k = ap₂ ◌&&◌ (le-leb _ _ h) (le-leb _ _ k)

  pub length_fits_lem : length_fits terms ≡ true → (1 ≤ terms.n) × (terms.n ≤ most_elements)
  length_fits_lem h =
      let parts = length_longest h in
      (parts.0, omega (arith, parts.1, longest_most terms.code))

-- and it is 512 under every code
pub longest_is : (code : ℕ) → (row code).longest ≡ most_elements
unfolding row scalar_product squared_euclid hamming
longest_is zero = refl
longest_is (suc zero) = refl
longest_is (suc (suc code)) = refl

pub any_length : (terms : Terms) → 1 ≤ terms.n → terms.n ≤ most_elements → length_fits terms ≡ true
any_length terms h k = longest_length terms h (omega (arith, k, longest_is terms.code))

-- ---- the words are the residues of the whole numbers

pub word≈ : (z : ℤ) → word z ≈ residue (2 ^ 32) z
unfolding word residue
word≈ (pos n) = m_mod (2 ^ 32) n
word≈ (negsuc n) = neg≈ (suc n)

pub word_lt : (z : ℤ) → word z < 2 ^ 32
unfolding word
word_lt (pos n) = omega arith
word_lt (negsuc n) = neg_lt (suc n)

-- ---- "A negative number stands for itself plus 2^32": a number's word, read as signed, is the number [SPEC 2.3, 2.4]

pub signed_low : (w : ℕ) → w < 2 ^ 31 → signed w ≡ pos w
unfolding signed
signed_low w l = ap (λ (c : Bool). cond c (pos w) (pos w -ℤ pos (2 ^ 32))) (lt-ltb w (2 ^ 31) l)

pub signed_high : (w : ℕ) → 2 ^ 31 ≤ w → w < 2 ^ 32 → signed w ≡ negsuc (2 ^ 32 - suc w)
unfolding signed
signed_high w l k =
    ap (λ (c : Bool). cond c (pos w) (pos w -ℤ pos (2 ^ 32))) (le-ltb w (2 ^ 31) l)
    ∙ ap (λ (c : Bool). cond c (negsuc (2 ^ 32 - suc w)) (pos (w - 2 ^ 32))) (lt-ltb w (2 ^ 32) k)

pub signed_word : (z : ℤ) → le_z (neg_ℤ (pos (2 ^ 31))) z ≡ true → le_z z (pos (2 ^ 31 - 1)) ≡ true
    → signed (word z) ≡ z
unfolding word neg
signed_word (pos n) from to =
    let small : n < 2 ^ 31 = omega (arith, leb-true n (2 ^ 31 - 1) to) in
    let same : n % 2 ^ 32 ≡ n = omega arith in
    ap signed same ∙ signed_low n small
signed_word (negsuc n) from to =
    let small : n < 2 ^ 31 = omega (arith, leb-true n (2 ^ 31 - 1) from) in
    let same : neg (suc n) ≡ 2 ^ 32 - suc n = omega arith in
    let back : 2 ^ 32 - suc (2 ^ 32 - suc n) ≡ n = omega arith in
    ap signed same ∙ signed_high (2 ^ 32 - suc n) (omega arith) (omega arith) ∙ ap negsuc back

pub product≈ : (x y : List ℕ) (i : ℕ)
    → mul (get_or x i 0) (get_or y i 0) ≈ residue (2 ^ 32) (element x i *ℤ element y i)
unfolding element
product≈ x y i =
    m_trans (mul≈ (get_or x i 0) (get_or y i 0))
    (m_trans (m_mul (m_sym (signed≈ (get_or x i 0))) (m_sym (signed≈ (get_or y i 0))))
    (m_sym (residue_mul (2 ^ 32) refl (signed (get_or x i 0)) (signed (get_or y i 0)))))

cond≈ : (b : Bool) (w z : ℕ) (i j : ℤ) → w ≈ residue (2 ^ 32) i → z ≈ residue (2 ^ 32) j
    → cond b w z ≈ residue (2 ^ 32) (cond b i j)
cond≈ true w z i j h k = h
cond≈ false w z i j h k = k

cond_lt : (b : Bool) (w z : ℕ) → w < 2 ^ 32 → z < 2 ^ 32 → cond b w z < 2 ^ 32
cond_lt true w z h k = h
cond_lt false w z h k = k

pub own≈ : (terms : Terms) (v : List ℕ) → own_word terms v ≈ residue (2 ^ 32) (own terms v)
unfolding own_word own
own≈ terms v =
    cond≈ (row terms.code).squares _ _ _ _
    (sum≈ _ (λ i. element v i *ℤ element v i) terms.n (product≈ v v)) (m_eq (residue_pos (2 ^ 32) 0))

pub own_word_lt : (terms : Terms) (v : List ℕ) → own_word terms v < 2 ^ 32
unfolding own_word
own_word_lt terms v = cond_lt (row terms.code).squares _ _ (sum_lt _ terms.n) (omega arith)

-- call 2: "Mask its own vector", as it is
pub carried_whole : (terms : Terms) (party : ℕ) (v : List ℕ) → carried terms party v ≡ v
unfolding carried
carried_whole terms party v = refl

-- what the two parties carry has the product that the measure asks for
pub cross≈ : (terms : Terms) (x y : List ℕ)
    → sum (λ i. mul (get_or (carried terms 0 x) i 0) (get_or (carried terms 1 y) i 0)) terms.n
    ≈ residue (2 ^ 32) (cross terms x y)
unfolding cross carried
cross≈ terms x y = sum≈ _ (λ i. element x i *ℤ element y i) terms.n (product≈ x y)

-- ---- a measure as one sum

-- what one place adds to own, and to the measure
unfoldable pub part : Bool → ℤ → ℤ
part s x = cond s (x *ℤ x) (pos 0)

unfoldable pub term : Row → ℤ → ℤ → ℤ
term r x y = part r.squares x +ℤ part r.squares y +ℤ r.k *ℤ (x *ℤ y)

parts : (s : Bool) (f : ℕ → ℤ) (n : ℕ) → cond s (sumℤ (λ i. f i *ℤ f i) n) (pos 0) ≡ sumℤ (λ i. part s (f i)) n
unfolding part sumℤ
parts true f n = refl
parts false f zero = refl
parts false f (suc n) = ap (λ (z : ℤ). z +ℤ pos 0) (parts false f n)

three : (f g h : ℕ → ℤ) (k : ℤ) (n : ℕ) → sumℤ f n +ℤ sumℤ g n +ℤ k *ℤ sumℤ h n ≡ sumℤ (λ i. f i +ℤ g i +ℤ k *ℤ h i) n
unfolding sumℤ
three f g h k zero = none k
  where
    none : (k : ℤ) → pos 0 +ℤ pos 0 +ℤ k *ℤ pos 0 ≡ pos 0
    none k = ringℤ (k ∷ []) (search reifyℤ depth 20 fits 5000) refl
three f g h k (suc n) =
    more k (sumℤ f n) (sumℤ g n) (sumℤ h n) (f n) (g n) (h n)
    ∙ ap (λ (z : ℤ). z +ℤ (f n +ℤ g n +ℤ k *ℤ h n)) (three f g h k n)
  where
    more : (k a b c p q r : ℤ) → a +ℤ p +ℤ (b +ℤ q) +ℤ k *ℤ (c +ℤ r) ≡ a +ℤ b +ℤ k *ℤ c +ℤ (p +ℤ q +ℤ k *ℤ r)
    more k a b c p q r = ringℤ (k ∷ a ∷ b ∷ c ∷ p ∷ q ∷ r ∷ []) (search reifyℤ depth 20 fits 5000) refl

pub one_sum : (terms : Terms) (x y : List ℕ)
    → measure terms x y ≡ sumℤ (λ i. term (row terms.code) (element x i) (element y i)) terms.n
unfolding measure own cross term
one_sum terms x y =
    let r = row terms.code in
    let n = terms.n in
    ap₂ (λ (a b : ℤ). a +ℤ b +ℤ r.k *ℤ sumℤ (λ i. element x i *ℤ element y i) n)
    (parts r.squares (element x) n)
    (parts r.squares (element y) n)
    ∙ three
    (λ i. part r.squares (element x i))
    (λ i. part r.squares (element y i))
    (λ i. element x i *ℤ element y i)
    r.k
    n

-- ---- "So measure - T always lies from -2^31 to 2^31 - 1", and so does T - measure [SPEC 3.5]

-- a distance: x * x + y * y - 2 * x * y is the square of x - y, which lies from -h to h
module _ (r : Row) (h : ℕ) (s : r.squares ≡ true) (two : r.k ≡ neg_ℤ (pos 2)) (wide : r.high -ℤ r.low ≡ pos h) where
  pub squared : (x y : ℤ) → term r x y ≡ (x -ℤ y) *ℤ (x -ℤ y)
  unfolding term part
  squared x y = ap₂ (λ (b : Bool) (k : ℤ). part b x +ℤ part b y +ℤ k *ℤ (x *ℤ y)) s two ∙ identity x y
    where
      identity : (x y : ℤ) → x *ℤ x +ℤ y *ℤ y +ℤ neg_ℤ (pos 2) *ℤ (x *ℤ y) ≡ (x -ℤ y) *ℤ (x -ℤ y)
      identity x y = ringℤ (x ∷ y ∷ []) (search reifyℤ depth 20 fits 5000) refl

-- so a distance is the sum of the squared differences
pub distance_sum : (terms : Terms) → (terms.code ≡ 0 → ⊥) → (x y : List ℕ)
    → measure terms x y ≡ sumℤ (λ i. (element x i -ℤ element y i) *ℤ (element x i -ℤ element y i)) terms.n
unfolding row squared_euclid hamming
distance_sum terms h x y =
    one_sum terms x y
    ∙ sumℤ_ext _ (λ i. (element x i -ℤ element y i) *ℤ (element x i -ℤ element y i)) terms.n
    (λ i l. go terms.code h (element x i) (element y i))
  where
    go : (code : ℕ) → (code ≡ 0 → ⊥) → (a b : ℤ) → term (row code) a b ≡ (a -ℤ b) *ℤ (a -ℤ b)
    go zero h a b = absurd (h refl)
    go (suc zero) h a b = squared squared_euclid 2047 refl refl refl a b
    go (suc (suc code)) h a b = squared hamming 1 refl refl refl a b

-- an element past the end reads as 0, which every row takes
zero_in : (code : ℕ) → within (row code).low (row code).high (signed 0) ≡ true
unfolding within row scalar_product squared_euclid hamming signed
zero_in zero = refl
zero_in (suc zero) = refl
zero_in (suc (suc code)) = refl

pub in_range_at : (terms : Terms) (v : List ℕ) → all_in_range terms v ≡ true → (i : ℕ)
    → in_range terms (get_or v i 0) ≡ true
unfolding all_in_range in_range
in_range_at terms [] h i = zero_in terms.code
in_range_at terms (w ∷ v) h zero = (both (in_range terms w) (all_in_range terms v) h).0
in_range_at terms (w ∷ v) h (suc i) = in_range_at terms v (both (in_range terms w) (all_in_range terms v) h).1 i

-- and where each one is, all are
pub all_in_range_lem : (terms : Terms) (v : List ℕ) → ((i : ℕ) → i < length v → in_range terms (get_or v i 0) ≡ true)
    → all_in_range terms v ≡ true
unfolding all_in_range
all_in_range_lem terms [] h = refl
all_in_range_lem terms (w ∷ v) h =
    ap₂ ◌&&◌ (h 0 (omega arith)) (all_in_range_lem terms v (λ i l. h (suc i) (omega arith)))

-- a sign is 1 or -1 ..
pub sign_square : (terms : Terms) (mark : ℕ) → sign terms mark *ℤ sign terms mark ≡ pos 1
unfolding sign row scalar_product squared_euclid hamming
sign_square terms mark = either (eqb mark ordinary_mark)
  where
    of_row : (code : ℕ) → (row code).sign *ℤ (row code).sign ≡ pos 1
    of_row zero = refl
    of_row (suc zero) = refl
    of_row (suc (suc code)) = refl

    either : (b : Bool)
        → (let s : ℤ = cond b (row terms.code).sign (pos 1) in s *ℤ s) ≡ pos 1
    either true = of_row terms.code
    either false = refl

-- ---- the rule of an ordinary set, in the words of the papers: "scalar product keeps measure ≥ T", and "For squared
-- Euclid and Hamming the lock's 1 means measure ≤ T" [SPEC 3.6]

-- the scalar product's sign is plain by any mark ..
pub scalar_sign : (terms : Terms) (mark : ℕ) → terms.code ≡ 0 → sign terms mark ≡ pos 1
unfolding sign row scalar_product
scalar_sign terms mark e =
    ap (λ (c : ℕ). cond (eqb mark ordinary_mark) (row c).sign (pos 1)) e ∙ either (eqb mark ordinary_mark)
  where
    either : (b : Bool) → cond b (pos 1) (pos 1) ≡ pos 1
    either true = refl
    either false = refl

-- .. and every code's by a mark that is not 0 (02, §4, "the plain sign for every code") [SPEC 3.14]
pub marked_sign : (terms : Terms) (mark : ℕ) → (mark ≡ ordinary_mark → ⊥) → sign terms mark ≡ pos 1
unfolding sign
marked_sign terms mark h = rw (ne_eqb mark ordinary_mark h) refl

-- every other code is a distance
pub distance_sign : (terms : Terms) → (terms.code ≡ 0 → ⊥) → sign terms ordinary_mark ≡ neg_ℤ (pos 1)
unfolding sign row squared_euclid hamming
distance_sign terms h = go terms.code h
  where
    go : (code : ℕ) → (code ≡ 0 → ⊥) → (row code).sign ≡ neg_ℤ (pos 1)
    go zero h = absurd (h refl)
    go (suc zero) h = refl
    go (suc (suc code)) h = refl

-- where the sign is plain, all is as 01 has it ..
module _ (terms : Terms) (mark : ℕ) (plain : sign terms mark ≡ pos 1) where
  pub sign_word_plain : sign_word terms mark ≡ 1
  unfolding sign_word word
  sign_word_plain = ap word plain

  pub difference_plain : (m t : ℤ) → difference terms mark m t ≡ m -ℤ t
  unfolding difference
  difference_plain m t = ap (λ (s : ℤ). s *ℤ (m -ℤ t)) plain ∙ once (m -ℤ t)
    where
      once : (d : ℤ) → pos 1 *ℤ d ≡ d
      once d = ringℤ (d ∷ []) (search reifyℤ depth 20 fits 5000) refl

pub reached_plain : (terms : Terms) → sign terms ordinary_mark ≡ pos 1 → (m t : ℤ) → reached terms m t ≡ le_z t m
unfolding reached
reached_plain terms plain m t = ap (le_z (pos 0)) (difference_plain terms ordinary_mark plain m t) ∙ above_zero m t

-- .. and where it is -1, as 02, §2, has it
module _ (terms : Terms) (mark : ℕ) (close : sign terms mark ≡ neg_ℤ (pos 1)) where
  pub sign_word_close : sign_word terms mark ≡ neg 1
  unfolding sign_word word
  sign_word_close = ap word close

  pub difference_close : (m t : ℤ) → difference terms mark m t ≡ t -ℤ m
  unfolding difference
  difference_close m t = ap (λ (s : ℤ). s *ℤ (m -ℤ t)) close ∙ turned m t
    where
      turned : (m t : ℤ) → neg_ℤ (pos 1) *ℤ (m -ℤ t) ≡ t -ℤ m
      turned m t = ringℤ (m ∷ t ∷ []) (search reifyℤ depth 20 fits 5000) refl

pub reached_close : (terms : Terms) → sign terms ordinary_mark ≡ neg_ℤ (pos 1) → (m t : ℤ)
    → reached terms m t ≡ le_z m t
unfolding reached
reached_close terms close m t = ap (le_z (pos 0)) (difference_close terms ordinary_mark close m t) ∙ above_zero t m

-- ---- whether the difference lies from 0 to a width, read off its word

-- where Q is not below P, nor above it by more than a word holds, their words are as far apart as they are
pub apart : (p q : ℕ) → le_z (signed p) (signed q) ≡ true → le_z (signed q -ℤ signed p) (pos (2 ^ 32 - 1)) ≡ true
    → signed q -ℤ signed p ≡ pos (sub q p)
apart p q from to = go (signed q -ℤ signed p) word_apart (above_zero (signed q) (signed p) ∙ from) to
  where
    word_apart : sub q p ≈ residue (2 ^ 32) (signed q -ℤ signed p)
    word_apart = of (signed q) (signed p) (signed≈ q) (signed≈ p)
      where
        of : (Q P : ℤ) → residue (2 ^ 32) Q ≈ q → residue (2 ^ 32) P ≈ p → sub q p ≈ residue (2 ^ 32) (Q -ℤ P)
        of Q P eq ep = ring (q ∷ p ∷ []) (search words depth 40 fits 5000) refl

    go : (d : ℤ) → sub q p ≈ residue (2 ^ 32) d → le_z (pos 0) d ≡ true → le_z d (pos (2 ^ 32 - 1)) ≡ true
        → d ≡ pos (sub q p)
    go (pos n) e h k =
        let fits : n < 2 ^ 32 = omega (arith, leb-true n (2 ^ 32 - 1) k) in
        ap pos (sym (same_word (m_trans e (m_eq (sym (residue_pos (2 ^ 32) n)))) (sub_lt q p) fits))
    go (negsuc n) e h k = neither h

-- as are two marks in order
pub marks_apart : (p q : ℕ) → in_order (Between p q) ≡ true → signed q -ℤ signed p ≡ pos (sub q p)
unfolding in_order
marks_apart p q h =
    let ordered = both (le_z (signed p) (signed q)) _ h in
    let wide = le_trans (of_test _ _ ordered.1) (of_test _ (pos (2 ^ 32 - 1)) refl) in
    apart p q ordered.0 (to_test {a = signed q -ℤ signed p} wide)

-- a rule's width is at most an ordinary set's [SPEC 3.15]
pub width_most : (rule : Rule) → in_order rule ≡ true → width_of rule ≤ ordinary_width
unfolding in_order width_of
width_most (Threshold t) h = omega arith
width_most (Between p q) h =
    leb-true _ _ (subst (λ (z : ℤ). le_z z (pos ordinary_width) ≡ true) (marks_apart p q h)
    (both (le_z (signed p) (signed q)) _ h).1)

-- a measure equal to the threshold reaches it, by either sign
pub reached_equal : (terms : Terms) (m : ℤ) → reached terms m m ≡ true
unfolding reached difference
reached_equal terms m = ap (le_z (pos 0)) (none (sign terms ordinary_mark) m)
  where
    none : (s m : ℤ) → s *ℤ (m -ℤ m) ≡ pos 0
    none s m = ringℤ (s ∷ m ∷ []) (search reifyℤ depth 20 fits 5000) refl

-- ---- what the rule comes to at the ends of its ranges [SPEC 3.11, 3.12]

-- a vector's distance from itself is 0 ..
pub no_distance : (terms : Terms) → (terms.code ≡ 0 → ⊥) → (x : List ℕ) → measure terms x x ≡ pos 0
unfolding measure own cross row squared_euclid hamming
no_distance terms h x = go terms.code h (sumℤ (λ i. element x i *ℤ element x i) terms.n)
  where
    twice : (s : ℤ) → s +ℤ s +ℤ neg_ℤ (pos 2) *ℤ s ≡ pos 0
    twice s = ringℤ (s ∷ []) (search reifyℤ depth 20 fits 5000) refl

    go : (code : ℕ) → (code ≡ 0 → ⊥) → (s : ℤ)
        → (let o : ℤ = cond (row code).squares s (pos 0) in o +ℤ o +ℤ (row code).k *ℤ s) ≡ pos 0
    go zero h s = absurd (h refl)
    go (suc zero) h s = twice s
    go (suc (suc code)) h s = twice s
