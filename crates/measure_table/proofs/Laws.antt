-- What rests on the laws of `specs/Laws.antt`: the words of a set's terms and of the measure are the residues of the
-- whole numbers; the difference of measure and threshold fits a signed word (01, "Measures"), with either sign, and
-- whether that word is at most the rule's width says whether the rule is met. Assumes nothing.
-- [SPEC 2.3, 2.4, 3.5 to 3.7, 3.9, 3.11 to 3.15]
use Rattle.std.specs.Prelude.{◌≡◌, Bool, true, false, List, [], ◌∷◌, ℕ, zero, suc, ◌+◌, ◌*◌, ◌-◌, ◌%◌, ◌^◌, ◌<◌}
use Rattle.std.specs.Prelude.{◌≤◌, ltb, leb, ℤ, negsuc, nat_abs, ◌+ℤ◌, ◌-ℤ◌, ◌*ℤ◌, get_or}
use Rattle.std.proofs.Math.Path.{refl, ap, ap₂}
use Rattle.std.proofs.Common.{sym, ◌∙◌, subst, arith}
use Rattle.std.proofs.Math.Bool.{◌&&◌, and-true}
use borrow.Author.Tests.{leb-true, leb-false, lt-ltb, le-ltb}
use Rattle.std.proofs.Math.Dec.{leb-zero}
use Rattle.std.proofs.Math.IntN.{pos, neg_ℤ}
use Rattle.std.specs.Int.Signed.{le_z}
use Rattle.base_algebra.specs.Mod.{m_sym, m_trans}
use Rattle.base_algebra.specs.Integer.{residue, ringℤ, reifyℤ}
use Rattle.base_algebra.specs.Ring.{ring}
use Rattle.base_algebra.specs.Word.{words, add, sub, neg, mul, signed, ◌≈◌, signed≈}
use Rattle.base_algebra.specs.Word.{same_word}
use Rattle.base_algebra.specs.Sum.{sum}
use Rattle.base_algebra.specs.Bit.{only, less, both}
use Rattle.measure_table.specs.declared.Terms.{Terms}
use Rattle.measure_table.specs.declared.Rule.{Rule}
use Rattle.measure_table.specs.declared.Rule.TheVariants.{Threshold, Between}
use Rattle.measure_table.specs.Measure.{ordinary_mark, between_mark, ordinary_width, Row}
use Rattle.measure_table.specs.Measure.{scalar_product, squared_euclid, hamming, row}
use Rattle.measure_table.specs.Measure.{length_fits, element, own, cross, measure, sign, difference, reached}
use Rattle.measure_table.specs.Measure.{within, in_range, all_in_range, threshold_fits, meets, rule_fits, in_order}
use Rattle.measure_table.specs.Measure.{offset_of, width_of, mark_of}
use Rattle.measure_table.specs.Measure.{word, k_word, sign_word, own_word, carried}
use Rattle.measure_table.specs.Order.{above_zero, Le, of_test, to_test, le_trans, le_sub, le_neg}
use Rattle.measure_table.specs.Order.{square_pos, product_most, product_least, sum_least, sum_most}
use Rattle.measure_table.specs.Laws.{length_longest, word≈, word_lt, own≈, own_word_lt, cross≈, part, term, one_sum}
use Rattle.measure_table.specs.Laws.{squared, in_range_at, sign_square, marked_sign, distance_sign, difference_plain}
use Rattle.measure_table.specs.Laws.{reached_close, marks_apart, width_most, no_distance}

-- and a word's signed value has that word
pub word_signed : (w : ℕ) → w < 2 ^ 32 → word (signed w) ≡ w
word_signed w l = same_word (m_trans (word≈ (signed w)) (signed≈ w)) (word_lt (signed w)) l

pub k_word≈ : (terms : Terms) → k_word terms ≈ residue (2 ^ 32) (row terms.code).k
unfolding k_word
k_word≈ terms = word≈ (row terms.code).k

pub k_word_lt : (terms : Terms) → k_word terms < 2 ^ 32
unfolding k_word
k_word_lt terms = word_lt (row terms.code).k

pub sign_word≈ : (terms : Terms) (mark : ℕ) → sign_word terms mark ≈ residue (2 ^ 32) (sign terms mark)
unfolding sign_word
sign_word≈ terms mark = word≈ (sign terms mark)

pub sign_word_lt : (terms : Terms) (mark : ℕ) → sign_word terms mark < 2 ^ 32
unfolding sign_word
sign_word_lt terms mark = word_lt (sign terms mark)

-- what a box works out is the own term as a word, whatever the words of its vector [SPEC 3.7, 3.9]
pub own_word_lem : (terms : Terms) (v : List ℕ) → own_word terms v ≡ word (own terms v)
own_word_lem terms v =
    same_word (m_trans (own≈ terms v) (m_sym (word≈ (own terms v)))) (own_word_lt terms v) (word_lt (own terms v))

-- the measure, computed in words
pub measure≈ : (terms : Terms) (x y : List ℕ)
    → add (add (own_word terms x) (own_word terms y))
    (mul (k_word terms) (sum (λ i. mul (get_or (carried terms 0 x) i 0) (get_or (carried terms 1 y) i 0)) terms.n))
    ≈ residue (2 ^ 32) (measure terms x y)
unfolding measure
measure≈ terms x y =
    go (own terms x) (own terms y) (row terms.code).k (cross terms x y)
    (own≈ terms x) (own≈ terms y) (k_word≈ terms) (cross≈ terms x y)
  where
    go : {a b k s : ℕ} (A B K S : ℤ) → a ≈ residue (2 ^ 32) A → b ≈ residue (2 ^ 32) B → k ≈ residue (2 ^ 32) K
        → s ≈ residue (2 ^ 32) S → add (add a b) (mul k s) ≈ residue (2 ^ 32) (A +ℤ B +ℤ K *ℤ S)
    go A B K S p q r t =
        ring (residue (2 ^ 32) A ∷ residue (2 ^ 32) B ∷ residue (2 ^ 32) K ∷ residue (2 ^ 32) S ∷ [])
        (search words depth 40 fits 5000)
        refl

-- an element of a row's range
record In (r : Row) (z : ℤ) : Type 0 where
  from : Le r.low z
  to : Le z r.high

-- a row's term lies from -down to up, and the most of them less a threshold from -(2^31 - 1) to 2^31 - 1
record Bounded (r : Row) : Type 0 where
  down : ℕ
  up : ℕ
  term_down : (x y : ℤ) → In r x → In r y → Le (neg_ℤ (pos down)) (term r x y)
  term_up : (x y : ℤ) → In r x → In r y → Le (term r x y) (pos up)
  lowest : le_z (neg_ℤ (pos (2 ^ 31 - 1))) (neg_ℤ (pos (r.longest * down)) -ℤ r.most) ≡ true
  highest : le_z (pos (r.longest * up) -ℤ r.least) (pos (2 ^ 31 - 1)) ≡ true

module _ (r : Row) (h : ℕ) (s : r.squares ≡ true) (two : r.k ≡ neg_ℤ (pos 2)) (wide : r.high -ℤ r.low ≡ pos h) where
  apart_up : (x y : ℤ) → In r x → In r y → Le (x -ℤ y) (pos h)
  apart_up x y i j = subst (λ (z : ℤ). Le (x -ℤ y) z) wide (le_sub i.to j.from)

  apart_down : (x y : ℤ) → In r x → In r y → Le (neg_ℤ (pos h)) (x -ℤ y)
  apart_down x y i j =
      subst (λ (z : ℤ). Le z (x -ℤ y)) (turned r.low r.high ∙ ap neg_ℤ wide) (le_sub i.from j.to)
    where
      turned : (a b : ℤ) → a -ℤ b ≡ neg_ℤ (b -ℤ a)
      turned a b = ringℤ (a ∷ b ∷ []) (search reifyℤ depth 20 fits 5000) refl

  distance_down : (x y : ℤ) → In r x → In r y → Le (neg_ℤ (pos 0)) (term r x y)
  distance_down x y i j = subst (λ (z : ℤ). Le (pos 0) z) (sym (squared r h s two wide x y)) (square_pos (x -ℤ y))

  distance_up : (x y : ℤ) → In r x → In r y → Le (term r x y) (pos (h * h))
  distance_up x y i j =
      subst (λ (z : ℤ). Le z (pos (h * h))) (sym (squared r h s two wide x y))
      (product_most (pos h) (x -ℤ y) (x -ℤ y) (apart_down x y i j)
      (apart_up x y i j) (apart_down x y i j) (apart_up x y i j))

bounded : (code : ℕ) → Bounded (row code)
unfolding row scalar_product squared_euclid hamming term part
bounded zero = record {
  down = 1024 * 1024;
  up = 1024 * 1024;
  term_down = λ x y i j. subst (λ (z : ℤ). Le (neg_ℤ (pos (1024 * 1024))) z) (once (x *ℤ y))
      (product_least (pos 1024) x y i.from (above i) j.from (above j));
  term_up = λ x y i j. subst (λ (z : ℤ). Le z (pos (1024 * 1024))) (once (x *ℤ y))
      (product_most (pos 1024) x y i.from (above i) j.from (above j));
  lowest = refl;
  highest = refl;
}
  where
    once : (z : ℤ) → z ≡ pos 0 +ℤ pos 0 +ℤ pos 1 *ℤ z
    once z = ringℤ (z ∷ []) (search reifyℤ depth 20 fits 5000) refl

    above : {z : ℤ} → In scalar_product z → Le z (pos 1024)
    above i = le_trans i.to (of_test (pos 1023) (pos 1024) refl)
bounded (suc zero) = record {
  down = 0;
  up = 2047 * 2047;
  term_down = distance_down squared_euclid 2047 refl refl refl;
  term_up = distance_up squared_euclid 2047 refl refl refl;
  lowest = refl;
  highest = refl;
}
bounded (suc (suc code)) = record {
  down = 0;
  up = 1;
  term_down = distance_down hamming 1 refl refl refl;
  term_up = distance_up hamming 1 refl refl refl;
  lowest = refl;
  highest = refl;
}

in_row : (terms : Terms) (v : List ℕ) → all_in_range terms v ≡ true → (i : ℕ) → In (row terms.code) (element v i)
unfolding in_range within element
in_row terms v h i =
    let r = row terms.code in
    let t = both (le_z r.low (signed (get_or v i 0))) _ (in_range_at terms v h i) in
    record {
      from = of_test r.low (signed (get_or v i 0)) t.0;
      to = of_test (signed (get_or v i 0)) r.high t.1;
    }

-- from -h to h
record Near (h : ℕ) (d : ℤ) : Type 0 where
  from : Le (neg_ℤ (pos h)) d
  to : Le d (pos h)

-- what a measure lies between, and measure - T with it
module _ (terms : Terms) (x y : List ℕ) (hn : length_fits terms ≡ true)
    (hx : all_in_range terms x ≡ true) (hy : all_in_range terms y ≡ true) where
  abbrev r : Row
  r = row terms.code

  ends : (let b = bounded terms.code in
      Le (neg_ℤ (pos (r.longest * b.down))) (measure terms x y) × Le (measure terms x y) (pos (r.longest * b.up)))
  ends =
      let n = terms.n in
      let l = (length_longest terms hn).1 in
      let b = bounded terms.code in
      let f : ℕ → ℤ = λ i. term r (element x i) (element y i) in
      let down : (i : ℕ) → Le (neg_ℤ (pos b.down)) (f i) =
      λ i. b.term_down _ _ (in_row terms x hx i) (in_row terms y hy i) in
      let up : (i : ℕ) → Le (f i) (pos b.up) = λ i. b.term_up _ _ (in_row terms x hx i) (in_row terms y hy i) in
      rw (one_sum terms x y) (
        sum_least f b.down b.up down up n r.longest l,
        sum_most f b.down b.up down up n r.longest l,
      )

  near : (t : ℕ) → threshold_fits terms t ≡ true → Near (2 ^ 31 - 1) (measure terms x y -ℤ signed t)
  unfolding threshold_fits within
  near t ht =
      let b = bounded terms.code in
      let fits = both (le_z r.least (signed t)) _ ht in
      let least = of_test r.least (signed t) fits.0 in
      let most = of_test (signed t) r.most fits.1 in
      record {
        from = le_trans (of_test _ _ b.lowest) (le_sub ends.0 most);
        to = le_trans (le_sub ends.1 least) (of_test _ _ b.highest);
      }

-- .. so what lies from -h to h still does when it is multiplied by one
by_sign_lem : (s d : ℤ) (h : ℕ) → s *ℤ s ≡ pos 1 → Near h d → Near h (s *ℤ d)
by_sign_lem (pos zero) d h e k = absurd (omega (arith, ap nat_abs e))
by_sign_lem (pos (suc zero)) d h e k = rw (once d) k
  where
    once : (d : ℤ) → pos 1 *ℤ d ≡ d
    once d = ringℤ (d ∷ []) (search reifyℤ depth 20 fits 5000) refl
by_sign_lem (pos (suc (suc a))) d h e k = absurd (omega (arith, ap nat_abs e))
by_sign_lem (negsuc zero) d h e k =
    rw (turned d)
    (record { from = le_neg k.to; to = subst (λ (z : ℤ). Le (neg_ℤ d) z) (back (pos h)) (le_neg k.from) })
  where
    turned : (d : ℤ) → negsuc 0 *ℤ d ≡ neg_ℤ d
    turned d = ringℤ (d ∷ []) (search reifyℤ depth 20 fits 5000) refl

    back : (z : ℤ) → neg_ℤ (neg_ℤ z) ≡ z
    back z = ringℤ (z ∷ []) (search reifyℤ depth 20 fits 5000) refl
by_sign_lem (negsuc (suc a)) d h e k = absurd (omega (arith, ap nat_abs e))

-- measure - T ..
pub bound_plain : (terms : Terms) (t : ℕ) (x y : List ℕ) → length_fits terms ≡ true → all_in_range terms x ≡ true
    → all_in_range terms y ≡ true → threshold_fits terms t ≡ true
    → (let d : ℤ = measure terms x y -ℤ signed t in
    (le_z (neg_ℤ (pos (2 ^ 31 - 1))) d ≡ true) × (le_z d (pos (2 ^ 31 - 1)) ≡ true))
bound_plain terms t x y hn hx hy ht =
    let k = near terms x y hn hx hy t ht in
    (to_test k.from, to_test k.to)

-- .. and the difference, with either sign
pub bound : (terms : Terms) (mark t : ℕ) (x y : List ℕ) → length_fits terms ≡ true → all_in_range terms x ≡ true
    → all_in_range terms y ≡ true → threshold_fits terms t ≡ true
    → (let d : ℤ = difference terms mark (measure terms x y) (signed t) in
    (le_z (neg_ℤ (pos (2 ^ 31 - 1))) d ≡ true) × (le_z d (pos (2 ^ 31 - 1)) ≡ true))
unfolding difference
bound terms mark t x y hn hx hy ht =
    let k = by_sign_lem (sign terms mark) _ (2 ^ 31 - 1) (sign_square terms mark) (near terms x y hn hx hy t ht) in
    (to_test k.from, to_test k.to)

-- a word of at most the width w stands for a number from 0 to w, and any other for one that is not
word_within : (v w : ℕ) (d : ℤ) → v < 2 ^ 32 → le_z (neg_ℤ (pos (2 ^ 31))) d ≡ true → le_z d (pos (2 ^ 31 - 1)) ≡ true
    → v ≈ residue (2 ^ 32) d → w ≤ ordinary_width → less v (w + 1) ≡ only (within (pos 0) (pos w) d) 1
unfolding less within word neg
word_within v w (pos n) lv from to h hw =
    let small : n < 2 ^ 31 = omega (arith, leb-true n (2 ^ 31 - 1) to) in
    let same : v ≡ n % 2 ^ 32 = same_word (m_trans h (m_sym (word≈ (pos n)))) lv (word_lt (pos n)) in
    let is : v ≡ n = omega (arith, same, small) in
    ap (λ (b : Bool). only b 1)
    (ap (λ (k : ℕ). ltb k (w + 1)) is ∙ at_most n w ∙ ap (λ (b : Bool). b && leb n w) (sym (leb-zero n)))
  where
    at_most : (n w : ℕ) → ltb n (w + 1) ≡ leb n w
    at_most n w = go (leb n w) refl
      where
        go : (b : Bool) → leb n w ≡ b → ltb n (w + 1) ≡ b
        go true e = lt-ltb n (w + 1) (omega (arith, leb-true n w e))
        go false e = le-ltb n (w + 1) (omega (arith, leb-false n w e))
word_within v w (negsuc n) lv from to h hw =
    let small : n < 2 ^ 31 = omega (arith, leb-true n (2 ^ 31 - 1) from) in
    let same : v ≡ neg (suc n) = same_word (m_trans h (m_sym (word≈ (negsuc n)))) lv (word_lt (negsuc n)) in
    let high : w + 1 ≤ v = omega (arith, same, small, hw) in
    ap (λ (b : Bool). only b 1) (le-ltb v (w + 1) high)

-- m - P lies from 0 to Q - P just if m lies from P to Q
shifted : (p q m : ℤ) → within (pos 0) (q -ℤ p) (m -ℤ p) ≡ within p q m
unfolding within
shifted p q m =
    ap₂ ◌&&◌ (above_zero m p)
    (sym (above_zero (q -ℤ p) (m -ℤ p)) ∙ ap (le_z (pos 0)) (less_both p q m) ∙ above_zero q m)
  where
    less_both : (p q m : ℤ) → q -ℤ p -ℤ (m -ℤ p) ≡ q -ℤ m
    less_both p q m = ringℤ (p ∷ q ∷ m ∷ []) (search reifyℤ depth 20 fits 5000) refl

lower : (d : ℤ) → le_z (neg_ℤ (pos (2 ^ 31 - 1))) d ≡ true → le_z (neg_ℤ (pos (2 ^ 31))) d ≡ true
lower d h = to_test {b = d} (le_trans (of_test (neg_ℤ (pos (2 ^ 31))) (neg_ℤ (pos (2 ^ 31 - 1))) refl) (of_test _ _ h))

-- a difference's word is at most the rule's width exactly if the rule is met
pub meets_width : (terms : Terms) (rule : Rule) (v : ℕ) (x y : List ℕ) → length_fits terms ≡ true
    → all_in_range terms x ≡ true → all_in_range terms y ≡ true → rule_fits terms rule ≡ true → in_order rule ≡ true
    → v < 2 ^ 32
    → v ≈ residue (2 ^ 32) (difference terms (mark_of rule) (measure terms x y) (signed (offset_of rule)))
    → less v (width_of rule + 1) ≡ only (meets terms rule (measure terms x y)) 1
unfolding rule_fits mark_of offset_of width_of meets reached within
meets_width terms (Threshold t) v x y hn hx hy hr ho lv h =
    let (from, to) = bound terms ordinary_mark t x y hn hx hy hr in
    let d : ℤ = difference terms ordinary_mark (measure terms x y) (signed t) in
    word_within v ordinary_width d lv (lower d from) to h (omega arith)
    ∙ ap (λ (b : Bool). only b 1) (ap (λ (b : Bool). le_z (pos 0) d && b) to ∙ and-true (le_z (pos 0) d))
meets_width terms (Between p q) v x y hn hx hy hr ho lv h =
    let m : ℤ = measure terms x y in
    let (from, to) = bound terms between_mark p x y hn hx hy (both _ _ hr).0 in
    let d : ℤ = difference terms between_mark m (signed p) in
    let between_plain = marked_sign terms between_mark (λ e. absurd (omega (arith, e))) in
    word_within v (sub q p) d lv (lower d from) to h (width_most (Between p q) ho)
    ∙ ap (λ (b : Bool). only b 1)
    (ap₂ (within (pos 0)) (sym (marks_apart p q ho)) (difference_plain terms between_mark between_plain m (signed p))
    ∙ shifted (signed p) (signed q) m)

-- .. which reaches every threshold that a deal takes, 0 included
pub equal_reached : (terms : Terms) → (terms.code ≡ 0 → ⊥) → (t : ℕ) → threshold_fits terms t ≡ true → (x : List ℕ)
    → reached terms (measure terms x x) (signed t) ≡ true
unfolding threshold_fits within row squared_euclid hamming
equal_reached terms h t fits x =
    reached_close terms (distance_sign terms h) (measure terms x x) (signed t)
    ∙ ap (λ (m : ℤ). le_z m (signed t)) (no_distance terms h x) ∙ go terms.code h fits
  where
    go : (code : ℕ) → (code ≡ 0 → ⊥)
        → le_z (row code).least (signed t) && le_z (signed t) (row code).most ≡ true → le_z (pos 0) (signed t) ≡ true
    go zero h f = absurd (h refl)
    go (suc zero) h f = (both _ _ f).0
    go (suc (suc code)) h f = (both _ _ f).0

module _ (n : ℕ) (x y : List ℕ) where
  abbrev euclid : Terms
  euclid = record { code = 1; n = n }

  -- a squared distance is at most 512 × 2,047 × 2,047, so that T - measure lies from -2,145,387,008 to 2^31 - 1
  pub euclid_range : (t : ℕ) → length_fits euclid ≡ true → all_in_range euclid x ≡ true → all_in_range euclid y ≡ true
      → threshold_fits euclid t ≡ true
      → within (neg_ℤ (pos 2145387008)) (pos (2 ^ 31 - 1)) (signed t -ℤ measure euclid x y) ≡ true
  unfolding row squared_euclid bounded within threshold_fits
  euclid_range t hn hx hy ht =
      let m = ends euclid x y hn hx hy in
      let fits = both _ _ ht in
      ap₂ ◌&&◌ (to_test (le_sub (of_test (pos 0) (signed t) fits.0) m.1))
      (to_test (le_sub (of_test (signed t) (pos (2 ^ 31 - 1)) fits.1) m.0))

  abbrev bits : Terms
  bits = record { code = 2; n = n }

  -- two vectors differ in 512 places at most ..
  pub hamming_most : length_fits bits ≡ true → all_in_range bits x ≡ true → all_in_range bits y ≡ true
      → le_z (measure bits x y) (pos 512) ≡ true
  unfolding row hamming bounded
  hamming_most hn hx hy = to_test (ends bits x y hn hx hy).1

  -- .. so that the threshold 513 is always reached
  pub hamming_always : length_fits bits ≡ true → all_in_range bits x ≡ true → all_in_range bits y ≡ true
      → reached bits (measure bits x y) (pos 513) ≡ true
  hamming_always hn hx hy =
      reached_close bits (distance_sign bits (λ e. absurd (omega (arith, e)))) (measure bits x y) (pos 513)
      ∙ to_test
      (le_trans (of_test (measure bits x y) (pos 512) (hamming_most hn hx hy)) (of_test (pos 512) (pos 513) refl))
