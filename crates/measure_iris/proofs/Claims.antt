-- What 02, §10, promises of iris codes, as far as it rests on what `specs/Claims.antt` says: what a bit is and where it
-- goes, that each change of form undoes its partner, that how far two packed codes are apart is code 2's measure of the
-- unpacked vectors, in either order, when that meets a rule, who is refused, and what a call leaves. Assumes nothing.
-- [SPEC 22.4, 35.2 to 35.11]
use Rattle.std.specs.Prelude.{◌≡◌, Bool, ◌&&◌, leb, ◌-ℤ◌, ◌*ℤ◌}
use Rattle.std.proofs.Math.Path.{refl, sym, ap, ap₂}
use Rattle.std.proofs.Common.{◌∙◌, add-one, shr-shr, shr_lt}
use Rattle.std.proofs.Math.Bool.{true, false}
use mathlib.Core.List.{List}
use Prim.Native.Nat.{ℕ, zero, suc, ◌+◌, ◌*◌, ◌/◌, ◌%◌, ◌^◌, ◌<◌, ◌≤◌}
use native.Mathlib.Omega.{arith}
use borrow.Author.Tests.{eq-eqb, le-leb}
use Rattle.std.specs.Int.Bits.{bit_xor, differ}
use Rattle.std.proofs.lemmas.Nat.{xor_lt, mod-pow-add}
use Rattle.std.specs.Int.Count.{ones, ones_step}
use Rattle.std.proofs.Math.IntN.{ℤ, pos}
use Rattle.std.proofs.Math.ListN.{length, get_or}
use Rattle.std.specs.Int.Signed.{le_z}
use Rattle.base_algebra.specs.Sum.{sumℕ, sumℕ_ext, sumℤ_ext, sumℤ_pos, sumℕ_front, sumℕ_grouped, sumℕ_swapped}
use Rattle.base_algebra.specs.Word.{signed}
use Rattle.base_words.specs.List.{tab, tab_ext, tab_get_or}
use Rattle.base_words.specs.Xor.{Bit, off, on, is_bit, xor_bit}
use Rattle.base_messages.specs.Messages.{out_of_range, unless}
use Rattle.base_messages.specs.Laws.{unless_true}
use Rattle.measure_table.specs.declared.Rule.TheVariants.{Threshold, Between}
use Rattle.measure_table.specs.Measure.{element, measure, within, all_in_range, meets}
use Rattle.measure_table.specs.Laws.{signed_low, reached_close, distance_sign, distance_sum, in_range_at}
use Rattle.measure_iris.specs.Iris.{code_bits, code_bytes, angles, rings, Code, Vector, bit, from_bits, code_of_bits}
use Rattle.measure_iris.specs.Iris.{sent_at, stored_at, sent_where_stored, stored_where_sent, to_rings, to_angles}
use Rattle.measure_iris.specs.Iris.{unpacked, packed, distance, iris_terms, why_not_vector}
use Rattle.measure_iris.specs.Iris.{buffer_after}
use Rattle.measure_iris.specs.Laws.{in_range_bit, bits_in_range, stays}
use Rattle.measure_iris.specs.CodeBits.{bit_lt, bit_at, bit_code, code_ext}
use Rattle.measure_iris.proofs.CodeBits.{code_bits_lem}
use Rattle.measure_iris.specs.Claims.{rings_code, angles_code, element_is_bit, unpacked_vector, packed_code, one_byte}
use Rattle.measure_iris.specs.Claims.{one_bit, differs, code_accepted, start_is_new, left, left_packed}

-- ---- what a bit is: "lowest first"

-- the lowest n bits of a number, at what they are worth
worth : (x n : ℕ) → sumℕ (λ k. x / 2 ^ k % 2 * 2 ^ k) n ≡ x % 2 ^ n
unfolding sumℕ
worth x zero = omega arith
worth x (suc n) =
    let e : 1 + n ≡ suc n = omega arith in
    omega (arith, worth x n, mod-pow-add x 1 n, ap (λ (k : ℕ). x % 2 ^ k) e)

module _ (code : List ℕ) where
  pub byte_is_bits : Code code → (j : ℕ) → get_or code j 0 ≡ sumℕ (λ k. bit code (8 * j + k) * 2 ^ k) 8
  byte_is_bits c j =
      let x = get_or code j 0 in
      let whole : x % 2 ^ 8 ≡ x = omega (arith, c.small j) in
      sym (sumℕ_ext (λ k. bit code (8 * j + k) * 2 ^ k) (λ k. x / 2 ^ k % 2 * 2 ^ k) 8
      (λ k l. ap (λ (b : ℕ). b * 2 ^ k) (bit_at code j k l)) ∙ worth x 8 ∙ whole)

  -- the scanner's byte is an angle, and the ring is the bit in it [SPEC 35.3]
  pub sent_byte : (angle ring : ℕ) → ring < rings → bit code (sent_at angle ring) ≡ get_or code angle 0 / 2 ^ ring % 2
  unfolding sent_at
  sent_byte angle ring r =
      let at : angle * 8 + ring ≡ 8 * angle + ring = omega arith in
      ap (bit code) at ∙ bit_at code angle ring r

  -- our byte has eight angles of a ring [SPEC 35.4]
  pub stored_byte : (ring angle : ℕ) → angle < angles
      → bit code (stored_at ring angle) ≡ get_or code (ring * 8 + angle / 8) 0 / 2 ^ (angle % 8) % 2
  unfolding stored_at
  stored_byte ring angle a =
      let at : ring * 64 + angle ≡ 8 * (ring * 8 + angle / 8) + angle % 8 = omega arith in
      ap (bit code) at ∙ bit_at code (ring * 8 + angle / 8) (angle % 8) (omega arith)

-- ---- where a bit goes

module _ (code : List ℕ) where
  bit_rings : (i : ℕ) → i < code_bits → bit (to_rings code) i ≡ bit code (sent_where_stored i)
  unfolding to_rings
  bit_rings = bit_code (λ i. bit code (sent_where_stored i)) (λ i. bit_lt code (sent_where_stored i))

  bit_angles : (i : ℕ) → i < code_bits → bit (to_angles code) i ≡ bit code (stored_where_sent i)
  unfolding to_angles
  bit_angles = bit_code (λ i. bit code (stored_where_sent i)) (λ i. bit_lt code (stored_where_sent i))

  -- "It sends them angle by angle: i = angle × 8 + ring", "We store ring by ring, at ring × 64 + angle"
  pub ring_by_ring : (ring angle : ℕ) → ring < rings → angle < angles
      → bit (to_rings code) (stored_at ring angle) ≡ bit code (sent_at angle ring)
  unfolding sent_where_stored sent_at stored_at
  ring_by_ring ring angle r a =
      let e : (ring * 64 + angle) % 64 * 8 + (ring * 64 + angle) / 64 ≡ angle * 8 + ring = omega arith in
      bit_rings (stored_at ring angle) (omega arith) ∙ ap (bit code) e

  pub angle_by_angle : (ring angle : ℕ) → ring < rings → angle < angles
      → bit (to_angles code) (sent_at angle ring) ≡ bit code (stored_at ring angle)
  unfolding stored_where_sent sent_at stored_at
  angle_by_angle ring angle r a =
      let e : (angle * 8 + ring) % 8 * 64 + (angle * 8 + ring) / 8 ≡ ring * 64 + angle = omega arith in
      bit_angles (sent_at angle ring) (omega arith) ∙ ap (bit code) e

module _ (v : List ℕ) (c : Vector v) where
  -- "and packing back"
  pub bit_is_element : (i : ℕ) → i < code_bits → bit (packed v) i ≡ get_or v i 0
  unfolding packed
  bit_is_element = bit_code (λ i. get_or v i 0) c.small

-- ---- each undoes its partner

pub rings_undone : (code : List ℕ) → Code code → to_angles (to_rings code) ≡ code
unfolding to_angles sent_where_stored sent_at stored_where_sent stored_at
rings_undone code c = code_ext (λ i. bit (to_rings code) (stored_where_sent i)) (bit code) same ∙ code_bits_lem code c
  where
    same : (i : ℕ) → i < code_bits → bit (to_rings code) (stored_where_sent i) ≡ bit code i
    same i l =
        let e : (i % 8 * 64 + i / 8) % 64 * 8 + (i % 8 * 64 + i / 8) / 64 ≡ i = omega arith in
        bit_rings code (stored_where_sent i) (omega arith) ∙ ap (bit code) e

pub angles_undone : (code : List ℕ) → Code code → to_rings (to_angles code) ≡ code
unfolding to_rings sent_where_stored sent_at stored_where_sent stored_at
angles_undone code c = code_ext (λ i. bit (to_angles code) (sent_where_stored i)) (bit code) same ∙ code_bits_lem code c
  where
    same : (i : ℕ) → i < code_bits → bit (to_angles code) (sent_where_stored i) ≡ bit code i
    same i l =
        let e : (i % 64 * 8 + i / 64) % 8 * 64 + (i % 64 * 8 + i / 64) / 8 ≡ i = omega arith in
        bit_angles code (sent_where_stored i) (omega arith) ∙ ap (bit code) e

pub unpacked_undone : (code : List ℕ) → Code code → packed (unpacked code) ≡ code
unfolding packed
unpacked_undone code c =
    code_ext (λ i. get_or (unpacked code) i 0) (bit code) (element_is_bit code) ∙ code_bits_lem code c

pub packed_undone : (v : List ℕ) → Vector v → unpacked (packed v) ≡ v
unfolding unpacked
packed_undone v c =
    tab_ext (bit (packed v)) (λ i. get_or v i 0) code_bits (bit_is_element v c)
    ∙ ap (tab (λ i. get_or v i 0)) (sym c.long) ∙ tab_get_or v

-- ---- one bit, worked out (`one_byte`, `one_bit`): the two directions differ, and neither undoes itself

rings_again : to_rings (one_byte 17 2) ≡ one_byte 10 2
unfolding to_rings code_of_bits from_bits bit sent_where_stored sent_at tab
rings_again = refl

angles_of_it : to_angles (one_byte 9 4) ≡ one_byte 10 2
unfolding to_angles code_of_bits from_bits bit stored_where_sent stored_at tab
angles_of_it = refl

angles_again : to_angles (one_byte 10 2) ≡ one_byte 17 2
unfolding to_angles code_of_bits from_bits bit stored_where_sent stored_at tab
angles_again = refl

pub directions_differ : to_rings (one_byte 9 4) ≡ to_angles (one_byte 9 4) → ⊥
directions_differ e =
    let no : ◌≡◌ {A = ℕ} 2 0 = ap (λ (code : List ℕ). get_or code 17 0) (sym one_bit ∙ e ∙ angles_of_it) in
    absurd (omega arith)

pub rings_twice : to_rings (to_rings (one_byte 9 4)) ≡ one_byte 9 4 → ⊥
rings_twice e =
    let turned : one_byte 10 2 ≡ one_byte 9 4 = sym (ap to_rings one_bit ∙ rings_again) ∙ e in
    let no : ◌≡◌ {A = ℕ} 0 4 = ap (λ (code : List ℕ). get_or code 9 0) turned in
    absurd (omega arith)

pub angles_twice : to_angles (to_angles (one_byte 9 4)) ≡ one_byte 9 4 → ⊥
angles_twice e =
    let turned : one_byte 17 2 ≡ one_byte 9 4 = sym (ap to_angles angles_of_it ∙ angles_again) ∙ e in
    let no : ◌≡◌ {A = ℕ} 0 4 = ap (λ (code : List ℕ). get_or code 9 0) turned in
    absurd (omega arith)

-- ---- how far apart, bit by bit

-- the ones of a number of n bits, one after the other
ones_sum : (n x : ℕ) → x < 2 ^ n → ones x ≡ sumℕ (λ k. x / 2 ^ k % 2) n
unfolding sumℕ ones
ones_sum zero zero h = refl
ones_sum zero (suc x) h = absurd (omega arith)
ones_sum (suc n) x h =
    let one : x / 2 ^ 0 % 2 ≡ x % 2 = omega arith in
    ones_step x
    ∙ ap (λ (k : ℕ). x % 2 + k) (ones_sum n (x / 2) (shr_lt n 1 (rw (add-one n) h))
    ∙ sumℕ_ext (λ k. x / 2 / 2 ^ k % 2) (λ k. x / 2 ^ suc k % 2) n (λ k l. ap (λ (y : ℕ). y % 2) (next k)))
    ∙ ap (λ (k : ℕ). k + sumℕ (λ k. x / 2 ^ suc k % 2) n) (sym one) ∙ sym (sumℕ_front (λ k. x / 2 ^ k % 2) n)
  where
    next : (k : ℕ) → x / 2 / 2 ^ k ≡ x / 2 ^ suc k
    next k =
        let e : 1 + k ≡ suc k = omega arith in
        shr-shr x 1 k ∙ ap (λ (j : ℕ). x / 2 ^ j) e

module _ (a b : List ℕ) where
  pub places : Code a → Code b → distance a b ≡ sumℕ (differs a b) code_bits
  unfolding distance differs
  places c d =
      sumℕ_ext (λ j. ones (bit_xor (get_or a j 0) (get_or b j 0))) (λ j. sumℕ (λ k. differs a b (j * 8 + k)) 8) 64
      (λ j l. of_byte j) ∙ sym (sumℕ_grouped (differs a b) 8 64)
    where
      at : (e : List ℕ) (j k : ℕ) → k < 8 → get_or e j 0 / 2 ^ k % 2 ≡ bit e (j * 8 + k)
      at e j k l =
          let same : 8 * j + k ≡ j * 8 + k = omega arith in
          sym (bit_at e j k l) ∙ ap (bit e) same

      of_byte : (j : ℕ) → ones (bit_xor (get_or a j 0) (get_or b j 0)) ≡ sumℕ (λ k. differs a b (j * 8 + k)) 8
      of_byte j =
          let x = get_or a j 0 in
          let y = get_or b j 0 in
          ones_sum 8 (bit_xor x y) (xor_lt 8 x y (c.small j) (d.small j))
          ∙ sumℕ_ext (λ k. bit_xor x y / 2 ^ k % 2) (λ k. differs a b (j * 8 + k)) 8
          (λ k l. xor_bit x y k ∙ ap₂ differ (at a j k l) (at b j k l))

-- ---- "must equal code 2's measure of the unpacked vectors"

not_scalar : iris_terms.code ≡ 0 → ⊥
not_scalar e = absurd (omega (arith, e))

-- what one place adds to the measure
one_place : {x y : ℕ} → Bit x → Bit y → (signed x -ℤ signed y) *ℤ (signed x -ℤ signed y) ≡ pos (differ x y)
unfolding signed
one_place off off = refl
one_place off on = refl
one_place on off = refl
one_place on on = refl

differ_most : {x y : ℕ} → Bit x → Bit y → differ x y ≤ 1
differ_most off off = omega arith
differ_most off on = omega arith
differ_most on off = omega arith
differ_most on on = omega arith

sum_most : (f : ℕ → ℕ) → ((i : ℕ) → f i ≤ 1) → (n : ℕ) → sumℕ f n ≤ n
unfolding sumℕ
sum_most f h zero = omega arith
sum_most f h (suc n) = omega (arith, sum_most f h n, h n)

module _ (a b : List ℕ) (c : Code a) (d : Code b) where
  pub distance_is_measure : measure iris_terms (unpacked a) (unpacked b) ≡ pos (distance a b)
  unfolding element differs
  distance_is_measure =
      distance_sum iris_terms not_scalar (unpacked a) (unpacked b)
      ∙ sumℤ_ext _ (λ i. pos (differs a b i)) code_bits at
      ∙ sumℤ_pos (differs a b) code_bits ∙ ap pos (sym (places a b c d))
    where
      square : ℕ → ℕ → ℤ
      square x y = (signed x -ℤ signed y) *ℤ (signed x -ℤ signed y)

      at : (i : ℕ) → i < code_bits
          → square (get_or (unpacked a) i 0) (get_or (unpacked b) i 0) ≡ pos (differ (bit a i) (bit b i))
      at i l =
          ap₂ square (element_is_bit a i l) (element_is_bit b i l)
          ∙ one_place (is_bit (bit a i) (bit_lt a i)) (is_bit (bit b i) (bit_lt b i))

  -- .. which is at most 512
  pub distance_most : distance a b ≤ code_bits
  unfolding differs
  distance_most = rw (places a b c d) (sum_most (differs a b) at code_bits)
    where
      at : (i : ℕ) → differs a b i ≤ 1
      at i = differ_most (is_bit (bit a i) (bit_lt a i)) (is_bit (bit b i) (bit_lt b i))

-- ---- "in either order of storage", and the same number in both

sent_sum : (g : ℕ → ℕ) → sumℕ (λ i. g (sent_where_stored i)) code_bits ≡ sumℕ g code_bits
unfolding sent_where_stored sent_at
sent_sum g =
    sumℕ_grouped (λ i. g (sent_where_stored i)) 64 8
    ∙ sumℕ_ext (λ r. sumℕ (λ a. g (sent_where_stored (r * 64 + a))) 64) (λ r. sumℕ (λ a. g (a * 8 + r)) 64) 8
    (λ r l. sumℕ_ext (λ a. g (sent_where_stored (r * 64 + a))) (λ a. g (a * 8 + r)) 64 (λ a k. ap g (at r a l k)))
    ∙ sumℕ_swapped (λ r a. g (a * 8 + r)) 8 64 ∙ sym (sumℕ_grouped g 8 64)
  where
    at : (r a : ℕ) → r < 8 → a < 64 → (r * 64 + a) % 64 * 8 + (r * 64 + a) / 64 ≡ a * 8 + r
    at r a l k = omega arith

module _ (a b : List ℕ) (c : Code a) (d : Code b) where
  pub same_in_rings : distance (to_rings a) (to_rings b) ≡ distance a b
  unfolding differs
  same_in_rings =
      places (to_rings a) (to_rings b) (rings_code a) (rings_code b)
      ∙ sumℕ_ext (differs (to_rings a) (to_rings b)) (λ i. differs a b (sent_where_stored i)) code_bits
      (λ i l. ap₂ differ (bit_rings a i l) (bit_rings b i l))
      ∙ sent_sum (differs a b) ∙ sym (places a b c d)

  pub rings_measure : measure iris_terms (unpacked (to_rings a)) (unpacked (to_rings b)) ≡ pos (distance a b)
  rings_measure =
      distance_is_measure (to_rings a) (to_rings b) (rings_code a) (rings_code b) ∙ ap pos same_in_rings

module _ (a b : List ℕ) (c : Code a) (d : Code b) where
  -- the scanner's order is what ours came from
  pub same_in_angles : distance (to_angles a) (to_angles b) ≡ distance a b
  same_in_angles =
      sym (same_in_rings (to_angles a) (to_angles b) (angles_code a) (angles_code b))
      ∙ ap₂ distance (angles_undone a c) (angles_undone b d)

  pub angles_measure : measure iris_terms (unpacked (to_angles a)) (unpacked (to_angles b)) ≡ pos (distance a b)
  angles_measure =
      distance_is_measure (to_angles a) (to_angles b) (angles_code a) (angles_code b) ∙ ap pos same_in_angles

-- ---- when that measure meets a rule: the distance is at most T, or lies from P to Q [SPEC 3.6, 3.13]

module _ (a b : List ℕ) (c : Code a) (d : Code b) where
  pub meets_threshold : (t : ℕ) → t < 2 ^ 31
      → meets iris_terms (Threshold t) (measure iris_terms (unpacked a) (unpacked b)) ≡ leb (distance a b) t
  unfolding meets
  meets_threshold t l =
      ap (λ (m : ℤ). meets iris_terms (Threshold t) m) (distance_is_measure a b c d)
      ∙ reached_close iris_terms (distance_sign iris_terms not_scalar) (pos (distance a b)) (signed t)
      ∙ ap (le_z (pos (distance a b))) (signed_low t l)

  pub meets_marks : (p q : ℕ) → p < 2 ^ 31 → q < 2 ^ 31
      → meets iris_terms (Between p q) (measure iris_terms (unpacked a) (unpacked b))
      ≡ leb p (distance a b) && leb (distance a b) q
  unfolding meets within
  meets_marks p q lp lq =
      ap (λ (m : ℤ). meets iris_terms (Between p q) m) (distance_is_measure a b c d)
      ∙ ap₂ (λ (y z : ℤ). le_z y (pos (distance a b)) && le_z (pos (distance a b)) z)
      (signed_low p lp) (signed_low q lq)

-- ---- who is refused

module _ (v : List ℕ) (room : ℕ) where
  module _ (long : length v ≡ code_bits) (fits : code_bytes ≤ room) where
    by_elements : (b : Bool) → all_in_range iris_terms v ≡ b → why_not_vector v room ≡ unless b out_of_range 0
    unfolding why_not_vector
    by_elements b e =
        sym (unless_true _ _ _ (eq-eqb _ _ long) (unless_true _ _ _ (le-leb code_bytes room fits)
        (ap (λ (t : Bool). unless t out_of_range 0) (sym e))))

    -- an element that is neither 0 nor 1, also one that stands for a negative number
    pub another_element : (i : ℕ) → 2 ≤ get_or v i 0 → get_or v i 0 < 2 ^ 32 → why_not_vector v room ≡ out_of_range
    unfolding unless
    another_element i l w = go (all_in_range iris_terms v) refl
      where
        go : (b : Bool) → all_in_range iris_terms v ≡ b → why_not_vector v room ≡ out_of_range
        go false e = by_elements false e
        go true e = absurd (omega (arith, in_range_bit (get_or v i 0) w (in_range_at iris_terms v e i)))

  pub vector_accepted : Vector v → code_bytes ≤ room → why_not_vector v room ≡ 0
  unfolding unless
  vector_accepted c fits = by_elements c.long fits true (bits_in_range v c.small)

-- ---- what a call leaves

-- all of it as it was, if the call is refused
pub refused_stays : (why : ℕ) (new out : List ℕ) → (why ≡ 0 → ⊥) → buffer_after why new out ≡ out
refused_stays why new out h = sym (stays why new out refl h)

-- ---- the calls undo each other: what one leaves at the start of its buffer is handed to its partner

left_is : (new : List ℕ → List ℕ) (n : ℕ) (code out : List ℕ) → length code ≡ code_bytes → length (new code) ≡ n
    → n ≤ length out → left new n code out ≡ new code
unfolding left
left_is new n code out c l fits = start_is_new (code_accepted code n (length out) c fits) (new code) out n l fits

packed_is : (v out : List ℕ) → Vector v → code_bytes ≤ length out → left_packed v out ≡ packed v
unfolding left_packed
packed_is v out c fits =
    start_is_new (vector_accepted v (length out) c fits) (packed v) out code_bytes (packed_code v c).long fits

module _ (code out back : List ℕ) (c : Code code) (room : code_bytes ≤ length back) where
  pub called_to_rings : code_bytes ≤ length out
      → left to_angles code_bytes (left to_rings code_bytes code out) back ≡ code
  called_to_rings fits =
      ap (λ (b : List ℕ). left to_angles code_bytes b back)
      (left_is to_rings code_bytes code out c.long (rings_code code).long fits)
      ∙ left_is to_angles code_bytes (to_rings code) back (rings_code code).long
      (angles_code (to_rings code)).long room
      ∙ rings_undone code c

  pub called_to_angles : code_bytes ≤ length out
      → left to_rings code_bytes (left to_angles code_bytes code out) back ≡ code
  called_to_angles fits =
      ap (λ (b : List ℕ). left to_rings code_bytes b back)
      (left_is to_angles code_bytes code out c.long (angles_code code).long fits)
      ∙ left_is to_rings code_bytes (to_angles code) back (angles_code code).long
      (rings_code (to_angles code)).long room
      ∙ angles_undone code c

  pub called_unpack : code_bits ≤ length out → left_packed (left unpacked code_bits code out) back ≡ code
  called_unpack fits =
      ap (λ (v : List ℕ). left_packed v back)
      (left_is unpacked code_bits code out c.long (unpacked_vector code).long fits)
      ∙ packed_is (unpacked code) back (unpacked_vector code) room ∙ unpacked_undone code c

pub called_pack : (v out back : List ℕ) → Vector v → code_bytes ≤ length out → code_bits ≤ length back
    → left unpacked code_bits (left_packed v out) back ≡ v
called_pack v out back c fits room =
    ap (λ (b : List ℕ). left unpacked code_bits b back) (packed_is v out c fits)
    ∙ left_is unpacked code_bits (packed v) back (packed_code v c).long (unpacked_vector (packed v)).long room
    ∙ packed_undone v c
