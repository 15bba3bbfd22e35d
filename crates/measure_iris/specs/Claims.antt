-- What 02, §10, promises of iris codes: what a bit is and where it goes, that each change of form undoes its partner,
-- that how far two packed codes are apart is code 2's measure of the unpacked vectors, in either order, when that meets
-- a rule, who is refused, and what a call leaves. (Most of it is in `proofs/Claims.antt`.) Assumes nothing.
-- [SPEC 22.4, 35.2 to 35.11]
use Rattle.std.specs.Prelude.{◌≡◌, Bool, not, ◌&&◌, take, replicate}
use Rattle.std.proofs.Math.Path.{refl, sym, ap, ap₂}
use Rattle.std.proofs.Common.{◌∙◌, take_at, drop_at}
use Rattle.std.proofs.Math.Bool.{true, false}
use mathlib.Core.List.{List, ◌∷◌, ◌++◌}
use Prim.Native.Nat.{ℕ, suc, ◌+◌, ◌-◌, ◌<◌, ◌≤◌}
use native.Mathlib.Omega.{arith}
use borrow.Author.Tests.{eq-eqb, ne_eqb, le-leb, lt-leb, ltb-true, ltb-false}
use Rattle.std.specs.Int.Bits.{bit_xor, differ, xor_self}
use Rattle.std.specs.Int.Count.{ones}
use Rattle.std.proofs.Math.Dec.{ltb}
use Rattle.std.proofs.Math.ListN.{length, get_or, drop, get_or-eq_default}
use Rattle.base_algebra.specs.Sum.{sumℕ, sumℕ_ext}
use Rattle.base_words.specs.List.{tab, length_tab, get_or_tab, over_eq}
use Rattle.base_messages.specs.Messages.{wrong_length, short_buffer, if_taken}
use Rattle.base_messages.specs.Laws.{unless_false, unless_true}
use Rattle.measure_iris.specs.Iris.{code_bits, code_bytes, Code, Vector, bit, from_bits, code_of_bits}
use Rattle.measure_iris.specs.Iris.{sent_at, stored_at, sent_where_stored, stored_where_sent, to_rings, to_angles}
use Rattle.measure_iris.specs.Iris.{unpacked, packed, distance, code_long, why_not_code, why_not_vector}
use Rattle.measure_iris.specs.Iris.{buffer_after, hamming_answer}
use Rattle.measure_iris.specs.Laws.{pair_refused, pair_taken}
use Rattle.measure_iris.specs.CodeBits.{bit_lt, code_code}

-- ---- what a bit is: "lowest first"

module _ (code : List ℕ) where
  pub bit_small : (i : ℕ) → bit code i < 2
  bit_small = bit_lt code

-- ---- where a bit goes

module _ (code : List ℕ) where
  pub rings_code : Code (to_rings code)
  unfolding to_rings
  rings_code = code_code (λ i. bit code (sent_where_stored i)) (λ i. bit_lt code (sent_where_stored i))

  pub angles_code : Code (to_angles code)
  unfolding to_angles
  angles_code = code_code (λ i. bit code (stored_where_sent i)) (λ i. bit_lt code (stored_where_sent i))

  -- "whose element i is bit i", in whichever order the bytes are
  pub element_is_bit : (i : ℕ) → i < code_bits → get_or (unpacked code) i 0 ≡ bit code i
  unfolding unpacked
  element_is_bit i l = get_or_tab (bit code) code_bits i l

  -- "to a 0-or-1 vector of 512"
  pub unpacked_vector : Vector (unpacked code)
  unfolding unpacked
  unpacked_vector = record { long = length_tab (bit code) code_bits; small = small }
    where
      small : (i : ℕ) → get_or (tab (bit code) code_bits) i 0 < 2
      small i = go (ltb i code_bits) refl
        where
          go : (b : Bool) → ltb i code_bits ≡ b → get_or (tab (bit code) code_bits) i 0 < 2
          go true e = rw (get_or_tab (bit code) code_bits i (ltb-true i code_bits e)) (bit_lt code i)
          go false e =
              let past : length (tab (bit code) code_bits) ≤ i =
              omega (arith, ltb-false i code_bits e, length_tab (bit code) code_bits) in
              rw (get_or-eq_default (tab (bit code) code_bits) 0 {n = i} past) (omega arith)

module _ (v : List ℕ) (c : Vector v) where
  pub packed_code : Code (packed v)
  unfolding packed
  packed_code = code_code (λ i. get_or v i 0) c.small

-- ---- one bit, worked out: angle 9 and ring 2 are bit 74 of the scanner's, bit 2 of byte 9; and bit 137 of ours, bit 1
-- of byte 17. Exchanged directions would put it elsewhere, and neither undoes itself.

-- a code with byte x at j, and else zeros
abbrev pub one_byte : ℕ → ℕ → List ℕ
one_byte j x = replicate j 0 ++ (x ∷ replicate (code_bytes - suc j) 0)

pub one_bit : to_rings (one_byte 9 4) ≡ one_byte 17 2
unfolding to_rings code_of_bits from_bits bit sent_where_stored sent_at tab
one_bit = refl

pub one_bit_back : to_angles (one_byte 17 2) ≡ one_byte 9 4
unfolding to_angles code_of_bits from_bits bit stored_where_sent stored_at tab
one_bit_back = refl

-- ---- how far apart, bit by bit

-- "counted from their xor": in how many of the 512 places two codes differ
module _ (a b : List ℕ) where
  unfoldable pub differs : ℕ → ℕ
  differs i = differ (bit a i) (bit b i)

-- both ends, 512 and 0, are reached: by codes that differ everywhere, and by a code and itself
pub farthest : distance (replicate code_bytes 0) (replicate code_bytes 255) ≡ code_bits
unfolding distance sumℕ ones
farthest = refl

pub nearest : (code : List ℕ) → distance code code ≡ 0
unfolding distance sumℕ ones
nearest code = sumℕ_ext (λ j. ones (bit_xor (get_or code j 0) (get_or code j 0))) (λ j. 0) code_bytes none
  where
    none : (j : ℕ) → j < code_bytes → ones (bit_xor (get_or code j 0) (get_or code j 0)) ≡ 0
    none j l = ap ones (xor_self (get_or code j 0))

-- ---- who is refused: "A vector with another element is refused by 01's eighth, a wrong length by its fourth". The
-- length comes first, whatever else is wrong, and the buffer comes before the elements.

module _ (code : List ℕ) (n room : ℕ) where
  pub wrong_code : (length code ≡ code_bytes → ⊥) → why_not_code code n room ≡ wrong_length
  unfolding why_not_code
  wrong_code h = sym (unless_false _ _ _ (ne_eqb _ _ h))

  module _ (long : length code ≡ code_bytes) where
    pub no_room_for_code : room < n → why_not_code code n room ≡ short_buffer
    unfolding why_not_code
    no_room_for_code l = sym (unless_true _ _ _ (eq-eqb _ _ long) (unless_false _ _ _ (lt-leb n room l)))

    pub code_accepted : n ≤ room → why_not_code code n room ≡ 0
    unfolding why_not_code
    code_accepted l = sym (unless_true _ _ _ (eq-eqb _ _ long) (unless_true _ _ _ (le-leb n room l) refl))

module _ (v : List ℕ) (room : ℕ) where
  pub wrong_vector : (length v ≡ code_bits → ⊥) → why_not_vector v room ≡ wrong_length
  unfolding why_not_vector
  wrong_vector h = sym (unless_false _ _ _ (ne_eqb _ _ h))

  pub no_room_for_vector : length v ≡ code_bits → room < code_bytes → why_not_vector v room ≡ short_buffer
  unfolding why_not_vector
  no_room_for_vector long l =
      sym (unless_true _ _ _ (eq-eqb _ _ long) (unless_false _ _ _ (lt-leb code_bytes room l)))

module _ (a b : List ℕ) where
  pub wrong_pair : code_long a && code_long b ≡ false → hamming_answer a b ≡ record { why = wrong_length; distance = 0 }
  wrong_pair h = sym (pair_refused a b refl (ap not h))

  pub pair_accepted : length a ≡ code_bytes → length b ≡ code_bytes
      → hamming_answer a b ≡ record { why = 0; distance = distance a b }
  pair_accepted c d =
      sym (pair_taken a b refl (ap not (ap₂ ◌&&◌ (eq-eqb _ _ c) (eq-eqb _ _ d))) (distance a b) refl)

-- ---- what a call leaves: what is new at the start of the buffer, and what is behind as it was

module _ {why : ℕ} (accepted : why ≡ 0) (new out : List ℕ) (n : ℕ) (long : length new ≡ n) (fits : n ≤ length out) where
  laid : buffer_after why new out ≡ new ++ drop n out
  unfolding buffer_after if_taken
  laid =
      let at : 0 + length new ≡ n = omega arith in
      rw accepted (over_eq new out 0 (omega arith) ∙ ap (λ (k : ℕ). new ++ drop k out) at)

  pub start_is_new : take n (buffer_after why new out) ≡ new
  start_is_new = ap (take n) laid ∙ take_at new (drop n out) n long

  pub rest_stays : drop n (buffer_after why new out) ≡ drop n out
  rest_stays = ap (drop n) laid ∙ drop_at new (drop n out) n long

-- ---- the calls undo each other: what one leaves at the start of its buffer is handed to its partner

-- the start of a buffer after a call on a code that makes n elements of it, and after pack
unfoldable pub left : (List ℕ → List ℕ) → ℕ → List ℕ → List ℕ → List ℕ
left new n code out = take n (buffer_after (why_not_code code n (length out)) (new code) out)

unfoldable pub left_packed : List ℕ → List ℕ → List ℕ
left_packed v out = take code_bytes (buffer_after (why_not_vector v (length out)) (packed v) out)
