-- Iris codes (02, §10, "Iris codes in their own order"): 512 bits, packed in 64 bytes or unpacked as a vector of 0 and
-- 1, in the scanner's order or in ours; how far two packed ones are apart; and of each call why it is turned down, what
-- it leaves in a lent buffer, and what it answers. Assumes nothing. [SPEC 24.14 to 24.17, 35.1 to 35.11]
use Rattle.std.specs.Prelude.{◌≡◌, Bool, ◌&&◌, List, ℕ, zero, suc, ◌+◌, ◌*◌, ◌/◌, ◌%◌, ◌^◌, ◌<◌, eqb, leb, length}
use Rattle.std.specs.Prelude.{get_or}
use Rattle.std.specs.Int.Bits.{bit_xor}
use Rattle.std.specs.Int.Count.{ones}
use Rattle.base_algebra.specs.Sum.{sumℕ}
use Rattle.base_words.specs.List.{tab, over}
use Rattle.base_messages.specs.Messages.{wrong_length, short_buffer, out_of_range, unless, if_taken}
use Rattle.measure_table.specs.declared.Terms.{Terms}
use Rattle.measure_table.specs.Measure.{all_in_range}
use Rattle.measure_iris.specs.declared.HammingAnswer.{HammingAnswer}

-- ---- codes: "512 bits as 64 bytes", "64 angles, 8 rings" [SPEC 35.1]

abbrev pub code_bits : ℕ
code_bits = 512

abbrev pub code_bytes : ℕ
code_bytes = 64

abbrev pub angles : ℕ
angles = 64

abbrev pub rings : ℕ
rings = 8

-- 64 bytes
pub record Code (code : List ℕ) : Type 0 where
  pub long : length code ≡ code_bytes
  pub small : (j : ℕ) → get_or code j 0 < 2 ^ 8

-- "a 0-or-1 vector of 512"
pub record Vector (v : List ℕ) : Type 0 where
  pub long : length v ≡ code_bits
  pub small : (i : ℕ) → get_or v i 0 < 2

-- ---- bits

-- "bit i being bit i modulo 8 of byte i / 8, lowest first": code, i [SPEC 35.2]
unfoldable pub bit : List ℕ → ℕ → ℕ
bit code i = get_or code (i / 8) 0 / 2 ^ (i % 8) % 2

-- the number whose n bits f has from i on, lowest first, for an f of 0 and 1
unfoldable pub from_bits : (ℕ → ℕ) → ℕ → ℕ → ℕ
from_bits f i zero = 0
from_bits f i (suc n) = f i + 2 * from_bits f (i + 1) n

-- the code whose bit i is f i (CodeBits.`bit-code`)
unfoldable pub code_of_bits : (ℕ → ℕ) → List ℕ
code_of_bits f = tab (λ j. from_bits f (8 * j) 8) code_bytes

-- ---- the two orders

-- "It sends them angle by angle: i = angle × 8 + ring": angle, ring [SPEC 35.3]
unfoldable pub sent_at : ℕ → ℕ → ℕ
sent_at angle ring = angle * rings + ring

-- "We store ring by ring, at ring × 64 + angle": ring, angle [SPEC 35.4]
unfoldable pub stored_at : ℕ → ℕ → ℕ
stored_at ring angle = ring * angles + angle

-- where the scanner has our bit i, which is that of ring i / 64 and angle i modulo 64 [SPEC 35.5]
unfoldable pub sent_where_stored : ℕ → ℕ
sent_where_stored i = sent_at (i % angles) (i / angles)

-- where we have the scanner's bit i, which is that of angle i / 8 and ring i modulo 8 [SPEC 35.6]
unfoldable pub stored_where_sent : ℕ → ℕ
stored_where_sent i = stored_at (i % rings) (i / rings)

-- "both rearrangements of the 64 bytes": from the scanner's order to ours, and back [SPEC 35.5, 35.6]
unfoldable pub to_rings : List ℕ → List ℕ
to_rings code = code_of_bits (λ i. bit code (sent_where_stored i))

unfoldable pub to_angles : List ℕ → List ℕ
to_angles code = code_of_bits (λ i. bit code (stored_where_sent i))

-- ---- packed and unpacked

-- "unpacking to a 0-or-1 vector of 512 whose element i is bit i" [SPEC 35.7]
unfoldable pub unpacked : List ℕ → List ℕ
unpacked code = tab (bit code) code_bits

-- "and packing back" [SPEC 35.8]
unfoldable pub packed : List ℕ → List ℕ
packed v = code_of_bits (λ i. get_or v i 0)

-- ---- how far apart

-- "The Hamming measure of two packed codes, counted from their xor" [SPEC 35.9]
unfoldable pub distance : List ℕ → List ℕ → ℕ
distance a b = sumℕ (λ j. ones (bit_xor (get_or a j 0) (get_or b j 0))) code_bytes

-- what an unpacked code is a vector for: "code 2's measure", of 512 elements [SPEC 35.9]
abbrev pub hamming_code : ℕ
hamming_code = 2

abbrev pub iris_terms : Terms
iris_terms = record { code = hamming_code; n = code_bits }

-- ---- calls: "A vector with another element is refused by 01's eighth, a wrong length by its fourth" [SPEC 35.10]

abbrev pub code_long : List ℕ → Bool
code_long code = eqb (length code) code_bytes

-- a packed code, and a buffer that has `room` elements where n are written: code, n, room [SPEC 24.14, 24.15]
unfoldable pub why_not_code : List ℕ → ℕ → ℕ → ℕ
why_not_code code n room = unless (code_long code) wrong_length (unless (leb n room) short_buffer 0)

-- a vector, and a buffer of `room` bytes [SPEC 24.16]
unfoldable pub why_not_vector : List ℕ → ℕ → ℕ
why_not_vector v room =
    unless (eqb (length v) code_bits) wrong_length
    (unless (leb code_bytes room) short_buffer
    (unless (all_in_range iris_terms v) out_of_range 0))

-- two packed codes [SPEC 24.17]
unfoldable pub why_not_pair : List ℕ → List ℕ → ℕ
why_not_pair a b = unless (code_long a && code_long b) wrong_length 0

-- a lent buffer after the call: what is new from its start on if nothing refuses, else as it was. Why not, what is new,
-- the buffer [SPEC 22.4, 22.6, 35.11]
unfoldable pub buffer_after : ℕ → List ℕ → List ℕ → List ℕ
buffer_after why new out = if_taken why (over 0 new out) out

-- what comparing two codes answers [SPEC 35.9, 35.11]
unfoldable pub hamming_answer : List ℕ → List ℕ → HammingAnswer
hamming_answer a b = record { why = why_not_pair a b; distance = if_taken (why_not_pair a b) (distance a b) 0 }
