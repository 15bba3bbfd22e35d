-- What every call of a door has in common: a chain of refusals, the door's name, and a message's label (01, "One check
-- at a box" and "When a call is turned down"). Assumes nothing. [SPEC 11.1, 11.2, 11.4, 22.1]
use Rattle.std.specs.Prelude.{Bool, true, cond, ◌&&◌, List, [], ◌∷◌, ◌++◌, ℕ, ◌-◌, eqb, leb, length, replicate}
use Rattle.base_words.specs.List.{same}
use Rattle.base_messages.specs.declared.Label.{Label}

-- ---- the refusals' numbers (01, "When a call is turned down"); 0 where nothing refuses

abbrev pub bad_name : ℕ
bad_name = 1

abbrev pub bad_party_or_code : ℕ
bad_party_or_code = 2

abbrev pub out_of_turn : ℕ
out_of_turn = 3

abbrev pub wrong_length : ℕ
wrong_length = 4

abbrev pub short_buffer : ℕ
short_buffer = 5

abbrev pub wrong_message : ℕ
wrong_message = 6

abbrev pub wrong_number : ℕ
wrong_number = 7

abbrev pub out_of_range : ℕ
out_of_range = 8

abbrev pub equal_keys : ℕ
equal_keys = 9

abbrev pub bad_block : ℕ
bad_block = 10

abbrev pub bad_content : ℕ
bad_content = 11

abbrev pub bad_sum : ℕ
bad_sum = 12

-- 02, §4
abbrev pub bad_marks : ℕ
bad_marks = 13

-- 02, §5
abbrev pub bad_rows : ℕ
bad_rows = 14

abbrev pub no_row : ℕ
no_row = 15

abbrev pub more_rows : ℕ
more_rows = 16

-- goes on if the test holds, else k is why not
unfoldable pub unless : Bool → ℕ → ℕ → ℕ
unless b k rest = cond b rest k

-- what is new where nothing refuses, and what was there where something does
unfoldable pub if_taken : {A : Type 0} → ℕ → A → A → A
if_taken why new old = cond (eqb why 0) new old

-- ---- names

unfoldable pub printable : List ℕ → Bool
printable [] = true
printable (b ∷ s) = leb 32 b && (leb b 126 && printable s)

-- 1: "A name at a start is empty, above 16 bytes, or has a byte outside 32 to 126" [SPEC 11.1, 23.1]
unfoldable pub name_fits : List ℕ → Bool
name_fits s = leb 1 (length s) && (leb (length s) 16 && printable s)

-- "the 16-byte name": zero after its end [SPEC 11.2]
unfoldable pub padded : List ℕ → List ℕ
padded s = s ++ replicate (16 - length s) 0

-- ---- messages

-- "one byte: 0 masked vector, 1 word, 2 answer"
abbrev pub vector_kind : ℕ
vector_kind = 0

abbrev pub word_kind : ℕ
word_kind = 1

abbrev pub answer_kind : ℕ
answer_kind = 2

-- the parties: party 0 is the camera box, party 1 the office box
abbrev pub camera_party : ℕ
camera_party = 0

abbrev pub office_party : ℕ
office_party = 1

-- 6: "A message's kind is not the one this call takes, its name is not this door's padded name, or its sender is not
-- the expected party" [SPEC 23.6]
unfoldable pub expected : ℕ → List ℕ → ℕ → Label → List ℕ → Bool
expected kind door sender l name = eqb l.kind kind && (same name door && eqb l.sender sender)

-- 4: "message name 16"
unfoldable pub is_name : List ℕ → Bool
is_name name = eqb (length name) 16

-- 4: "key or seed 32 bytes" [SPEC 23.4]
unfoldable pub is_key : List ℕ → Bool
is_key key = eqb (length key) 32
