-- A refusal as code has it, and its number (Messages). Assumes nothing.
use Rattle.std.specs.Prelude.{◌≡◌, ℕ, Bool, true, false, cond, eqb, Result, Ok, Err}
use Rattle.std.proofs.Common.{refl}
use Rattle.std.proofs.lemmas.Bool.{eqb-false}
use Rattle.base_messages.specs.Messages.{unless, bad_name, bad_party_or_code, out_of_turn, wrong_length, short_buffer}
use Rattle.base_messages.specs.Messages.{wrong_message, wrong_number, out_of_range, equal_keys, bad_block, bad_content}
use Rattle.base_messages.specs.Messages.{bad_sum, bad_marks, bad_rows, no_row, more_rows}
use Rattle.base_messages.specs.declared.Refusal.{Refusal}
use Rattle.base_messages.specs.declared.Refusal.TheVariants.{BadName, BadPartyOrCode, OutOfTurn, WrongLength}
use Rattle.base_messages.specs.declared.Refusal.TheVariants.{ShortBuffer, WrongMessage, WrongNumber, OutOfRange}
use Rattle.base_messages.specs.declared.Refusal.TheVariants.{EqualKeys, BadBlock, BadContent, BadSum, BadMarks}
use Rattle.base_messages.specs.declared.Refusal.TheVariants.{BadRows, NoRow, MoreRows}

abbrev pub number_of : Refusal → ℕ
number_of BadName = bad_name
number_of BadPartyOrCode = bad_party_or_code
number_of OutOfTurn = out_of_turn
number_of WrongLength = wrong_length
number_of ShortBuffer = short_buffer
number_of WrongMessage = wrong_message
number_of WrongNumber = wrong_number
number_of OutOfRange = out_of_range
number_of EqualKeys = equal_keys
number_of BadBlock = bad_block
number_of BadContent = bad_content
number_of BadSum = bad_sum
number_of BadMarks = bad_marks
number_of BadRows = bad_rows
number_of NoRow = no_row
number_of MoreRows = more_rows

-- 0 where nothing refuses
abbrev pub why_of : {A : Type 0} → Result A Refusal → ℕ
why_of (Ok _) = 0
why_of (Err refusal) = number_of refusal

-- no refusal has the number of a call that nothing refuses
pub numbered : (refusal : Refusal) → eqb (number_of refusal) 0 ≡ false
numbered BadName = refl
numbered BadPartyOrCode = refl
numbered OutOfTurn = refl
numbered WrongLength = refl
numbered ShortBuffer = refl
numbered WrongMessage = refl
numbered WrongNumber = refl
numbered OutOfRange = refl
numbered EqualKeys = refl
numbered BadBlock = refl
numbered BadContent = refl
numbered BadSum = refl
numbered BadMarks = refl
numbered BadRows = refl
numbered NoRow = refl
numbered MoreRows = refl

pub not_0 : (refusal : Refusal) → number_of refusal ≡ 0 → ⊥
not_0 refusal e = eqb-false _ 0 (numbered refusal) e

-- goes on if the test holds, else e is why not: `unless`, where code has a result
abbrev pub or_refuse : {E : Type 0} → Bool → E → Result (Unit {0}) E → Result (Unit {0}) E
or_refuse b e rest = cond b rest (Err e)

-- a test of such a chain, and its number in the chain of numbers
pub or_unless : (b : Bool) (e : Refusal) (rest : Result (Unit {0}) Refusal) {r : ℕ} → why_of rest ≡ r
    → why_of (or_refuse b e rest) ≡ unless b (number_of e) r
unfolding unless
or_unless true e rest h = h
or_unless false e rest h = refl
