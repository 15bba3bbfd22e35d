-- The lock (01, "One check at a box" and "When a call is turned down"): why a start or a join is turned down, the next
-- state, and what it reports, for any state and anything handed in. Assumes nothing.
-- [SPEC 13.1, 13.4, 13.5, 20.1 to 20.4, 24.3, 24.10]
use Rattle.std.specs.Prelude.{◌&&◌, List, ℕ, eqb, leb, ltb, replicate}
use Rattle.base_algebra.specs.Word.{add}
use Rattle.base_messages.specs.declared.Label.{Label}
use Rattle.base_messages.specs.Messages.{bad_name, wrong_length, wrong_message, wrong_number, bad_sum, answer_kind}
use Rattle.base_messages.specs.Messages.{camera_party, office_party, unless, if_taken, name_fits, padded, is_name}
use Rattle.base_messages.specs.Messages.{expected}
use Rattle.call_lock.specs.declared.Lock.{Lock}
use Rattle.call_lock.specs.declared.LockAnswer.{LockAnswer}

unfoldable pub no_lock : Lock
no_lock = record { name = replicate 16 0; last = 0 }

-- a refused call's answer: "no state .. changes"
abbrev pub refused : ℕ → Lock → LockAnswer
refused why s = record { why = why; lock = s; bit = 0 }

unfoldable pub why_not_lock : List ℕ → ℕ
why_not_lock name = unless (name_fits name) bad_name 0

unfoldable pub start_lock : List ℕ → ℕ → LockAnswer
start_lock name floor =
    let why : ℕ = why_not_lock name in
    record { why = why; lock = if_taken why (record { name = padded name; last = floor }) no_lock; bit = 0 }

-- "The lock takes party 0's answer first and party 1's second, and joins by summing the two" [SPEC 20.1, 20.2]
unfoldable pub why_not_join : Lock → Label → List ℕ → ℕ → Label → List ℕ → ℕ → ℕ
why_not_join s l0 name0 answer0 l1 name1 answer1 =
    unless (is_name name0 && is_name name1) wrong_length
    (unless
    (expected answer_kind s.name camera_party l0 name0 && expected answer_kind s.name office_party l1 name1)
    wrong_message
    (unless (ltb s.last l0.number && eqb l1.number l0.number) wrong_number
    (unless (leb (add answer0 answer1) 1) bad_sum 0)))

unfoldable pub join : Lock → Label → List ℕ → ℕ → Label → List ℕ → ℕ → LockAnswer
join s l0 name0 answer0 l1 name1 answer1 =
    let why : ℕ = why_not_join s l0 name0 answer0 l1 name1 answer1 in
    record {
      why = why;
      lock = if_taken why (record { name = s.name; last = l0.number }) s;
      bit = if_taken why (add answer0 answer1) 0;
    }
