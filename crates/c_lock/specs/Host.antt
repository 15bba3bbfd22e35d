-- What the lock's C host gets (01, "One check at a box"): "The C host hands in the padded name and the lock's last
-- number beside the two answers; it gets 0 or 1, or 100 plus the refusal number, and after a 0 or 1 the joined number
-- is the last one." Assumes nothing. [SPEC 21.1 to 21.4]
use Rattle.std.specs.Prelude.{cond, List, ℕ, ◌+◌, replicate}
use Rattle.base_messages.specs.declared.Label.{Label}
use Rattle.base_messages.specs.Messages.{wrong_length, if_taken, is_name}
use Rattle.call_lock.specs.declared.LockAnswer.{LockAnswer}
use Rattle.call_lock.specs.Lock.{join}

-- a label from the numbers that are handed in
unfoldable pub label : ℕ → ℕ → ℕ → Label
label kind sender number = record { kind = kind; sender = sender; number = number }

-- the join on the name and number that are handed in; a name of another length is an input of a wrong length (4)
-- [SPEC 21.6]
unfoldable pub answer_on : List ℕ → ℕ → Label → List ℕ → ℕ → Label → List ℕ → ℕ → LockAnswer
answer_on name last l0 name0 answer0 l1 name1 answer1 =
    cond (is_name name) (join (record { name = name; last = last }) l0 name0 answer0 l1 name1 answer1)
    (record { why = wrong_length; lock = record { name = replicate 16 0; last = last }; bit = 0 })

-- "100 plus the refusal number"
abbrev pub refused_from : ℕ
refused_from = 100

unfoldable pub c_join : List ℕ → ℕ → Label → List ℕ → ℕ → Label → List ℕ → ℕ → ℕ
c_join name last l0 name0 answer0 l1 name1 answer1 =
    let a : LockAnswer = answer_on name last l0 name0 answer0 l1 name1 answer1 in
    if_taken a.why a.bit (refused_from + a.why)

unfoldable pub c_last : List ℕ → ℕ → Label → List ℕ → ℕ → Label → List ℕ → ℕ → ℕ
c_last name last l0 name0 answer0 l1 name1 answer1 = (answer_on name last l0 name0 answer0 l1 name1 answer1).lock.last
