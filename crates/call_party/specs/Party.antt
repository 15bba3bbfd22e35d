-- A box (01, "One check at a box" and "When a call is turned down"; 02, §1, §4 and §7): for each call why it is turned
-- down, the next state, what it sends or tells, and what it leaves in a lent buffer, for any state and anything handed
-- in. Assumes nothing.
-- [SPEC 12.5, 13.3, 15.3, 16.3, 17.5, 18.5, 19.2, 24.2, 24.5 to 24.9, 24.13, 34.2]
use Rattle.std.specs.Prelude.{Bool, cond, ◌&&◌, not, List, ℕ, suc, ◌-◌, eqb, leb, length, replicate}
use Rattle.base_algebra.specs.Word.{add}
use Rattle.base_words.specs.List.{over}
use Rattle.measure_table.specs.declared.Terms.{Terms}
use Rattle.measure_table.specs.Measure.{most_elements, is_code, length_fits, all_in_range, own_word, carried}
use Rattle.share_vectors.specs.Share as Share
use Rattle.share_vectors.specs.Share.{plus}
use Rattle.base_messages.specs.declared.Label.{Label}
use Rattle.base_messages.specs.declared.Identity.{Identity}
use Rattle.base_messages.specs.Messages.{bad_name, bad_party_or_code, out_of_turn, wrong_length, short_buffer}
use Rattle.base_messages.specs.Messages.{wrong_message}
use Rattle.base_messages.specs.Messages.{wrong_number, out_of_range, vector_kind, word_kind, camera_party, office_party}
use Rattle.base_messages.specs.Messages.{unless, if_taken, name_fits, padded, is_key, is_name, expected}
use Rattle.half_content.specs.declared.Set.{Set}
use Rattle.half_content.specs.Content.{fill, no_terms, no_set}
use Rattle.half_seal.specs.Half.{why_not, opened_set, opened_name}
use Rattle.call_party.specs.declared.Check.{Check}
use Rattle.call_party.specs.declared.Party.{Party}
use Rattle.call_party.specs.declared.PartyAnswer.{PartyAnswer}
use Rattle.call_party.specs.declared.TrialAnswer.{TrialAnswer}

-- ---- phases: with no set open, and after calls 1, 2 and 3

abbrev pub idle_phase : ℕ
idle_phase = 0

abbrev pub loaded_phase : ℕ
loaded_phase = 1

abbrev pub masked_phase : ℕ
masked_phase = 2

abbrev pub taken_phase : ℕ
taken_phase = 3

-- ---- states

-- "with no set open all of it is zero, code and L included"
unfoldable pub no_check : Check
no_check = record { phase = idle_phase; set = no_set; masked = replicate most_elements 0; own = 0; word = 0 }

-- .. and with no set waiting all of that
unfoldable pub idle : Identity → ℕ → Party
idle who last = record { who = who; last = last; check = no_check; waiting = no_set }

-- the box with another check
abbrev pub with_check : Party → Check → Party
with_check s check = record { who = s.who; last = s.last; check = check; waiting = s.waiting }

-- whether a set is open, and whether one waits: a set that a load leaves has an L that is not 0 [SPEC 12.8, 12.17]
abbrev pub is_open : Party → Bool
is_open s = not (eqb s.check.phase idle_phase)

abbrev pub waits : Party → Bool
waits s = not (eqb s.waiting.terms.n 0)

-- 16 zero bytes, where no name is told
abbrev pub no_name : List ℕ
no_name = replicate 16 0

abbrev pub nobody : Identity
nobody = record { name = no_name; party = 0; key = replicate 32 0 }

unfoldable pub no_party : Party
no_party = idle nobody 0

-- ---- what a call answers: why not, the state that follows, and what is sent. A refused one leaves the state as it was
-- and sends nothing.
abbrev pub answered : ℕ → Party → Party → ℕ → PartyAnswer
answered why next s word = record { why = why; party = if_taken why next s; word = if_taken why word 0 }

-- ---- start

unfoldable pub why_not_party : List ℕ → ℕ → List ℕ → ℕ
why_not_party name party key =
    unless (name_fits name) bad_name
    (unless (leb party office_party) bad_party_or_code (unless (is_key key) wrong_length 0))

unfoldable pub start_party : List ℕ → ℕ → List ℕ → ℕ → PartyAnswer
start_party name party key floor =
    answered (why_not_party name party key)
    (idle (record { name = padded name; party = party; key = key }) floor) no_party 0

-- ---- the turn

-- 3: "or the state handed in holds a phase or party, or at its phase a code or L, that no call leaves"
-- [SPEC 12.16, 23.3]
unfoldable pub state_fits : ℕ → ℕ → Terms → Bool
state_fits party phase terms =
    leb party office_party
    && cond (eqb phase idle_phase) (eqb terms.code 0 && eqb terms.n 0)
    (leb phase taken_phase && (is_code terms.code && length_fits terms))

-- 02, §1: "in a state handed in, that" (a waiting number not above the open one), "or a waiting code or L that no load
-- leaves, is 01's third". No call leaves a waiting set with none open, or with none waiting a waiting code.
-- [SPEC 12.19, 23.3]
unfoldable pub waiting_fits : ℕ → ℕ → ℕ → Terms → Bool
waiting_fits phase number waiting_number terms =
    cond (eqb terms.n 0) (eqb terms.code 0)
    (not (eqb phase idle_phase) && (leb (suc number) waiting_number && (is_code terms.code && length_fits terms)))

unfoldable pub sound : Party → Bool
sound s =
    state_fits s.who.party s.check.phase s.check.set.terms
    && waiting_fits s.check.phase s.check.set.number s.waiting.number s.waiting.terms

-- 3: "A box call is out of its turn" [SPEC 12.15, 23.3]
unfoldable pub in_turn : ℕ → Party → Bool
in_turn phase s = eqb s.check.phase phase && sound s

-- ---- load

-- a half's number has to be above this: the last number, and with a set open its number too [SPEC 23.7]
unfoldable pub high_water : ℕ → ℕ → ℕ → ℕ
high_water phase number last = cond (not (eqb phase idle_phase) && leb last number) number last

-- 02, §1: "A box may load one further set while another is still open. .. A load with a set already waiting is out of
-- turn" [SPEC 15.1, 24.5]
abbrev pub load_turn : Party → Bool
load_turn s = not (waits s) && sound s

unfoldable pub why_not_load : Party → List ℕ → ℕ
why_not_load s h =
    unless (load_turn s) out_of_turn
    (why_not s.who.key s.who.name s.who.party
    (high_water s.check.phase s.check.set.number s.last) h)

-- the check that a set opens
unfoldable pub opened : Set → Check
opened set = record { phase = loaded_phase; set = set; masked = replicate most_elements 0; own = 0; word = 0 }

-- the set is opened, or waits for the open one to end; its number is spent in either case [SPEC 15.3, 15.4, 15.6]
unfoldable pub loaded : Party → Set → Party
loaded s set = record {
  who = s.who;
  last = set.number;
  check = cond (is_open s) s.check (opened set);
  waiting = cond (is_open s) set no_set;
}

unfoldable pub load : Party → List ℕ → PartyAnswer
load s h = answered (why_not_load s h) (loaded s (opened_set s.who.key h)) s 0

-- ---- trial (02, §7)

-- "says what a load would say, with the door, measure code and L if it would be taken": the name and the terms that
-- stand in the half; of one that is turned down the number, and zeros. The state goes in by value and none comes back:
-- "The box's own state and last number are untouched", since the host still has them [SPEC 34.1 to 34.3]
unfoldable pub trial : Party → List ℕ → TrialAnswer
trial s h =
    let why : ℕ = why_not_load s h in
    record {
      why = why;
      name = if_taken why (opened_name s.who.key h) no_name;
      terms = if_taken why (opened_set s.who.key h).terms no_terms;
    }

-- ---- call 2

unfoldable pub why_not_mask : Party → List ℕ → ℕ → ℕ
why_not_mask s v room =
    unless (in_turn loaded_phase s) out_of_turn
    (unless (eqb (length v) s.check.set.terms.n) wrong_length
    (unless (leb s.check.set.terms.n room) short_buffer
    (unless (all_in_range s.check.set.terms v) out_of_range 0)))

-- "Mask its own vector: element plus mask, as words" [SPEC 16.2]
unfoldable pub masked_vector : Set → ℕ → List ℕ → List ℕ
masked_vector set party v = plus set.terms.n (carried set.terms party v) set.mask

-- "The state keeps the masked vector and own" [SPEC 16.4]
unfoldable pub masked : Party → List ℕ → Party
masked s v =
    with_check s
    (record {
      phase = masked_phase;
      set = s.check.set;
      masked = fill (masked_vector s.check.set s.who.party v);
      own = own_word s.check.set.terms v;
      word = 0;
    })

unfoldable pub mask : Party → List ℕ → ℕ → PartyAnswer
mask s v room = answered (why_not_mask s v room) (masked s v) s 0

unfoldable pub mask_out : Party → List ℕ → List ℕ → List ℕ
mask_out s v out =
    if_taken (why_not_mask s v (length out)) (over 0 (masked_vector s.check.set s.who.party v) out) out

-- ---- messages: the tests of calls 3 and 4, each at its phase, with a message of its kind. `lengths`: whether all that
-- came is as long as 4 asks.
unfoldable pub why_not_message : ℕ → ℕ → Party → Label → List ℕ → Bool → ℕ
why_not_message phase kind s l name lengths =
    unless (in_turn phase s) out_of_turn
    (unless lengths wrong_length
    (unless (expected kind s.who.name (office_party - s.who.party) l name) wrong_message
    (unless (eqb l.number s.check.set.number) wrong_number 0)))

-- ---- call 3

unfoldable pub why_not_take : Party → Label → List ℕ → List ℕ → ℕ
why_not_take s l name v =
    why_not_message masked_phase vector_kind s l name (is_name name && eqb (length v) s.check.set.terms.n)

-- its share, from its own masked vector and the other's: MX is party 0's, MY party 1's [SPEC 17.2]
unfoldable pub box_share : ℕ → ℕ → ℕ → List ℕ → List ℕ → List ℕ → List ℕ → ℕ
box_share party n c own_masked other x y =
    cond (eqb party camera_party) (Share.share party n c own_masked other x y)
    (Share.share party n c other own_masked x y)

-- its word, by the sign that the set's terms and mark give (Share.`box_word`) [SPEC 17.4]
unfoldable pub word_of : Set → ℕ → List ℕ → ℕ → List ℕ → ℕ
word_of set party own_masked own other =
    Share.box_word set.terms set.mark
    (box_share party set.terms.n set.c own_masked other set.x set.y) own set.r

unfoldable pub worded : Party → ℕ → Party
worded s w =
    with_check s
    (record { phase = taken_phase; set = s.check.set; masked = s.check.masked; own = s.check.own; word = w })

unfoldable pub take_vector : Party → Label → List ℕ → List ℕ → PartyAnswer
take_vector s l name v =
    let w : ℕ = word_of s.check.set s.who.party s.check.masked s.check.own v in
    answered (why_not_take s l name v) (worded s w) s w

-- ---- call 4

unfoldable pub why_not_finish : Party → Label → List ℕ → ℕ
why_not_finish s l name = why_not_message taken_phase word_kind s l name (is_name name)

-- 02, §1: "The waiting set becomes the open one when the open one is answered or dropped" [SPEC 18.5, 19.2]
unfoldable pub next_check : Set → Check
next_check waiting = cond (eqb waiting.terms.n 0) no_check (opened waiting)

unfoldable pub closed : Party → Party
closed s = record { who = s.who; last = s.last; check = next_check s.waiting; waiting = no_set }

-- "With Z the sum of both words", over the set's width [SPEC 18.2]
unfoldable pub answer_of : Set → ℕ → ℕ → ℕ → ℕ
answer_of set party word other = Share.answer set.width party set.key set.seed (add word other)

unfoldable pub finish : Party → Label → List ℕ → ℕ → PartyAnswer
finish s l name w = answered (why_not_finish s l name) (closed s) s
    (answer_of s.check.set s.who.party s.check.word w)

-- ---- drop

unfoldable pub why_not_drop : Party → ℕ
why_not_drop s = unless (is_open s && sound s) out_of_turn 0

unfoldable pub drop_set : Party → PartyAnswer
drop_set s = answered (why_not_drop s) (closed s) s 0
