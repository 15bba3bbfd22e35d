-- A door's four parts as one value, and its calls (01, "A door's list of calls"): what a call answers is what a list's
-- step does, so that a run of calls on this value is a list of calls. Assumes nothing.
use Rattle.std.specs.Prelude.{List, ℕ, length}
use Rattle.call_dealer.specs.Clock as ClockCalls
use Rattle.call_dealer.specs.Clock.{ClockDeal}
use Rattle.call_party.specs.declared.Party.{Party}
use Rattle.call_party.specs.declared.PartyAnswer.{PartyAnswer}
use Rattle.call_party.specs.declared.TrialAnswer.{TrialAnswer}
use Rattle.call_party.specs.Party as BoxCalls
use Rattle.door_lists.specs.Lists.{Box, camera, office, World, Call, deal_by_clock, trial, Step, step}
use Rattle.door_lists.specs.Lists.{Body, vector, word, answer, Event, dealt, loaded, tried, sent, dropped, joined}
use Rattle.door_lists.specs.Lists.{refused}
use Rattle.door_parts.specs.declared.Side.{Side}
use Rattle.door_parts.specs.declared.Side.TheVariants.{Camera, Office}
use Rattle.door_parts.specs.declared.Door.{Door}
use Rattle.door_parts.specs.declared.DoorAnswer.{DoorAnswer}
use Rattle.door_parts.specs.declared.PlacedAnswer.{PlacedAnswer}
use Rattle.door_parts.specs.declared.TriedAnswer.{TriedAnswer}

abbrev pub box_of : Side → Box
box_of Camera = camera
box_of Office = office

-- the four parts as a list of calls has them, and back
abbrev pub boxes : Door → Box → Party
boxes d camera = d.camera
boxes d office = d.office

abbrev pub world : Door → World
world d = record { dealer = d.dealer; box = boxes d; lock = d.lock }

abbrev pub back : World → Door
back w = record { dealer = w.dealer; camera = w.box camera; office = w.box office; lock = w.lock }

-- the door with a box's next state
abbrev pub with_box : Door → Side → Party → Door
with_box d Camera p = record { dealer = d.dealer; camera = p; office = d.office; lock = d.lock }
with_box d Office p = record { dealer = d.dealer; camera = d.camera; office = p; lock = d.lock }

-- what a box answers, as the door's answer
abbrev pub box_answer : Door → Side → PartyAnswer → DoorAnswer
box_answer d side a = record { why = a.why; word = a.word; door = with_box d side a.party }

-- why a call was refused, 0 if it was not
abbrev pub event_why : Event → ℕ
event_why (dealt d f) = 0
event_why (loaded b n) = 0
event_why (tried b name t) = 0
event_why (sent b n x) = 0
event_why (dropped b) = 0
event_why (joined n bit) = 0
event_why (refused why) = why

-- the word of call 3, the share of call 4, what a join reported, else 0
abbrev pub body_word : Body → ℕ
body_word (vector v m) = 0
body_word (word w) = w
body_word (answer a) = a

abbrev pub event_word : Event → ℕ
event_word (dealt d f) = 0
event_word (loaded b n) = 0
event_word (tried b name t) = 0
event_word (sent b n x) = body_word x
event_word (dropped b) = 0
event_word (joined n bit) = bit
event_word (refused why) = 0

-- a step of a list, as the door's answer
abbrev pub step_answer : Step → DoorAnswer
step_answer s = record { why = event_why s.event; word = event_word s.event; door = back s.world }

-- what a call answers: what the list's step does to the four parts
unfoldable pub call : Door → Call → DoorAnswer
call d c = step_answer (step (world d) c)

-- what a deal by the clock answers: the list's step, and the place
unfoldable pub clock_call : Door → ClockDeal → List ℕ → List ℕ → PlacedAnswer
clock_call d k out0 out1 =
    let a : DoorAnswer = call d (deal_by_clock k out0 out1) in
    record {
      why = a.why;
      place = (ClockCalls.deal_by_clock d.dealer k (length out0) (length out1)).place;
      door = a.door;
    }

-- what a trial answers: the list's step, and what is told
unfoldable pub trial_call : Door → Side → List ℕ → TriedAnswer
trial_call d side h =
    let a : DoorAnswer = call d (trial (box_of side) h) in
    let t : TrialAnswer = BoxCalls.trial (boxes d (box_of side)) h in
    record { why = a.why; name = t.name; terms = t.terms; door = a.door }
