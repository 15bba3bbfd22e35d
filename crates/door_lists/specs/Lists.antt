-- A door's list of calls (01, "A door's list of calls"): the calls by the definitions that the contracts of dealer,
-- party and lock name, what they do, and what is asked of what is handed in. A list stands newest call first.
-- Assumes nothing. [SPEC 25.1 to 25.6, 26.1 to 26.4, 26.6]
use Rattle.std.specs.Prelude.{◌≡◌, Bool, true, false, List, [], ◌∷◌, ℕ, ◌/◌, ◌^◌, ◌<◌, length}
use Rattle.measure_table.specs.declared.Terms.{Terms}
use Rattle.base_messages.specs.declared.Label.{Label}
use Rattle.base_messages.specs.Messages.{camera_party, office_party, vector_kind, word_kind, answer_kind, if_taken}
use Rattle.base_messages.specs.Messages.{padded}
use Rattle.half_content.specs.Content.{block_bytes, part}
use Rattle.half_seal.specs.Half.{block_at, set_number}
use Rattle.call_dealer.specs.declared.Dealer.{Dealer}
use Rattle.call_dealer.specs.declared.DealerAnswer.{DealerAnswer}
use Rattle.call_dealer.specs.declared.ClockAnswer.{ClockAnswer}
use Rattle.call_dealer.specs.Dealer as DealerCalls
use Rattle.call_dealer.specs.Clock as ClockCalls
use Rattle.call_dealer.specs.Clock.{ClockDeal, deal_at}
use Rattle.half_deal.specs.Dealing.{Deal}
use Rattle.call_dealer.specs.Dealer.{half_size}
use Rattle.call_party.specs.declared.Party.{Party}
use Rattle.call_party.specs.declared.PartyAnswer.{PartyAnswer}
use Rattle.call_party.specs.declared.TrialAnswer.{TrialAnswer}
use Rattle.call_party.specs.Party as BoxCalls
use Rattle.call_lock.specs.declared.Lock.{Lock}
use Rattle.call_lock.specs.declared.LockAnswer.{LockAnswer}
use Rattle.call_lock.specs.Lock as LockCalls

-- ---- the four parts

-- party 0 and party 1
pub data Box : Type 0 where
  camera office : Box

abbrev pub party_of : Box → ℕ
party_of camera = camera_party
party_of office = office_party

abbrev pub other : Box → Box
other camera = office
other office = camera

abbrev pub same_box : Box → Box → Bool
same_box camera camera = true
same_box camera office = false
same_box office camera = false
same_box office office = true

-- the states of the four parts
pub record World : Type 0 where
  pub dealer : Dealer
  pub box : Box → Party
  pub lock : Lock

-- "A list begins with what accepted starts return: dealer, camera box, office box and lock, one name, any floors, each
-- box with the key the dealer has for its party" [SPEC 25.1, 25.2]
pub record Starts : Type 0 where
  pub name : List ℕ
  pub key : Box → List ℕ
  pub dealer_floor : ℕ
  pub box_floor : Box → ℕ
  pub lock_floor : ℕ

module _ (s : Starts) where
  abbrev pub dealer_start : DealerAnswer
  dealer_start = DealerCalls.start_dealer s.name (s.key camera) (s.key office) s.dealer_floor

  abbrev pub box_start : Box → PartyAnswer
  box_start b = BoxCalls.start_party s.name (party_of b) (s.key b) (s.box_floor b)

  abbrev pub lock_start : LockAnswer
  lock_start = LockCalls.start_lock s.name s.lock_floor

  abbrev pub beginning : World
  beginning = record { dealer = dealer_start.dealer; box = λ b. (box_start b).party; lock = lock_start.lock }

pub record Started (s : Starts) : Type 0 where
  pub dealer_taken : (dealer_start s).why ≡ 0
  pub box_taken : (b : Box) → (box_start s b).why ≡ 0
  pub lock_taken : (lock_start s).why ≡ 0

-- ---- calls

-- what a message carries, and its content
pub record Message (A : Type 0) : Type 0 where
  pub label : Label
  pub name : List ℕ
  pub content : A

-- "It holds deals, loads, calls 2 to 4, drops and joins in any order, refused ones included": a call with all that it
-- is handed beside its part's state [SPEC 25.3]
pub data Call : Type 0 where
  -- what is to be dealt, by a threshold or between two marks, and the two buffers lent. 02, §4's deal is a call of the
  -- list too: "A later request's calls on these parts may stand in it too" [SPEC 25.5]
  deal : Deal → List ℕ → List ℕ → Call
  -- the same by the clock (02, §5)
  deal_by_clock : ClockDeal → List ℕ → List ℕ → Call
  -- a half
  load : Box → List ℕ → Call
  -- a half that is only tried (02, §7)
  trial : Box → List ℕ → Call
  -- call 2: the box's own vector, and the buffer lent
  mask : Box → List ℕ → List ℕ → Call
  -- call 3: the other's masked vector
  take : Box → Message (List ℕ) → Call
  -- call 4: the other's word
  finish : Box → Message ℕ → Call
  drop : Box → Call
  -- party 0's answer and party 1's
  join : Message ℕ → Message ℕ → Call

-- what an accepted call 2, 3 or 4 sends, and for call 2 the
-- vector handed in before it: a masked vector, a word, an answer
pub data Body : Type 0 where
  vector : List ℕ → List ℕ → Body
  word : ℕ → Body
  answer : ℕ → Body

-- what a call of the list did
pub data Event : Type 0 where
  -- what was dealt, and the bytes that were written for each box
  dealt : Deal → (Box → List ℕ) → Event
  -- which number was loaded
  loaded : Box → ℕ → Event
  -- which door, code and L were told of a half that would be taken
  tried : Box → List ℕ → Terms → Event
  -- "An accepted call 2, 3 or 4 sends its masked vector, word
  -- or answer under its box's party and the open set's number" [SPEC 25.6]
  sent : Box → ℕ → Body → Event
  dropped : Box → Event
  -- under which number, and what was reported
  joined : ℕ → ℕ → Event
  -- and why
  refused : ℕ → Event

-- "Each call gets its part's state as the last call on that part left it, and nothing else writes it" [SPEC 25.4]
pub record Step : Type 0 where
  pub world : World
  pub event : Event

abbrev pub put : {A : Type 0} → (Box → A) → Box → A → Box → A
put f camera a camera = a
put f camera a office = f office
put f office a camera = f camera
put f office a office = a

abbrev pub event_of : ℕ → Event → Event
event_of why e = if_taken why e (refused why)

abbrev pub on_dealer : World → ℕ → Dealer → Event → Step
on_dealer w why next e =
    record { world = record { dealer = next; box = w.box; lock = w.lock }; event = event_of why e }

abbrev pub on_box : World → Box → PartyAnswer → Event → Step
on_box w b a e = record {
  world = record { dealer = w.dealer; box = put w.box b a.party; lock = w.lock };
  event = event_of a.why e;
}

abbrev pub on_lock : World → LockAnswer → Event → Step
on_lock w a e =
    record { world = record { dealer = w.dealer; box = w.box; lock = a.lock }; event = event_of a.why e }

-- "An accepted call writes only from the start of an output buffer: a deal the whole blocks of one half in each of two,
-- call 2 its L words": what was written is the start of the buffer as the call leaves it [SPEC 22.6]
abbrev pub written : Dealer → Deal → List ℕ → List ℕ → Box → List ℕ
written s d out0 out1 b = part 0 (half_size d.terms.n) (DealerCalls.deal_out s d out0 out1 (party_of b))

abbrev pub written_by_clock : Dealer → ClockDeal → List ℕ → List ℕ → Box → List ℕ
written_by_clock s k out0 out1 b = part 0 (half_size k.terms.n) (ClockCalls.clock_out s k out0 out1 (party_of b))

abbrev pub masked_by : Party → List ℕ → List ℕ → List ℕ
masked_by s v out = part 0 s.check.set.terms.n (BoxCalls.mask_out s v out)

abbrev pub step : World → Call → Step
step w (deal d out0 out1) =
    let s : Dealer = w.dealer in
    let a : DealerAnswer = DealerCalls.deal s d (length out0) (length out1) in
    on_dealer w a.why a.dealer (dealt d (written s d out0 out1))
step w (deal_by_clock k out0 out1) =
    let s : Dealer = w.dealer in
    let a : ClockAnswer = ClockCalls.deal_by_clock s k (length out0) (length out1) in
    on_dealer w a.why a.dealer (dealt (deal_at k) (written_by_clock s k out0 out1))
step w (load b h) = on_box w b (BoxCalls.load (w.box b) h) (loaded b (set_number h))
-- "The box's own state and last number are untouched": the answer has no state, and so none is put back (02, §7)
-- [SPEC 34.3]
step w (trial b h) =
    let a : TrialAnswer = BoxCalls.trial (w.box b) h in
    record { world = w; event = event_of a.why (tried b a.name a.terms) }
step w (mask b v out) =
    let s : Party = w.box b in
    on_box w b (BoxCalls.mask s v (length out)) (sent b s.check.set.number (vector v (masked_by s v out)))
step w (take b m) =
    let s : Party = w.box b in
    let a : PartyAnswer = BoxCalls.take_vector s m.label m.name m.content in
    on_box w b a (sent b s.check.set.number (word a.word))
step w (finish b m) =
    let s : Party = w.box b in
    let a : PartyAnswer = BoxCalls.finish s m.label m.name m.content in
    on_box w b a (sent b s.check.set.number (answer a.word))
step w (drop b) = on_box w b (BoxCalls.drop_set (w.box b)) (dropped b)
step w (join m n) =
    let a : LockAnswer = LockCalls.join w.lock m.label m.name m.content n.label n.name n.content in
    on_lock w a (joined m.label.number a.bit)

-- the parts after a list of calls, and its events, newest first
abbrev pub after : World → List Call → World
after w [] = w
after w (c ∷ cs) = (step (after w cs) c).world

abbrev pub events : World → List Call → List Event
events w [] = []
events w (c ∷ cs) = (step (after w cs) c).event ∷ events w cs

-- ---- what is asked of what is handed in

pub data In {A : Type 0} (a : A) : List A → Type 0 where
  here : {x : A} {l : List A} → a ≡ x → In a (x ∷ l)
  there : {x : A} {l : List A} → In a l → In a (x ∷ l)

-- what is handed in fits its type: only of a dealt number is
-- that needed, which has 64 bits ("A set has a 64-bit number") [SPEC 2.6, 26.4]
abbrev pub Fits : Call → Type 0
Fits (deal d out0 out1) = d.number < 2 ^ 64
Fits (deal_by_clock k out0 out1) = k.number < 2 ^ 64
Fits (load b h) = Unit {0}
Fits (trial b h) = Unit {0}
Fits (mask b v out) = Unit {0}
Fits (take b m) = Unit {0}
Fits (finish b m) = Unit {0}
Fits (drop b) = Unit {0}
Fits (join m n) = Unit {0}

-- "Each whole block of 512 bytes handed to a load equals one
-- that an earlier accepted deal of the list wrote for that box" [SPEC 26.1]
abbrev pub Written : List Event → Box → List ℕ → Type 0
Written e b block = (d : Deal) × (f : Box → List ℕ) × In (dealt d f) e
    × (i : ℕ) × (i < length (f b) / block_bytes) × (block ≡ block_at (f b) i)

-- "A message of the kind the call takes, under this door's padded name, was sent earlier in the list, with the same
-- sender, number and content. Any other message is free": S b n content says that box b sent it under n
-- [SPEC 26.2, 26.3]
abbrev pub Sent : {A : Type 0} → List ℕ → ℕ → (Box → ℕ → A → Type 0) → Message A → Type 0
Sent door kind S m = m.label.kind ≡ kind → m.name ≡ door
    → (b : Box) × (m.label.sender ≡ party_of b) × S b m.label.number m.content

abbrev pub SentVector : List Event → Box → ℕ → List ℕ → Type 0
SentVector e b n content = (v : List ℕ) × In (sent b n (vector v content)) e

abbrev pub SentWord : List Event → Box → ℕ → ℕ → Type 0
SentWord e b n content = In (sent b n (word content)) e

abbrev pub SentAnswer : List Event → Box → ℕ → ℕ → Type 0
SentAnswer e b n content = In (sent b n (answer content)) e

abbrev pub Admits : List ℕ → List Event → Call → Type 0
Admits door e (deal d out0 out1) = Unit {0}
Admits door e (deal_by_clock k out0 out1) = Unit {0}
Admits door e (load b h) = (i : ℕ) → i < length h / block_bytes → Written e b (block_at h i)
-- of blocks handed to a trial nothing is asked [SPEC 26.6]
Admits door e (trial b h) = Unit {0}
Admits door e (mask b v out) = Unit {0}
Admits door e (take b m) = Sent door vector_kind (SentVector e) m
Admits door e (finish b m) = Sent door word_kind (SentWord e) m
Admits door e (drop b) = Unit {0}
Admits door e (join m n) = Sent door answer_kind (SentAnswer e) m × Sent door answer_kind (SentAnswer e) n

module _ (s : Starts) where
  abbrev pub history : List Call → List Event
  history cs = events (beginning s) cs

  abbrev pub Admissible : List Call → Type 0
  Admissible [] = Unit {0}
  Admissible (c ∷ cs) = Admissible cs × Fits c × Admits (padded s.name) (history cs) c
