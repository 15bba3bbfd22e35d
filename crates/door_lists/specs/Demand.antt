-- Demand 3 (01, "A door's list of calls"): what a list's accepted calls were, and eight claims: seven over every list,
-- and one of what the verdict is. No proof stands here. Assumes nothing.
-- [SPEC 3.6, 25.6 to 25.8, 27.1 to 27.5, 28.1 to 28.13]
use Rattle.std.specs.Prelude.{◌≡◌, Bool, true, false, cond, ◌&&◌, List, [], ◌∷◌, ◌++◌, map, ◌⊎◌, ℕ, suc, ◌+◌, ◌-◌, ◌^◌}
use Rattle.std.specs.Prelude.{◌<◌, ◌≤◌, eqb, length, drop as without, ℤ}
use Rattle.std.specs.Int.Signed.{le_z}
use Rattle.base_algebra.specs.Word.{signed}
use Rattle.measure_table.specs.declared.Terms.{Terms}
use Rattle.measure_table.specs.declared.Rule.{Rule}
use Rattle.measure_table.specs.declared.Rule.TheVariants.{Threshold, Between}
use Rattle.measure_table.specs.Measure.{measure, is_code, length_fits, all_in_range, meets, rule_fits, in_order}
use Rattle.measure_table.specs.Measure.{mark_of}
use Rattle.base_messages.specs.Messages.{vector_kind, word_kind, answer_kind, padded}
use Rattle.half_deal.specs.Dealing.{Deal}
use Rattle.call_day.specs.Table.{day}
use Rattle.call_day.specs.Claims.{Good, InRow}
use Rattle.call_dealer.specs.Dealer.{half_size}
use Rattle.call_dealer.specs.Clock.{ClockDeal, row_deal}
use Rattle.call_party.specs.Party.{closed}
use Rattle.door_lists.specs.Lists.{Box, camera, office, party_of, other, same_box, put, World, Starts, Started}
use Rattle.door_lists.specs.Lists.{beginning, Message, Call, deal, deal_by_clock, load, trial, mask, take}
use Rattle.door_lists.specs.Lists.{finish, drop, join, Body, vector, word, answer, Event, dealt, loaded, tried}
use Rattle.door_lists.specs.Lists.{sent, dropped, joined, refused, step, after, events, In, SentVector, SentWord}
use Rattle.door_lists.specs.Lists.{SentAnswer, history, Admissible}

-- ---- what a list's accepted calls were

-- By kind and part: what an event is if it is of that kind, else nothing. Deals, vectors, words, last numbers and open
-- sets go through these five, and tell no kinds of events apart themselves.

-- what was dealt
abbrev pub deals_in : Event → List Deal
deals_in (dealt d f) = d ∷ []
deals_in (loaded c n) = []
deals_in (tried c name t) = []
deals_in (sent c n x) = []
deals_in (dropped c) = []
deals_in (joined n bit) = []
deals_in (refused why) = []

-- which number box b loaded
abbrev pub loads_by : Box → Event → List ℕ
loads_by b (dealt d f) = []
loads_by b (loaded c n) = cond (same_box c b) (n ∷ []) []
loads_by b (tried c name t) = []
loads_by b (sent c n x) = []
loads_by b (dropped c) = []
loads_by b (joined n bit) = []
loads_by b (refused why) = []

-- what box b sent by call 2, 3 or 4, and under which number
pub record Sending : Type 0 where
  pub number : ℕ
  pub body : Body

abbrev pub sends_by : Box → Event → List Sending
sends_by b (dealt d f) = []
sends_by b (loaded c n) = []
sends_by b (tried c name t) = []
sends_by b (sent c n x) = cond (same_box c b) (record { number = n; body = x } ∷ []) []
sends_by b (dropped c) = []
sends_by b (joined n bit) = []
sends_by b (refused why) = []

-- whether box b dropped its set
abbrev pub drops_by : Box → Event → List Box
drops_by b (dealt d f) = []
drops_by b (loaded c n) = []
drops_by b (tried c name t) = []
drops_by b (sent c n x) = []
drops_by b (dropped c) = cond (same_box c b) (c ∷ []) []
drops_by b (joined n bit) = []
drops_by b (refused why) = []

-- under which number the lock joined
abbrev pub joins_in : Event → List ℕ
joins_in (dealt d f) = []
joins_in (loaded c n) = []
joins_in (tried c name t) = []
joins_in (sent c n x) = []
joins_in (dropped c) = []
joins_in (joined n bit) = n ∷ []
joins_in (refused why) = []

-- what f gives for each in a list, in the list's order
abbrev pub collect : {A B : Type 0} → (A → List B) → List A → List B
collect f [] = []
collect f (x ∷ l) = f x ++ collect f l

abbrev pub vector_of : Body → List (List ℕ)
vector_of (vector v m) = v ∷ []
vector_of (word w) = []
vector_of (answer a) = []

abbrev pub word_of : Body → List ℕ
word_of (vector v m) = []
word_of (word w) = w ∷ []
word_of (answer a) = []

abbrev pub answer_of : Body → List ℕ
answer_of (vector v m) = []
answer_of (word w) = []
answer_of (answer a) = a ∷ []

abbrev pub deal_of : ℕ → Deal → List Deal
deal_of n d = cond (eqb d.number n) (d ∷ []) []

abbrev pub sent_of : {A : Type 0} → (Body → List A) → ℕ → Sending → List A
sent_of f n s = cond (eqb s.number n) (f s.body) []

-- the accepted deals of n
abbrev pub deals : ℕ → List Event → List Deal
deals n h = collect (deal_of n) (collect deals_in h)

-- the vectors handed to a box's accepted calls 2 under n
abbrev pub vectors : Box → ℕ → List Event → List (List ℕ)
vectors b n h = collect (sent_of vector_of n) (collect (sends_by b) h)

-- the words of a box's accepted calls 3 under n
abbrev pub sent_words : Box → ℕ → List Event → List ℕ
sent_words b n h = collect (sent_of word_of n) (collect (sends_by b) h)

-- "A part's last number is that of its last accepted deal, load or join, else its floor" [SPEC 25.7]
abbrev pub newest : ℕ → List ℕ → ℕ
newest floor [] = floor
newest floor (n ∷ l) = n

abbrev pub last_dealt : ℕ → List Event → ℕ
last_dealt floor h = newest floor (map (λ d. d.number) (collect deals_in h))

abbrev pub last_loaded : ℕ → Box → List Event → ℕ
last_loaded floor b h = newest floor (collect (loads_by b) h)

abbrev pub last_joined : ℕ → List Event → ℕ
last_joined floor h = newest floor (collect joins_in h)

-- how many sets a box has, the open one and the one that waits: a load brings one, call 4 and drop end one
abbrev pub closes : Box → Event → ℕ
closes b e = length (collect (λ s. answer_of s.body) (sends_by b e)) + length (drops_by b e)

abbrev pub open_sets : Box → List Event → ℕ
open_sets b [] = 0
open_sets b (e ∷ h) = open_sets b h + length (loads_by b e) - closes b e

-- .. and their numbers, the open set's first: a load puts its own behind the others, call 4 and drop end the first
abbrev pub held : Box → List Event → List ℕ
held b [] = []
held b (e ∷ h) = without (closes b e) (held b h ++ loads_by b e)

-- ---- no wrong report, no reuse

-- what a lock is to say of a deal and two vectors, by the rule that was dealt
abbrev pub verdict : Deal → List ℕ → List ℕ → ℕ
verdict d x y = cond (meets d.terms d.rule (measure d.terms x y)) 1 0

-- "For an accepted join under n, the list's accepted deal of n gives measure and T" (02, §4: or P and Q), "X is the
-- vector handed to the camera box's accepted call 2 under n, and Y the office box's; that each is there exactly once is
-- part of the claim" [SPEC 27.3, 27.4]
pub record Right (h : List Event) (n bit : ℕ) : Type 0 where
  pub d : Deal
  pub x : List ℕ
  pub y : List ℕ
  pub one_deal : deals n h ≡ d ∷ []
  pub one_x : vectors camera n h ≡ x ∷ []
  pub one_y : vectors office n h ≡ y ∷ []
  pub right : bit ≡ verdict d x y

unfoldable pub NoWrongReport : Type 0
NoWrongReport =
    (s : Starts) → Started s → (cs : List Call) → Admissible s cs → (n bit : ℕ)
    → In (joined n bit) (history s cs) → Right (history s cs) n bit

-- at most one masked vector and one word a number and box
unfoldable pub NoReuse : Type 0
NoReuse = (s : Starts) → Started s → (cs : List Call) → Admissible s cs → (b : Box) (n : ℕ)
    → (length (vectors b n (history s cs)) ≤ 1) × (length (sent_words b n (history s cs)) ≤ 1)

-- ---- a run in the right order: "one deal, at each box a load
-- and calls 2 to 4 in turn, and the join, all under one number" [SPEC 28.1]

-- how far it is: whether the deal was made, how many of a box's four calls, whether the join
pub record Progress : Type 0 where
  pub begun : Bool
  pub made : Box → ℕ
  pub ended : Bool

abbrev pub nothing_made : Progress
nothing_made = record { begun = false; made = λ b. 0; ended = false }

abbrev pub made_one : Progress → Box → Progress
made_one g b = record { begun = g.begun; made = put g.made b (suc (g.made b)); ended = g.ended }

abbrev pub onward : Progress → Call → Progress
onward g (deal d out0 out1) = record { begun = true; made = g.made; ended = g.ended }
onward g (deal_by_clock k out0 out1) = record { begun = true; made = g.made; ended = g.ended }
onward g (load b h) = made_one g b
onward g (trial b h) = g
onward g (mask b v out) = made_one g b
onward g (take b m) = made_one g b
onward g (finish b m) = made_one g b
onward g (drop b) = g
onward g (join m n) = record { begun = g.begun; made = g.made; ended = true }

-- a message of this kind, sender and number under the door's name
abbrev pub Labelled : {A : Type 0} → List ℕ → ℕ → Box → ℕ → Message A → Type 0
Labelled door kind b n m = (m.label ≡ record { kind = kind; sender = party_of b; number = n }) × (m.name ≡ door)

-- the run's deal and its two vectors
module _ (door : List ℕ) (d : Deal) (v : Box → List ℕ) where
  -- which of its own calls may come next, where the run's events so far are h. "Each load gets the half the deal wrote
  -- for its box, and messages are handed on as sent. Any order will do in which nothing is handed on before it is
  -- written or sent." Output buffers are as refusal 5 asks. [SPEC 28.2 to 28.4]
  abbrev pub Ready : Progress → List Event → Call → Type 0
  Ready g h (deal e out0 out1) =
      (g.begun ≡ false) × (e ≡ d) × (half_size d.terms.n ≤ length out0) × (half_size d.terms.n ≤ length out1)
  -- "The run that is always answered, where it is dealt by the clock, needs a table that 14 to 16 let through and a
  -- minute from 0 to 1,439" (02, §5), and what it deals is the deal by "that row's threshold". No test of the code's
  -- stands here, but what a good table and the minute's row are. [SPEC 28.6, 33.4]
  Ready g h (deal_by_clock k out0 out1) =
      (g.begun ≡ false) × Good k.table × (k.minute < day)
      × (i : ℕ) × InRow k.table.firsts k.table.lasts k.minute i × (row_deal k i ≡ d)
      × (half_size d.terms.n ≤ length out0) × (half_size d.terms.n ≤ length out1)
  Ready g h (load b half) = (g.made b ≡ 0) × (f : Box → List ℕ) × In (dealt d f) h × (half ≡ f b)
  Ready g h (trial b half) = ⊥
  Ready g h (mask b x out) = (g.made b ≡ 1) × (x ≡ v b) × (d.terms.n ≤ length out)
  Ready g h (take b m) =
      (g.made b ≡ 2) × Labelled door vector_kind (other b) d.number m
      × SentVector h (other b) d.number m.content
  Ready g h (finish b m) =
      (g.made b ≡ 3) × Labelled door word_kind (other b) d.number m
      × SentWord h (other b) d.number m.content
  Ready g h (drop b) = ⊥
  Ready g h (join m n) =
      (g.ended ≡ false) × Labelled door answer_kind camera d.number m
      × SentAnswer h camera d.number m.content × Labelled door answer_kind office d.number n
      × SentAnswer h office d.number n.content

  -- its calls so far: "mixed at most with calls that change no state", and with any that are turned down, of which 01
  -- says so ("no state and no byte changes") [SPEC 22.4, 28.5]
  pub data Run (w : World) : List Call → Progress → Type 0 where
    start : Run w [] nothing_made
    own : {cs : List Call} {g : Progress} → Run w cs g → (c : Call) → Ready g (events w cs) c
        → Run w (c ∷ cs) (onward g c)
    aside : {cs : List Call} {g : Progress} → Run w cs g → (c : Call) → (step (after w cs) c).world ≡ after w cs
        → Run w (c ∷ cs) g
    turned : {cs : List Call} {g : Progress} → Run w cs g
        → (c : Call) (why : ℕ) → (step (after w cs) c).event ≡ refused why
        → Run w (c ∷ cs) g

-- "answered means that none of the run's own calls is refused": what call c of the run left is the run's own, by the
-- call's box and "all under one number", and a join reports what it should [SPEC 28.1, 28.7, 28.9]
abbrev pub Answered : Deal → (Box → List ℕ) → Call → Event → Type 0
Answered d v (deal e out0 out1) x = (f : Box → List ℕ) × (x ≡ dealt d f)
Answered d v (deal_by_clock k out0 out1) x = (f : Box → List ℕ) × (x ≡ dealt d f)
Answered d v (load b half) x = x ≡ loaded b d.number
Answered d v (trial b half) x = ⊥
Answered d v (mask b y out) x = (m : List ℕ) × (x ≡ sent b d.number (vector (v b) m))
Answered d v (take b m) x = (w : ℕ) × (x ≡ sent b d.number (word w))
Answered d v (finish b m) x = (a : ℕ) × (x ≡ sent b d.number (answer a))
Answered d v (drop b) x = ⊥
Answered d v (join m n) x = x ≡ joined d.number (verdict d (v camera) (v office))

-- "In range means that code, lengths, output buffers, threshold and elements are as refusals 2, 4, 5 and 8 ask" (the
-- buffers stand in `Ready`), and 02, §4: "The run that is always answered then needs a P and Q that 13 lets through"
-- [SPEC 28.6]
pub record InRange (d : Deal) (v : Box → List ℕ) : Type 0 where
  pub number_fits : d.number < 2 ^ 64
  pub code_fits : is_code d.terms.code ≡ true
  pub seed_long : length d.seed ≡ 32
  pub length_fits_lem : length_fits d.terms ≡ true
  pub vector_long : (b : Box) → length (v b) ≡ d.terms.n
  pub rule_fits_lem : rule_fits d.terms d.rule ≡ true
  pub in_order_lem : in_order d.rule ≡ true
  pub elements_fit : (b : Box) → all_in_range d.terms (v b) ≡ true

-- neither box has a set, open or waiting, and n is above all four last numbers
pub record Free (s : Starts) (h : List Event) (n : ℕ) : Type 0 where
  pub none_open : (b : Box) → open_sets b h ≡ 0
  pub above_dealer : last_dealt s.dealer_floor h < n
  pub above_box : (b : Box) → last_loaded (s.box_floor b) b h < n
  pub above_lock : last_joined s.lock_floor h < n

-- after every admissible list that leaves no set open: however far such a run is and whatever came in between, each of
-- its own calls that may come next is answered
unfoldable pub AlwaysAnswered : Type 0
AlwaysAnswered =
    (s : Starts) → Started s → (cs : List Call) → Admissible s cs
    → (d : Deal) (v : Box → List ℕ) → InRange d v → Free s (history s cs) d.number
    → (let w : World = after (beginning s) cs in
    (rs : List Call) (g : Progress) → Run (padded s.name) d v w rs g
    → (c : Call) → Ready (padded s.name) d v g (events w rs) c
    → Answered d v c (step (after w rs) c).event)

-- ---- a run can be ended

-- all of it is made: "one deal, at each box a load and calls 2 to 4 in turn, and the join" [SPEC 28.1]
abbrev pub Whole : Progress → Type 0
Whole g = (g.begun ≡ true) × ((b : Box) → g.made b ≡ 4) × (g.ended ≡ true)

-- after every admissible list that leaves no set open: however far such a run is and whatever came in between, it is
-- not stuck, but is whole or a call of its own may come next
unfoldable pub NeverStuck : Type 0
NeverStuck = (s : Starts) → Started s → (cs : List Call) → Admissible s cs → (d : Deal) (v : Box → List ℕ) → InRange d v
    → Free s (history s cs) d.number
    → (let w : World = after (beginning s) cs in
    (rs : List Call) (g : Progress) → Run (padded s.name) d v w rs g
    → Whole g ⊎ ((c : Call) × Ready (padded s.name) d v g (events w rs) c))

-- "The run in the right order follows the list": a whole run rs after the list cs. Both are one admissible list. The
-- run's first call is this one, and it deals; its last is the join, which is accepted and right; and then every higher
-- number is free. [SPEC 28.1, 28.11]
pub record Ended (s : Starts) (cs : List Call) (d : Deal) (v : Box → List ℕ) (first : Call) : Type 0 where
  pub rs : List Call
  pub later : List Call
  pub begins : rs ≡ later ++ first ∷ []
  pub written : Box → List ℕ
  pub deals : (step (after (beginning s) cs) first).event ≡ dealt d written
  pub g : Progress
  pub run : Run (padded s.name) d v (after (beginning s) cs) rs g
  pub whole : Whole g
  pub admissible : Admissible s (rs ++ cs)
  pub before : List Event
  pub says : history s (rs ++ cs) ≡ joined d.number (verdict d (v camera) (v office)) ∷ before
  pub free : (n : ℕ) → d.number < n → Free s (history s (rs ++ cs)) n

-- a call that a run may begin with
abbrev pub Begins : List ℕ → Deal → (Box → List ℕ) → Call → Type 0
Begins door d v first = Ready door d v nothing_made [] first

-- after every admissible list that leaves no set open, for every deal and vectors in range there is a call that the run
-- may begin with, and with each such call there is such a run
unfoldable pub CanEnd : Type 0
CanEnd = (s : Starts) → Started s → (cs : List Call) → Admissible s cs → (d : Deal) (v : Box → List ℕ) → InRange d v
    → Free s (history s cs) d.number → ((first : Call) × Begins (padded s.name) d v first)
    × ((first : Call) → Begins (padded s.name) d v first → Ended s cs d v first)

-- "Drop ends the open set", 02, §1: "Drop acts on the open set only": after every admissible list, a box with a set
-- open is not refused its drop, and is then as with that set closed [SPEC 19.1, 19.2, 28.12]
unfoldable pub CanDrop : Type 0
CanDrop = (s : Starts) → Started s → (cs : List Call) → Admissible s cs → (b : Box) → 1 ≤ open_sets b (history s cs)
    → (history s (drop b ∷ cs) ≡ dropped b ∷ history s cs)
    × ((after (beginning s) (drop b ∷ cs)).box b ≡ closed ((after (beginning s) cs).box b))

-- ---- not empty

-- after the list cs, a whole run under n on these terms and by this rule, whose join says `bit`: so the hypotheses of
-- each claim can be met
pub record Example (s : Starts) (cs : List Call) (n : ℕ) (terms : Terms) (rule : Rule) (bit : ℕ) : Type 0 where
  pub d : Deal
  pub v : Box → List ℕ
  pub number_is : d.number ≡ n
  pub terms_are : d.terms ≡ terms
  pub rule_is : d.rule ≡ rule
  pub in_range_lem : InRange d v
  pub first : Call
  pub ended : Ended s cs d v first
  pub says : verdict d (v camera) (v office) ≡ bit

-- a run with some rule of this mark: 0 for a threshold, 1 for two marks
abbrev pub OfMark : Starts → List Call → ℕ → Terms → ℕ → ℕ → Type 0
OfMark s cs n terms mark bit = (rule : Rule) × (mark_of rule ≡ mark) × Example s cs n terms rule bit

-- a run that is dealt by the clock at this minute, by a row of this threshold
abbrev pub ByClock : Starts → List Call → ℕ → Terms → ℕ → ℕ → ℕ → Type 0
ByClock s cs n terms minute t bit =
    (k : ClockDeal) × (k.minute ≡ minute)
    × (e : Example s cs n terms (Threshold t) bit)
    × (out0 : List ℕ) × (out1 : List ℕ) × (e.first ≡ deal_by_clock k out0 out1)

-- after every admissible list that leaves no set open, under every number that is free, for every measure and length:
-- by a threshold one run says 1 and one says 0, and so between two marks; and by each rule that 8 and 13 let through
-- there is a run, and by each such threshold one that is dealt by the clock, at every minute of the day; and there are
-- accepted starts, with number 1 free [SPEC 28.13]
unfoldable pub NotEmpty : Type 0
NotEmpty = ((s : Starts) → Started s → (cs : List Call) → Admissible s cs → (n : ℕ) (terms : Terms) → n < 2 ^ 64
    → terms.code < 3 → 1 ≤ terms.n → terms.n ≤ 512 → Free s (history s cs) n
    → ((mark : ℕ) → mark ≤ 1 → OfMark s cs n terms mark 1 × OfMark s cs n terms mark 0)
    × ((rule : Rule) → rule_fits terms rule ≡ true → in_order rule ≡ true → (bit : ℕ) × Example s cs n terms rule bit)
    × ((minute t : ℕ) → minute < day → rule_fits terms (Threshold t) ≡ true
    → (bit : ℕ) × ByClock s cs n terms minute t bit))
    × ((s : Starts) × Started s × Free s [] 1)

-- ---- what the verdict is

-- the lock is to say 1 where the rule is met, and 0 everywhere else. By a threshold: "scalar product keeps
-- measure ≥ T", and "For squared Euclid and Hamming", the codes above 0, "the lock's 1 means measure ≤ T"; between two
-- marks, for every code: "The lock's 1 is now proved to mean P ≤ measure ≤ Q for such sets" [SPEC 3.6, 3.13]
unfoldable pub VerdictIs : Type 0
VerdictIs = (d : Deal) (x y : List ℕ)
    → (let m : ℤ = measure d.terms x y in
    ((t : ℕ) → d.rule ≡ Threshold t
    → (d.terms.code ≡ 0 → verdict d x y ≡ cond (le_z (signed t) m) 1 0)
    × ((d.terms.code ≡ 0 → ⊥) → verdict d x y ≡ cond (le_z m (signed t)) 1 0))
    × ((p q : ℕ) → d.rule ≡ Between p q → verdict d x y ≡ cond (le_z (signed p) m && le_z m (signed q)) 1 0))

-- ---- demand 3, whole

unfoldable pub Demand3 : Type 0
Demand3 = NoWrongReport × NoReuse × AlwaysAnswered × NeverStuck × CanEnd × CanDrop × NotEmpty × VerdictIs
