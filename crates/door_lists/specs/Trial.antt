-- Trial load over lists of calls (02, §7): a trial leaves no trace, and its half is free; what it says is what a load
-- would say, and a yes holds until a half is loaded there; and the half that a right-order run is about to load gets a
-- yes, with this door and what was dealt. No proof stands here. Assumes nothing. [SPEC 26.6, 34.1 to 34.8]
use Rattle.std.specs.Prelude.{◌≡◌, Bool, true, false, cond, List, [], ◌∷◌, ◌↔◌, ◌⊎◌, ℕ}
use Rattle.measure_table.specs.declared.Terms.{Terms}
use Rattle.base_messages.specs.Messages.{out_of_turn, padded}
use Rattle.half_seal.specs.Half.{set_number}
use Rattle.half_deal.specs.Dealing.{Deal}
use Rattle.call_party.specs.Claims.{brought}
use Rattle.door_lists.specs.Lists.{Box, World, Starts, Started, beginning, Call, deal, deal_by_clock, load, trial}
use Rattle.door_lists.specs.Lists.{mask, take, finish, drop, join, Event, dealt, loaded, tried, refused, step}
use Rattle.door_lists.specs.Lists.{after, events, In, history, Admissible}
use Rattle.door_lists.specs.Demand.{open_sets, Progress, Ready, Run, InRange, Free, Begins}
use Rattle.door_lists.specs.Overlap.{Both, Overlap, FirstReady, SecondReady, Two}

-- ---- no trace

abbrev pub is_trial : Call → Bool
is_trial (deal d out0 out1) = false
is_trial (deal_by_clock k out0 out1) = false
is_trial (load b h) = false
is_trial (trial b h) = true
is_trial (mask b v out) = false
is_trial (take b m) = false
is_trial (finish b m) = false
is_trial (drop b) = false
is_trial (join m n) = false

-- a list without its trials, and what its other calls did
abbrev pub without_trials : List Call → List Call
without_trials [] = []
without_trials (c ∷ cs) = cond (is_trial c) (without_trials cs) (c ∷ without_trials cs)

abbrev pub other_events : World → List Call → List Event
other_events w [] = []
other_events w (c ∷ cs) = cond (is_trial c) (other_events w cs) ((step (after w cs) c).event ∷ other_events w cs)

-- "The box's own state and last number are untouched, so a set that was tried can still be loaded": from any states, a
-- list and the same list without its trials leave the same states, and the other calls do the same. (That the call
-- itself can change nothing is in its type: the state goes in by value, and none comes back.)
unfoldable pub NoTrace : Type 0
NoTrace = (w : World) (cs : List Call)
    → (after w cs ≡ after w (without_trials cs)) × (other_events w cs ≡ events w (without_trials cs))

-- "each whole block handed to a load" does not bind a trial: any trials may stand in an admissible list [SPEC 26.6]
unfoldable pub HalvesFree : Type 0
HalvesFree = (s : Starts) (cs : List Call) → Admissible s (without_trials cs) → Admissible s cs

-- ---- what it says

-- a trial of h at box b, and a load of h there after more calls
pub record Foretold (w : World) (b : Box) (h : List ℕ) (cs : List Call) : Type 0 where
  -- it is refused, or it tells a door and terms
  pub says : ((why : ℕ) × ((step w (trial b h)).event ≡ refused why))
      ⊎ ((name : List ℕ) × (t : Terms) × ((step w (trial b h)).event ≡ tried b name t))
  -- refused with the load's number, if and only if the load is refused, ..
  pub refused_alike : (why : ℕ)
      → ((step w (trial b h)).event ≡ refused why) ↔ ((step (after w cs) (load b h)).event ≡ refused why)
  -- .. and else the load is taken, at a box of that door, and the set that it brings has these terms
  pub taken_alike : (name : List ℕ) (t : Terms) → (step w (trial b h)).event ≡ tried b name t
      → ((step (after w cs) (load b h)).event ≡ loaded b (set_number h))
      × (name ≡ (w.box b).who.name)
      × (t ≡ (brought (w.box b) ((step (after w cs) (load b h)).world.box b)).terms)

-- "says what a load would say": for any states, any box and any half, now, and after any calls that leave this box as
-- it is
unfoldable pub Foretells : Type 0
Foretells = (w : World) (b : Box) (h : List ℕ) (cs : List Call) → (after w cs).box b ≡ w.box b → Foretold w b h cs

-- "Before driving out I want to know whether the half on my stick will be taken": from any states, a half that is told
-- to be taken still is, with the same words, after any calls, as long as no half is loaded at that box
unfoldable pub StaysTaken : Type 0
StaysTaken = (w : World) (b : Box) (h name : List ℕ) (t : Terms) → (step w (trial b h)).event ≡ tried b name t
    → (cs : List Call) → ((n : ℕ) → In (loaded b n) (events w cs) → ⊥)
    → (step (after w cs) (trial b h)).event ≡ tried b name t

-- ---- in a run in the right order

-- after every admissible list that leaves no set open, however far a run is and whatever came in between: a trial of
-- any half at either box may be mixed into it; and one of the half that a box is about to load tells this door and what
-- was dealt
pub record TriedIn (s : Starts) (d : Deal) (v : Box → List ℕ) (w : World) (rs : List Call) (g : Progress) : Type 0 where
  pub mixed : (b : Box) (h : List ℕ) → Run (padded s.name) d v w (trial b h ∷ rs) g
  pub taken : (b : Box) (h : List ℕ) → Ready (padded s.name) d v g (events w rs) (load b h)
      → (step (after w rs) (trial b h)).event ≡ tried b (padded s.name) d.terms

unfoldable pub TriedInRun : Type 0
TriedInRun =
    (s : Starts) → Started s → (cs : List Call) → Admissible s cs → (d : Deal) (v : Box → List ℕ) → InRange d v
    → Free s (history s cs) d.number
    → (let w : World = after (beginning s) cs in
    (rs : List Call) (g : Progress) → Run (padded s.name) d v w rs g → TriedIn s d v w rs g)

-- there is such a half for each box, as soon as the run has begun: what its deal wrote
unfoldable pub CanTry : Type 0
CanTry = (s : Starts) → Started s → (cs : List Call) → Admissible s cs → (d : Deal) (v : Box → List ℕ) → InRange d v
    → Free s (history s cs) d.number → (first : Call) → Begins (padded s.name) d v first
    → (let w : World = after (beginning s) cs in
    (f : Box → List ℕ) × ((step w first).event ≡ dealt d f)
    × ((b : Box) → (step (step w first).world (trial b (f b))).event ≡ tried b (padded s.name) d.terms))

-- ---- with a set open, and with one waiting

-- of two checks that overlap: a trial of any half may be mixed into them; and one of the half that a box is about to
-- load, for the first or ahead for the second, tells this door and what was dealt
pub record TriedBeside (s : Starts) (d e : Deal) (v u : Box → List ℕ) (w : World) (rs : List Call) (g : Both) : Type 0
  where
    pub mixed : (b : Box) (h : List ℕ) → Overlap (padded s.name) d e v u w (trial b h ∷ rs) g
    pub first_taken : (b : Box) (h : List ℕ) → FirstReady (padded s.name) d e v u g (events w rs) (load b h)
        → (step (after w rs) (trial b h)).event ≡ tried b (padded s.name) d.terms
    pub second_taken : (b : Box) (h : List ℕ) → SecondReady (padded s.name) d e v u g (events w rs) (load b h)
        → (step (after w rs) (trial b h)).event ≡ tried b (padded s.name) e.terms

unfoldable pub TriedAhead : Type 0
TriedAhead = (s : Starts) (cs : List Call) (d e : Deal) (v u : Box → List ℕ) → Two s cs d e v u
    → (let w : World = after (beginning s) cs in
    (rs : List Call) (g : Both) → Overlap (padded s.name) d e v u w rs g → TriedBeside s d e v u w rs g)

-- after every list, whatever was handed in: with a set open and one waiting every half is refused by 3
unfoldable pub FullRefused : Type 0
FullRefused = (s : Starts) → Started s → (cs : List Call) (b : Box) → open_sets b (history s cs) ≡ 2 → (h : List ℕ)
    → (step (after (beginning s) cs) (trial b h)).event ≡ refused out_of_turn

-- the promise of the trial, whole
unfoldable pub TrialLoad : Type 0
TrialLoad = NoTrace × HalvesFree × Foretells × StaysTaken × TriedInRun × CanTry × TriedAhead × FullRefused
