-- Two checks that overlap (02, §1, "Load ahead"): while a run in the right order is under way a second one, with a
-- higher number, is dealt and loaded at both boxes, and goes on at a box when the first was answered or dropped there.
-- Of two: that a third is loaded ahead behind the second is not said here. No proof stands here. Assumes nothing.
-- [SPEC 28.14 to 28.16]
use Rattle.std.specs.Prelude.{◌≡◌, true, false, List, [], ◌∷◌, ◌++◌, ◌⊎◌, ℕ, ◌^◌, ◌<◌, ◌≤◌}
use Rattle.measure_table.specs.declared.Terms.{Terms}
use Rattle.measure_table.specs.Measure.{mark_of}
use Rattle.base_messages.specs.Messages.{padded}
use Rattle.half_deal.specs.Dealing.{Deal}
use Rattle.door_lists.specs.Lists.{Box, camera, office, other, put, World, Starts, Started, beginning, Call, deal}
use Rattle.door_lists.specs.Lists.{deal_by_clock, load, trial, mask, take, finish, drop, join, Event, dropped}
use Rattle.door_lists.specs.Lists.{joined, refused, step, after, events, In, history, Admissible}
use Rattle.door_lists.specs.Demand.{verdict, Progress, nothing_made, onward, Ready, Answered, InRange, Free, Whole}

-- how far the two are. Where the first was dropped at a box, all four of its calls there count as made.
pub record Both : Type 0 where
  pub first : Progress
  pub second : Progress

abbrev pub nothing_yet : Both
nothing_yet = record { first = nothing_made; second = nothing_made }

abbrev pub made_to : Progress → Box → ℕ → Progress
made_to g b k = record { begun = g.begun; made = put g.made b k; ended = g.ended }

abbrev pub ended_at : Progress → Box → Progress
ended_at g b = made_to g b 4

-- its set is open at the box
abbrev pub UnderWay : Progress → Box → Type 0
UnderWay g b = (1 ≤ g.made b) × (g.made b ≤ 3)

-- "every accepted set number is above the last one": what the dealer, a box and the lock do of the first comes before
-- what they do of the second
abbrev pub FirstInOrder : Both → Call → Type 0
FirstInOrder g (deal x out0 out1) = g.second.begun ≡ false
FirstInOrder g (deal_by_clock k out0 out1) = g.second.begun ≡ false
FirstInOrder g (load b h) = g.second.made b ≡ 0
FirstInOrder g (trial b h) = Unit {0}
FirstInOrder g (mask b x out) = Unit {0}
FirstInOrder g (take b m) = Unit {0}
FirstInOrder g (finish b m) = Unit {0}
FirstInOrder g (drop b) = Unit {0}
FirstInOrder g (join m n) = g.second.ended ≡ false

-- "A box may load one further set while another is still open. The waiting set becomes the open one when the open one
-- is answered or dropped."
abbrev pub SecondInOrder : Both → Call → Type 0
SecondInOrder g (deal x out0 out1) = g.first.begun ≡ true
SecondInOrder g (deal_by_clock k out0 out1) = g.first.begun ≡ true
SecondInOrder g (load b x) = 1 ≤ g.first.made b
SecondInOrder g (trial b x) = Unit {0}
SecondInOrder g (mask b x out) = 4 ≤ g.first.made b
SecondInOrder g (take b m) = 4 ≤ g.first.made b
SecondInOrder g (finish b m) = 4 ≤ g.first.made b
SecondInOrder g (drop b) = ⊥
SecondInOrder g (join m n) = Unit {0}

-- the two deals and their vectors
module _ (door : List ℕ) (d e : Deal) (v u : Box → List ℕ) where
  -- what may be the next call of the first, and of the second
  abbrev pub FirstReady : Both → List Event → Call → Type 0
  FirstReady g h c = Ready door d v g.first h c × FirstInOrder g c

  abbrev pub SecondReady : Both → List Event → Call → Type 0
  SecondReady g h c = Ready door e u g.second h c × SecondInOrder g c

  -- their calls so far, in any order, mixed as in `Run`
  pub data Overlap (w : World) : List Call → Both → Type 0 where
    begin : Overlap w [] nothing_yet
    of_first : {cs : List Call} {g : Both} → Overlap w cs g → (c : Call) → FirstReady g (events w cs) c
        → Overlap w (c ∷ cs) (record { first = onward g.first c; second = g.second })
    of_second : {cs : List Call} {g : Both} → Overlap w cs g → (c : Call) → SecondReady g (events w cs) c
        → Overlap w (c ∷ cs) (record { first = g.first; second = onward g.second c })
    first_dropped : {cs : List Call} {g : Both} → Overlap w cs g → (b : Box) → UnderWay g.first b
        → Overlap w (drop b ∷ cs) (record { first = ended_at g.first b; second = g.second })
    still : {cs : List Call} {g : Both} → Overlap w cs g → (c : Call) → (step (after w cs) c).world ≡ after w cs
        → Overlap w (c ∷ cs) g
    turned_down : {cs : List Call} {g : Both} → Overlap w cs g
        → (c : Call) (why : ℕ) → (step (after w cs) c).event ≡ refused why
        → Overlap w (c ∷ cs) g

-- two such checks after the list cs
pub record Two (s : Starts) (cs : List Call) (d e : Deal) (v u : Box → List ℕ) : Type 0 where
  pub started : Started s
  pub admissible : Admissible s cs
  pub first_in_range : InRange d v
  pub second_in_range : InRange e u
  pub free : Free s (history s cs) d.number
  pub above : d.number < e.number

-- however far they are and whatever came in between: each of their own calls that may come next is answered, and its
-- join reports what it should; and the first can be dropped at a box
unfoldable pub BothAnswered : Type 0
BothAnswered = (s : Starts) (cs : List Call) (d e : Deal) (v u : Box → List ℕ) → Two s cs d e v u
    → (let w : World = after (beginning s) cs in
    (rs : List Call) (g : Both) → Overlap (padded s.name) d e v u w rs g
    → ((c : Call) → FirstReady (padded s.name) d e v u g (events w rs) c
    → Answered d v c (step (after w rs) c).event)
    × ((c : Call) → SecondReady (padded s.name) d e v u g (events w rs) c
    → Answered e u c (step (after w rs) c).event)
    × ((b : Box) → UnderWay g.first b → (step (after w rs) (drop b)).event ≡ dropped b))

-- and they are not stuck: the second is whole, and the first has ended at both boxes, or a call of theirs may come
-- next. A first one that was dropped at one box may have to be dropped at the other. And as long as the first was not
-- dropped and the second not joined, the first is whole or a call of its own may come next. [SPEC 28.15]
unfoldable pub NeitherStuck : Type 0
NeitherStuck = (s : Starts) (cs : List Call) (d e : Deal) (v u : Box → List ℕ) → Two s cs d e v u
    → (let w : World = after (beginning s) cs in
    (rs : List Call) (g : Both) → Overlap (padded s.name) d e v u w rs g
    → ((Whole g.second × ((b : Box) → 4 ≤ g.first.made b))
    ⊎ (((c : Call) × FirstReady (padded s.name) d e v u g (events w rs) c)
    ⊎ (((c : Call) × SecondReady (padded s.name) d e v u g (events w rs) c)
    ⊎ ((b : Box) × UnderWay g.first b × In (dropped (other b)) (events w rs)))))
    × (((b : Box) → In (dropped b) (events w rs) → ⊥) → g.second.ended ≡ false
    → Whole g.first ⊎ ((c : Call) × FirstReady (padded s.name) d e v u g (events w rs) c)))

-- Both to their ends, the second loaded ahead at both boxes: `early` is how far they were when its set waited there.
-- List and runs are one admissible list, whose last call is the second's join; and then every higher number is free.
pub record BothEnded (s : Starts) (cs : List Call) (d e : Deal) (v u : Box → List ℕ) : Type 0 where
  pub early : List Call
  pub late : List Call
  pub ahead : Both
  pub g : Both
  pub overlap_early : Overlap (padded s.name) d e v u (after (beginning s) cs) early ahead
  pub overlap : Overlap (padded s.name) d e v u (after (beginning s) cs) (late ++ early) g
  pub waiting : (b : Box) → UnderWay ahead.first b × (ahead.second.made b ≡ 1)
  pub whole : Whole g.first × Whole g.second
  pub admissible : Admissible s ((late ++ early) ++ cs)
  pub first_says : In (joined d.number (verdict d (v camera) (v office))) (history s ((late ++ early) ++ cs))
  pub before : List Event
  pub second_says : history s ((late ++ early) ++ cs) ≡ joined e.number (verdict e (u camera) (u office)) ∷ before
  pub free : (n : ℕ) → e.number < n → Free s (history s ((late ++ early) ++ cs)) n

unfoldable pub BothCanEnd : Type 0
BothCanEnd = (s : Starts) (cs : List Call) (d e : Deal) (v u : Box → List ℕ) → Two s cs d e v u
    → BothEnded s cs d e v u

-- there are two such checks: after every admissible list that leaves no set open, under every two numbers that are
-- free, for every two measures and lengths, each by a threshold or between two marks (mark 0 or 1), the first says 1
-- and the second 0 [SPEC 28.16]
unfoldable pub TwoThereAre : Type 0
TwoThereAre = (s : Starts) → Started s → (cs : List Call) → Admissible s cs → (n m : ℕ) → n < m → m < 2 ^ 64
    → Free s (history s cs) n → (first second : Terms) (mark mark' : ℕ)
    → first.code < 3 → 1 ≤ first.n → first.n ≤ 512 → second.code < 3 → 1 ≤ second.n → second.n ≤ 512
    → mark ≤ 1 → mark' ≤ 1
    → (d : Deal) × (e : Deal) × (v : Box → List ℕ) × (u : Box → List ℕ) × Two s cs d e v u
    × (d.number ≡ n) × (e.number ≡ m) × (d.terms ≡ first) × (e.terms ≡ second)
    × (mark_of d.rule ≡ mark) × (mark_of e.rule ≡ mark')
    × (verdict d (v camera) (v office) ≡ 1) × (verdict e (u camera) (u office) ≡ 0)

-- the promise that load ahead is for, whole
unfoldable pub LoadAhead : Type 0
LoadAhead = BothAnswered × NeitherStuck × BothCanEnd × TwoThereAre
