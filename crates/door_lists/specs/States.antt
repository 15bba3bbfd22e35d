-- What a box's state holds after any list of calls, whatever was handed in (01, "One check at a box"). No proof stands
-- here. Assumes nothing. [SPEC 12.9 to 12.11]
use Rattle.std.specs.Prelude.{◌≡◌, true, false, List, ℕ, ◌≤◌, get_or, replicate}
use Rattle.measure_table.specs.Measure.{most_elements}
use Rattle.half_content.specs.declared.Set.{Set}
use Rattle.half_content.specs.Content.{no_set}
use Rattle.call_party.specs.declared.Party.{Party}
use Rattle.call_party.specs.Party.{idle_phase, loaded_phase, masked_phase, taken_phase, no_check, waits}
use Rattle.door_lists.specs.Lists.{Box, World, Starts, beginning, Call, Event, sent, answer, dropped, after}
use Rattle.door_lists.specs.Lists.{events, In}

-- ---- until a set is closed or dropped

-- "Drop ends the open set. .. call 4 closes it": the events that end the set open at b [SPEC 18.5, 19.1]
pub data Ends (b : Box) : Event → Type 0 where
  by_call_4 : (n a : ℕ) → Ends b (sent b n (answer a))
  by_drop : Ends b (dropped b)

-- "What a set has brought into the state stays there", from s to t: load brings the set, open or waiting, call 2 the
-- masked vector and own, call 3 the word, and each call its phase [SPEC 12.9]
pub record Stays (s t : Party) : Type 0 where
  pub not_back : s.check.phase ≤ t.check.phase
  pub same_set : t.check.set ≡ s.check.set
  pub same_masked : masked_phase ≤ s.check.phase → t.check.masked ≡ s.check.masked
  pub same_own : masked_phase ≤ s.check.phase → t.check.own ≡ s.check.own
  pub same_word : taken_phase ≤ s.check.phase → t.check.word ≡ s.check.word
  pub same_waiting : waits s ≡ true → t.waiting ≡ s.waiting

-- ".. until it is closed or dropped": with a set open at b, over any list of calls from any states on, none of which
-- ends it [SPEC 12.9]
unfoldable pub StaysUntilEnded : Type 0
StaysUntilEnded = (w : World) (b : Box) → loaded_phase ≤ (w.box b).check.phase → (cs : List Call)
    → ((e : Event) → In e (events w cs) → Ends b e → ⊥) → Stays (w.box b) ((after w cs).box b)

-- ---- what else it holds

-- a set's array places past L
abbrev pub PastLength : Set → Type 0
PastLength s = (i : ℕ) → s.terms.n ≤ i → (get_or s.mask i 0 ≡ 0) × (get_or s.x i 0 ≡ 0) × (get_or s.y i 0 ≡ 0)

-- "with no set open all of it is zero, code and L included, and array places past L are always zero", and so of the set
-- that waits: with none waiting all of it is zero, and none waits with none open [SPEC 12.8, 12.10, 12.11]
pub record Tidy (s : Party) : Type 0 where
  pub none_open : s.check.phase ≡ idle_phase → (s.check ≡ no_check) × (s.waiting ≡ no_set)
  pub none_waiting : waits s ≡ false → s.waiting ≡ no_set
  -- what calls 2 and 3 bring is zero before them
  pub unmasked : s.check.phase ≤ loaded_phase
      → (s.check.masked ≡ replicate most_elements 0) × (s.check.own ≡ 0)
  pub unworded : s.check.phase ≤ masked_phase → s.check.word ≡ 0
  pub past_length : PastLength s.check.set
  pub past_masked : (i : ℕ) → s.check.set.terms.n ≤ i → get_or s.check.masked i 0 ≡ 0
  pub past_waiting : PastLength s.waiting

unfoldable pub AlwaysTidy : Type 0
AlwaysTidy = (s : Starts) (cs : List Call) (b : Box) → Tidy ((after (beginning s) cs).box b)
