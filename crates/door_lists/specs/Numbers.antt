-- Numbers and open sets after any list of calls from accepted starts, whatever was handed in (01, "One check at a box"
-- and "A door's list of calls"). No proof stands here. Assumes nothing.
use Rattle.std.specs.Prelude.{◌≡◌, true, cond, List, [], ◌∷◌, map, ◌↔◌, ℕ, ◌<◌, ◌≤◌, length}
use Rattle.base_messages.specs.Messages.{out_of_turn, wrong_number}
use Rattle.half_seal.specs.Half.{whole_blocks, set_number}
use Rattle.call_party.specs.declared.Party.{Party}
use Rattle.call_party.specs.Party.{idle_phase, is_open, waits}
use Rattle.door_lists.specs.Lists.{Box, World, Starts, Started, beginning, Message, Call, load, mask, take}
use Rattle.door_lists.specs.Lists.{finish, drop, Event, dropped, refused, step, after, history}
use Rattle.door_lists.specs.Demand.{deals_in, loads_by, joins_in, collect, newest, last_dealt, last_loaded, last_joined}
use Rattle.door_lists.specs.Demand.{open_sets, held, vectors, sent_words}

-- "every accepted set number is above the last one, first the floor": newest first, each above what was the last number
abbrev pub Rise : ℕ → List ℕ → Type 0
Rise floor [] = Unit {0}
Rise floor (n ∷ l) = Rise floor l × (newest floor l < n)

-- the numbers of the sets that a state holds, the open one's first
abbrev pub numbers_in : Party → List ℕ
numbers_in s = cond (is_open s) (s.check.set.number ∷ cond (waits s) (s.waiting.number ∷ []) []) []

pub record NoTurn (w : World) (b : Box) : Type 0 where
  pub no_mask : (v out : List ℕ) → (step w (mask b v out)).event ≡ refused out_of_turn
  pub no_take : (m : Message (List ℕ)) → (step w (take b m)).event ≡ refused out_of_turn
  pub no_finish : (m : Message ℕ) → (step w (finish b m)).event ≡ refused out_of_turn

-- where h are the events so far, and w the states
pub record Numbers (s : Starts) (h : List Event) (w : World) : Type 0 where
  -- "A part's last number is that of its last accepted deal, load or join, else its floor"
  pub dealer_last : w.dealer.last ≡ last_dealt s.dealer_floor h
  pub box_last : (b : Box) → (w.box b).last ≡ last_loaded (s.box_floor b) b h
  pub lock_last : w.lock.last ≡ last_joined s.lock_floor h
  pub deals_rise : Rise s.dealer_floor (map (λ d. d.number) (collect deals_in h))
  pub loads_rise : (b : Box) → Rise (s.box_floor b) (collect (loads_by b) h)
  pub joins_rise : Rise s.lock_floor (collect joins_in h)
  -- a box has one set open, and one waiting behind it, or none; at phase 0, and only there, none of both
  pub few_open : (b : Box) → open_sets b h ≤ 2
  pub none_open : (b : Box) → ((w.box b).check.phase ≡ idle_phase) ↔ (open_sets b h ≡ 0)
  -- "Drop ends the open set", and is refused 3 "with no open set"
  pub drop_taken : (b : Box) → 1 ≤ open_sets b h → (step w (drop b)).event ≡ dropped b
  pub drop_refused : (b : Box) → open_sets b h ≡ 0 → (step w (drop b)).event ≡ refused out_of_turn
  -- 3, "A box call is out of its turn": with no set open calls 2, 3 and 4 are refused
  pub no_turn : (b : Box) → open_sets b h ≡ 0 → NoTurn w b
  -- 02, §1: "A load with a set already waiting is out of turn", whatever is handed in
  pub no_load : (b : Box) → open_sets b h ≡ 2 → (x : List ℕ) → (step w (load b x)).event ≡ refused out_of_turn
  -- else whole blocks whose number is not above the last one, or the open one's, are refused 7
  pub spent_load : (b : Box) → open_sets b h ≤ 1 → (x : List ℕ) → whole_blocks x ≡ true
      → set_number x ≤ last_loaded (s.box_floor b) b h → (step w (load b x)).event ≡ refused wrong_number
  -- the sets are those that were loaded and not ended, and the first of them is the open one, under whose number a step
  -- sends
  pub held_count : (b : Box) → length (held b h) ≡ open_sets b h
  pub held_are : (b : Box) → numbers_in (w.box b) ≡ held b h
  -- at most one masked vector and one word a number and box: a number is spent at its load, whatever the half held
  pub no_reuse : (b : Box) (n : ℕ) → (length (vectors b n h) ≤ 1) × (length (sent_words b n h) ≤ 1)

unfoldable pub NumbersKept : Type 0
NumbersKept = (s : Starts) → Started s → (cs : List Call) → Numbers s (history s cs) (after (beginning s) cs)
