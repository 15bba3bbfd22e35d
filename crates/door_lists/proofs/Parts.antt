-- Which events leave which part alone, and what is said of a list's events after one more: laws by which the other
-- proofs know last_dealt, last_loaded, last_joined, open_sets, deals, vectors and sent_words. Assumes nothing.
use mathlib.Core.Path.{◌≡◌, refl, ap}
use mathlib.Core.Bool.{cond}
use mathlib.Core.List.{List, [], ◌∷◌, ◌++◌, append-nil}
use Prim.Native.Nat.{ℕ, suc, ◌+◌, ◌-◌}
use native.Mathlib.Omega.{arith}
use lib.Dec.{eqb}
use lib.ListN.{length, length-append, drop as without}
use Rattle.measure_table.specs.declared.Terms.{Terms}
use Rattle.half_deal.specs.Dealing.{Deal}
use Rattle.door_lists.specs.Lists.{Box, other, Event, Body, dealt, loaded, tried, sent, dropped, joined, refused}
use Rattle.door_lists.specs.Demand.{deals_in, loads_by, sends_by, drops_by, joins_in, vector_of, word_of, answer_of}
use Rattle.door_lists.specs.Demand.{deals, vectors, sent_words, last_dealt, last_loaded, last_joined, open_sets}
use Rattle.door_lists.specs.Demand.{held}
use Rattle.door_lists.proofs.Boxes.{apart, own_box}

-- ---- an event that is not this box's

pub record Away (b : Box) (e : Event) : Type 0 where
  pub no_load : loads_by b e ≡ []
  pub no_send : sends_by b e ≡ []
  pub no_drop : drops_by b e ≡ []

-- what is said of the box stays
module _ {b : Box} {e : Event} (a : Away b e) (h : List Event) where
  pub vectors_away : (n : ℕ) → vectors b n (e ∷ h) ≡ vectors b n h
  vectors_away n = rw a.no_send refl

  pub words_away : (n : ℕ) → sent_words b n (e ∷ h) ≡ sent_words b n h
  words_away n = rw a.no_send refl

  pub last_away : (floor : ℕ) → last_loaded floor b (e ∷ h) ≡ last_loaded floor b h
  last_away floor = rw a.no_load refl

  pub open_away : open_sets b (e ∷ h) ≡ open_sets b h
  open_away = rw (a.no_load, a.no_send, a.no_drop) (omega arith)

  pub held_away : held b (e ∷ h) ≡ held b h
  held_away = rw (a.no_load, a.no_send, a.no_drop) (append-nil (held b h))

-- an event of no box
pub dealt_away : (d : Deal) (f : Box → List ℕ) (b : Box) → Away b (dealt d f)
dealt_away d f b = record { no_load = refl; no_send = refl; no_drop = refl }

pub joined_away : (n bit : ℕ) (b : Box) → Away b (joined n bit)
joined_away n bit b = record { no_load = refl; no_send = refl; no_drop = refl }

pub refused_away : (why : ℕ) (b : Box) → Away b (refused why)
refused_away why b = record { no_load = refl; no_send = refl; no_drop = refl }

pub tried_away : (c : Box) (name : List ℕ) (t : Terms) (b : Box) → Away b (tried c name t)
tried_away c name t b = record { no_load = refl; no_send = refl; no_drop = refl }

-- ---- an event of box b

pub data Own (b : Box) : Event → Type 0 where
  own_load : (n : ℕ) → Own b (loaded b n)
  own_sent : (n : ℕ) (x : Body) → Own b (sent b n x)
  own_drop : Own b (dropped b)

pub other_away : (b : Box) (e : Event) → Own b e → Away (other b) e
other_away b e (own_load n) = record { no_load = rw (apart b) refl; no_send = refl; no_drop = refl }
other_away b e (own_sent n x) = record { no_load = refl; no_send = rw (apart b) refl; no_drop = refl }
other_away b e own_drop = record { no_load = refl; no_send = refl; no_drop = rw (apart b) refl }

-- what is said of the box after it
module _ (b : Box) (h : List Event) where
  pub vectors_sent : (n : ℕ) (x : Body) (m : ℕ)
      → vectors b m (sent b n x ∷ h) ≡ cond (eqb n m) (vector_of x) [] ++ vectors b m h
  vectors_sent n x m = rw (own_box b) refl

  pub words_sent : (n : ℕ) (x : Body) (m : ℕ)
      → sent_words b m (sent b n x ∷ h) ≡ cond (eqb n m) (word_of x) [] ++ sent_words b m h
  words_sent n x m = rw (own_box b) refl

  pub last_loaded_lem : (floor n : ℕ) → last_loaded floor b (loaded b n ∷ h) ≡ n
  last_loaded_lem floor n = rw (own_box b) refl

  pub open_loaded : (n : ℕ) → open_sets b (loaded b n ∷ h) ≡ suc (open_sets b h)
  open_loaded n = rw (own_box b) (omega arith)

  pub open_sent : (n : ℕ) (x : Body) → open_sets b (sent b n x ∷ h) ≡ open_sets b h - length (answer_of x)
  open_sent n x = rw (own_box b) (omega (arith, length-append (answer_of x) []))

  pub open_dropped : open_sets b (dropped b ∷ h) ≡ open_sets b h - 1
  open_dropped = rw (own_box b) (omega arith)

  pub held_loaded : (n : ℕ) → held b (loaded b n ∷ h) ≡ held b h ++ (n ∷ [])
  held_loaded n = rw (own_box b) refl

  pub held_sent : (n : ℕ) (x : Body) → held b (sent b n x ∷ h) ≡ without (length (answer_of x)) (held b h)
  held_sent n x =
      rw (own_box b, append-nil (answer_of x), append-nil (held b h))
      (ap (λ (k : ℕ). without k (held b h)) {x = length (answer_of x) + 0} {y = length (answer_of x)} (omega arith))

  pub held_dropped : held b (dropped b ∷ h) ≡ without 1 (held b h)
  held_dropped = rw (own_box b, append-nil (held b h)) refl

-- ---- an event that is no deal and no join

pub record Quiet (e : Event) : Type 0 where
  pub no_deal : deals_in e ≡ []
  pub no_join : joins_in e ≡ []

-- what is said of the dealer and of the lock stays
module _ {e : Event} (q : Quiet e) (h : List Event) where
  pub deals_quiet : (n : ℕ) → deals n (e ∷ h) ≡ deals n h
  deals_quiet n = rw q.no_deal refl

  pub dealt_quiet : (floor : ℕ) → last_dealt floor (e ∷ h) ≡ last_dealt floor h
  dealt_quiet floor = rw q.no_deal refl

  pub joined_quiet : (floor : ℕ) → last_joined floor (e ∷ h) ≡ last_joined floor h
  joined_quiet floor = rw q.no_join refl

pub refused_quiet : (why : ℕ) → Quiet (refused why)
refused_quiet why = record { no_deal = refl; no_join = refl }

pub tried_quiet : (c : Box) (name : List ℕ) (t : Terms) → Quiet (tried c name t)
tried_quiet c name t = record { no_deal = refl; no_join = refl }

pub own_quiet : (b : Box) (e : Event) → Own b e → Quiet e
own_quiet b e (own_load n) = record { no_deal = refl; no_join = refl }
own_quiet b e (own_sent n x) = record { no_deal = refl; no_join = refl }
own_quiet b e own_drop = record { no_deal = refl; no_join = refl }
