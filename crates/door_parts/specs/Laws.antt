-- A door and the four parts of a list are one another's; what a step's event says of a part's answer; and a run of
-- calls on a door is a list's. Assumes nothing.
use Rattle.std.specs.Prelude.{◌≡◌, refl, Bool, true, false, cond, List, ◌∷◌, ℕ, eqb}
use Rattle.std.proofs.Common.{sym, ap, ◌∙◌, eqb-true}
use Rattle.base_messages.specs.Messages.{if_taken}
use Rattle.door_lists.specs.Lists.{Box, camera, office, World, Call, Event, refused, event_of, step, after}
use Rattle.door_parts.specs.declared.Door.{Door}
use Rattle.door_parts.specs.Door.{boxes, world, back, event_why, event_word, call}

pub back_world : (d : Door) → back (world d) ≡ d
back_world d = refl

pub box_back : (w : World) (b : Box) → boxes (back w) b ≡ w.box b
box_back w camera = refl
box_back w office = refl

pub world_back : (w : World) → world (back w) ≡ w
world_back w = λ i. record { dealer = w.dealer; box = λ b. box_back w b i; lock = w.lock }

-- the event of an accepted call says nothing of a refusal, and so a step's says just why the part refused
pub why_said : (why : ℕ) (e : Event) → event_why e ≡ 0 → why ≡ event_why (event_of why e)
unfolding if_taken
why_said why e none = go (eqb why 0) refl
  where
    go : (t : Bool) → eqb why 0 ≡ t → why ≡ event_why (cond t e (refused why))
    go true h = eqb-true why 0 h ∙ sym none
    go false h = refl

-- and what an accepted call says it does not say where it is refused
pub word_said : (why : ℕ) (e : Event) → if_taken why (event_word e) 0 ≡ event_word (event_of why e)
unfolding if_taken
word_said why e = go (eqb why 0)
  where
    go : (t : Bool) → cond t (event_word e) 0 ≡ event_word (cond t e (refused why))
    go true = refl
    go false = refl

-- the door after a list of calls is that of the list before the last call, and then this call
pub after_call : (d : Door) (c : Call) (cs : List Call)
    → (call (back (after (world d) cs)) c).door ≡ back (after (world d) (c ∷ cs))
unfolding call
after_call d c cs = ap (λ (w : World). back (step w c).world) (world_back (after (world d) cs))
