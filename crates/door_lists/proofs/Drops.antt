-- An open set can be dropped. Assumes nothing.
use mathlib.Core.Path.{◌≡◌, ap, ◌∙◌}
use mathlib.Core.List.{List, [], ◌∷◌}
use Prim.Native.Nat.{◌≤◌}
use native.Mathlib.Omega.{arith}
use Rattle.call_party.specs.Party as BoxCalls
use Rattle.call_party.specs.Party.{why_not_drop, closed}
use Rattle.door_lists.specs.Lists.{Box, World, Starts, Event, dropped, refused, drop, step}
use Rattle.door_lists.specs.Demand.{open_sets}
use Rattle.door_lists.proofs.Boxes.{put_own}
use Rattle.door_lists.proofs.Goes.{drop_goes}
use Rattle.door_lists.proofs.Invariant.{phase_of, slots_fit, opened_at_lem, showing, last_at, Inv}
use Rattle.door_lists.proofs.Slots.{Slot, Slots}
use Rattle.door_lists.proofs.Written.{new}

module _ (S : Starts) (h : List Event) where
  module _ (w : World) (I : Inv S h w) (b : Box) (open_set : 1 ≤ open_sets b h) where
    not_refused : why_not_drop (w.box b) ≡ 0
    not_refused = let k = I.box_is b in go k.slots k.shows k.ok
      where
        go : (ts : List Slot) → w.box b ≡ showing S b (last_at S b h) ts → Slots h b (last_at S b h) ts
            → why_not_drop (w.box b) ≡ 0
        go [] shows ok = absurd (omega (arith, ok.counted.count, open_set))
        go (t ∷ ts) shows ok =
            ap why_not_drop shows
            ∙ drop_goes (phase_of t) _ (opened_at_lem S b _ (last_at S b h) t ts
            (slots_fit S h I.good b (t ∷ ts) ok.holds) ok.counted.rising)

    pub dropped_then : ((step w (drop b)).event ≡ dropped b) × ((step w (drop b)).world.box b ≡ closed (w.box b))
    unfolding BoxCalls.drop_set
    dropped_then = (
      new (why_not_drop (w.box b)) (dropped b) (refused (why_not_drop (w.box b))) not_refused,
      put_own w.box b _ ∙ new (why_not_drop (w.box b)) (closed (w.box b)) (w.box b) not_refused,
    )
