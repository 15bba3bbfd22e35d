-- A run in the right order: the world of such a run is known exactly, and none of its own calls is refused.
-- Assumes nothing.
use mathlib.Core.Path.{◌≡◌, refl, sym, subst, ◌∙◌}
use mathlib.Core.Bool.{true, false, true≢false}
use mathlib.Core.List.{List, [], ◌∷◌}
use Prim.Native.Nat.{ℕ, zero, suc, ◌<◌, ◌≤◌}
use native.Mathlib.Omega.{arith}
use lib.ListN.{length}
use Rattle.half_seal.specs.Half.{set_number}
use Rattle.half_deal.specs.Dealing.{Deal}
use Rattle.call_day.specs.Claims.{Good}
use Rattle.call_dealer.specs.Dealer.{half_size}
use Rattle.call_dealer.specs.Clock.{ClockDeal, deal_at}
use Rattle.call_dealer.specs.ClockLaws.{row_used}
use Rattle.door_lists.proofs.Clock.{as_plain}
use Rattle.call_party.specs.declared.Party.{Party}
use Rattle.call_party.specs.declared.PartyAnswer.{PartyAnswer}
use Rattle.call_party.specs.Party as BoxCalls
use Rattle.call_party.specs.Party.{idle}
use Rattle.call_party.specs.Laws.{water_of}
use Rattle.door_lists.specs.Lists.{Box, camera, office, World, Starts, Call, deal, load, mask, take, finish, join}
use Rattle.door_lists.specs.Lists.{Event, dealt, loaded, tried, sent, dropped, joined, refused, vector, word}
use Rattle.door_lists.specs.Lists.{answer, put, event_of, on_box, masked_by, step, after, events, In, here, there}
use Rattle.door_lists.specs.Lists.{deal_by_clock, trial, drop}
use Rattle.door_lists.specs.Demand.{Progress, nothing_made, made_one, onward, Ready, Run, start, own, aside, turned}
use Rattle.door_lists.specs.Demand.{Answered, InRange, Free}
use Rattle.door_lists.proofs.Boxes.{party_fits}
use Rattle.door_lists.proofs.Goes.{idle_sound, none_behind}
use Rattle.door_lists.proofs.Dealt.{mask_of, word_by, answer_by}
use Rattle.door_lists.proofs.History.{door, half_of}
use Rattle.door_lists.proofs.Slots.{Slot}
use Rattle.door_lists.proofs.Written.{new}
use Rattle.door_lists.proofs.Invariant.{who_at, showing, last_at, dealer_with, lock_with, Inv}
use Rattle.door_lists.proofs.Refusals.{refused_still}
use Rattle.door_lists.proofs.Unmoved.{Still, was_refused, of_still, unmoved}
use Rattle.door_lists.proofs.Made.{said, shown, Made, load_made, mask_made, take_made, finish_made, deal_made}
use Rattle.door_lists.proofs.Made.{join_made}

module _ (S : Starts) (d : Deal) (v : Box → List ℕ) where
  -- what holds of the run's events so far
  abbrev pub Exact : Event → Type 0
  Exact (dealt e f) = (b : Box) → f b ≡ half_of S d b
  Exact (loaded b n) = Unit {0}
  Exact (tried b name t) = Unit {0}
  Exact (sent b n (vector x m)) = m ≡ mask_of d b (v b)
  Exact (sent b n (word w)) = w ≡ word_by d v b
  Exact (sent b n (answer a)) = a ≡ answer_by d v b
  Exact (dropped b) = Unit {0}
  Exact (joined n bit) = Unit {0}
  Exact (refused why) = Unit {0}

  -- a box with the run's set alone, after its load and k more calls
  abbrev alone : Box → ℕ → Party
  alone b k = shown S d v b k d.number []

  -- a box after k of its calls
  abbrev pub Holds : Box → Party → ℕ → Type 0
  Holds b s zero = (last : ℕ) × (s ≡ showing S b last []) × (last < d.number)
  Holds b s (suc zero) = s ≡ alone b 0
  Holds b s (suc (suc zero)) = s ≡ alone b 1
  Holds b s (suc (suc (suc zero))) = s ≡ alone b 2
  Holds b s (suc (suc (suc (suc k)))) = Unit {0}

  -- .. and of its world
  pub record At (w : World) (g : Progress) (h : List Event) : Type 0 where
    pub dealer_at : (last : ℕ) × (w.dealer ≡ dealer_with S last) × (g.begun ≡ false → last < d.number)
    pub box_at : (b : Box) → Holds b (w.box b) (g.made b)
    pub lock_at : (last : ℕ) × (w.lock ≡ lock_with S last) × (g.ended ≡ false → last < d.number)
    pub exact_at : (e : Event) → In e h → Exact e

  -- an idle box stands as 01's third refusal asks, and what a half's number has to be above is its last number
  pub none_sound : (b : Box) (last : ℕ) → BoxCalls.sound (showing S b last []) ≡ true
  unfolding idle
  none_sound b last = idle_sound (who_at S b) last (party_fits b)

  pub none_water : (b : Box) (last : ℕ) → last < d.number → water_of (showing S b last []) < d.number
  unfolding BoxCalls.high_water BoxCalls.no_check
  none_water b last l = l

  put_at : (f : Box → Party) (g : Box → ℕ) (b : Box) (s : Party) (k : ℕ) → Holds b s k
      → ((c : Box) → Holds c (f c) (g c)) → (c : Box) → Holds c (put f b s c) (put g b k c)
  put_at f g camera s k a q camera = a
  put_at f g camera s k a q office = q office
  put_at f g office s k a q camera = q camera
  put_at f g office s k a q office = a

  more : (e : Event) (h : List Event) → Exact e → ((g : Event) → In g h → Exact g) → (g : Event) → In g (e ∷ h)
      → Exact g
  more e h x f g (here p) = subst Exact (sym p) x
  more e h x f g (there i) = f g i

  pub event_is : (why : ℕ) (e g : Event) → why ≡ 0 → e ≡ g → event_of why e ≡ g
  event_is why e g z q = new why e (refused why) z ∙ q

  module _ (long : length (door S) ≡ 16) (R : InRange d v) where
    -- ---- the run's next own call is not refused, and its world is known again

    module _ (w : World) (g : Progress) (h : List Event) (A : At w g h) where
      abbrev Goes : Call → Type 0
      Goes c = ((step w c).event ≡ said S d v c) × At (step w c).world (onward g c) ((step w c).event ∷ h)

      -- a box's call, at the state that the run gives the box after k of its calls
      box_goes : (b : Box) (call : Party → PartyAnswer) (leaves : Party → Event) (z s : Party) (f : Event) (k : ℕ)
          → g.made b ≡ k → w.box b ≡ z
          → Made S d v long R (call z) (leaves z) s f → Exact f → Holds b s (suc k)
          → (let o = on_box w b (call (w.box b)) (leaves (w.box b)) in
          (o.event ≡ f) × At o.world (made_one g b) (o.event ∷ h))
      box_goes b call leaves z s f k m st made x hold =
          let a : PartyAnswer = call (w.box b) in
          let (y, p, q) = subst (λ u. Made S d v long R (call u) (leaves u) s f) (sym st) made in
          let r = event_is a.why (leaves (w.box b)) f y q in
          let after = subst (λ n. Holds b a.party (suc n)) (sym m) (subst (λ u. Holds b u (suc k)) (sym p) hold) in (
            r,
            record {
              dealer_at = A.dealer_at;
              box_at = put_at w.box g.made b a.party (suc (g.made b)) after A.box_at;
              lock_at = A.lock_at;
              exact_at = more _ h (subst Exact (sym r) x) A.exact_at;
            },
          )

      holding : (b : Box) (k : ℕ) → g.made b ≡ k → Holds b (w.box b) k
      holding b k e = subst (Holds b (w.box b)) e (A.box_at b)

      deal_goes_on : (out0 out1 : List ℕ) → g.begun ≡ false → half_size d.terms.n ≤ length out0
          → half_size d.terms.n ≤ length out1 → Goes (deal d out0 out1)
      deal_goes_on out0 out1 m r0 r1 =
          let k =
          deal_made S d v long R w.dealer A.dealer_at.0 A.dealer_at.1 (A.dealer_at.2 m) out0 out1 r0 r1 in
          let r = event_is _ _ _ k.0 k.2 in (
            r,
            record {
              dealer_at = (d.number, k.1, λ z. absurd (true≢false z));
              box_at = A.box_at;
              lock_at = A.lock_at;
              exact_at = more _ h (subst Exact (sym r) (λ b. refl)) A.exact_at;
            },
          )

      by_clock_goes : (k : ClockDeal) (out0 out1 : List ℕ) → Good k.table
          → Goes (deal (deal_at k) out0 out1) → Goes (deal_by_clock k out0 out1)
      by_clock_goes k out0 out1 t goes =
          subst (λ x. (x.event ≡ said S d v (deal (deal_at k) out0 out1))
          × At x.world (onward g (deal (deal_at k) out0 out1)) (x.event ∷ h)) (sym (as_plain w k out0 out1 t)) goes

      goes : (c : Call) → Ready (door S) d v g h c → Goes c
      goes (deal e out0 out1) (m, q, r0, r1) =
          subst (λ y. Goes (deal y out0 out1)) (sym q) (deal_goes_on out0 out1 m r0 r1)
      goes (deal_by_clock k out0 out1) (m, t, l, i, j, q, r0, r1) =
          by_clock_goes k out0 out1 t
          (subst (λ y. Goes (deal y out0 out1)) (sym (row_used k t l i j ∙ q)) (deal_goes_on out0 out1 m r0 r1))
      goes (load b x) (m, f, i, q) =
          let (last, st, l) = holding b 0 m in
          let made = load_made S d v long R b last [] (omega arith) (none_sound b last)
          (none_water b last l) x (q ∙ A.exact_at (dealt d f) i b) in
          box_goes b (λ y. BoxCalls.load y x) (λ y. loaded b (set_number x))
          (showing S b last []) (alone b 0) _ 0 m st made tt refl
      goes (mask b x out) (m, q, r) =
          let call : Party → PartyAnswer = λ y. BoxCalls.mask y x (length out) in
          let leaves : Party → Event = λ y. sent b y.check.set.number (vector x (masked_by y x out)) in
          box_goes b call leaves (alone b 0) (alone b 1) _ 1 m
          (holding b 1 m) (mask_made S d v long R b d.number [] (none_behind d.number) x out q r) refl refl
      goes (take b m) (e, a, i) =
          let call : Party → PartyAnswer = λ y. BoxCalls.take_vector y m.label m.name m.content in
          let leaves : Party → Event = λ y. sent b y.check.set.number (word (call y).word) in
          let made = take_made S d v long R b d.number [] (none_behind d.number) m a (A.exact_at _ i.1) in
          box_goes b call leaves (alone b 1) (alone b 2) _ 2 e (holding b 2 e) made refl refl
      goes (finish b m) (e, a, i) =
          let call : Party → PartyAnswer = λ y. BoxCalls.finish y m.label m.name m.content in
          let leaves : Party → Event = λ y. sent b y.check.set.number (answer (call y).word) in
          let made = finish_made S d v long R b d.number [] (none_behind d.number) (omega arith) tt tt m a
          (A.exact_at _ i) in
          box_goes b call leaves (alone b 2) (showing S b d.number []) _ 3 e (holding b 3 e) made refl tt
      goes (trial b x) r = elim r [ ]
      goes (drop b) r = elim r [ ]
      goes (join m n) (e, a, i, b, j) =
          let k = join_made S d v long R w.lock A.lock_at.0 A.lock_at.1
          (A.lock_at.2 e) m n a b (A.exact_at _ i) (A.exact_at _ j) in
          let r = event_is _ _ _ k.0 k.2 in (
            r,
            record {
              dealer_at = A.dealer_at;
              box_at = A.box_at;
              lock_at = (d.number, k.1, λ z. absurd (true≢false z));
              exact_at = more _ h (subst Exact (sym r) tt) A.exact_at;
            },
          )

    -- ---- the whole run

    -- a call that leaves the world as it was
    same_at : (w u : World) (g : Progress) (h : List Event) (e : Event) → At w g h → u ≡ w → Still e → At u g (e ∷ h)
    same_at w u g h e B q r =
        let C : At u g h = subst (λ y. At y g h) (sym q) B in
        record {
          dealer_at = C.dealer_at;
          box_at = C.box_at;
          lock_at = C.lock_at;
          exact_at = more e h (of_still Exact (λ why. tt) (λ b name t. tt) e r) C.exact_at;
        }

    pub running : (w : World) → At w nothing_made [] → {cs : List Call} {g : Progress} → Run (door S) d v w cs g
        → At (after w cs) g (events w cs)
    running w A start = A
    running w A (own {cs} {g} r c q) = (goes (after w cs) g (events w cs) (running w A r) c q).1
    running w A (aside {cs} {g} r c q) =
        same_at (after w cs) _ g (events w cs) _ (running w A r) q (unmoved (after w cs) c q)
    running w A (turned {cs} {g} r c why q) =
        same_at (after w cs) _ g (events w cs) _ (running w A r) (refused_still (after w cs) c why q)
        (was_refused why q)

    pub run_goes : (w : World) → At w nothing_made [] → (cs : List Call) (g : Progress)
        → Run (door S) d v w cs g → (c : Call) → Ready (door S) d v g (events w cs) c
        → (step (after w cs) c).event ≡ said S d v c
    run_goes w A cs g r c q = (goes (after w cs) g (events w cs) (running w A r) c q).0

  -- ---- after an admissible list that leaves no set open

  pub ready : (h : List Event) (w : World) → Inv S h w → Free S h d.number → At w nothing_made []
  ready h w I F =
      record {
        dealer_at = (_, I.dealer_is, λ z. F.above_dealer);
        box_at = λ b. let k = I.box_is b in idle_at b k.slots (k.ok.counted.count ∙ F.none_open b) k.shows;
        lock_at = (_, I.lock_is, λ z. F.above_lock);
        exact_at = λ e z. elim z [ ];
      }
    where
      idle_at : (b : Box) (ts : List Slot) → length ts ≡ 0 → w.box b ≡ showing S b (last_at S b h) ts
          → Holds b (w.box b) 0
      idle_at b [] l q = (_, q, F.above_box b)
      idle_at b (t ∷ ts) l q = absurd (omega arith)

  -- what each of its own calls leaves is an answer
  pub answered : (c : Call) (g : Progress) (h : List Event) → Ready (door S) d v g h c → Answered d v c (said S d v c)
  answered (deal e out0 out1) g h r = (half_of S d, refl)
  answered (deal_by_clock k out0 out1) g h r = (half_of S d, refl)
  answered (load b x) g h r = refl
  answered (mask b x out) g h r = (mask_of d b (v b), refl)
  answered (take b m) g h r = (word_by d v b, refl)
  answered (finish b m) g h r = (answer_by d v b, refl)
  answered (trial b x) g h r = elim r [ ]
  answered (drop b) g h r = elim r [ ]
  answered (join m n) g h r = refl
