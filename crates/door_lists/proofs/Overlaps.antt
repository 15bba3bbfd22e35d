-- Two runs that overlap: their world is known exactly, and none of their own calls is refused. Assumes nothing.
use mathlib.Core.Path.{◌≡◌, refl, sym, ap, subst, ◌∙◌}
use mathlib.Core.Bool.{true, false, true≢false}
use mathlib.Core.List.{List, [], ◌∷◌, ◌++◌, append-nil}
use Prim.Native.Nat.{ℕ, zero, suc, ◌<◌, ◌≤◌}
use native.Mathlib.Omega.{arith}
use lib.ListN.{length}
use Rattle.measure_table.specs.Laws.{length_fits_lem}
use Rattle.half_content.specs.Content.{no_set}
use Rattle.half_seal.specs.Half.{set_number}
use Rattle.half_deal.specs.Dealing.{Deal}
use Rattle.call_party.specs.declared.Party.{Party}
use Rattle.call_party.specs.declared.PartyAnswer.{PartyAnswer}
use Rattle.call_party.specs.Party as BoxCalls
use Rattle.call_party.specs.Laws.{water_of, water_below}
use Rattle.door_lists.specs.Lists.{Box, camera, office, World, Starts, Call, deal, load, mask, take, finish, drop}
use Rattle.door_lists.specs.Lists.{join, Body, vector, word, answer, Event, dealt, loaded, tried, sent, dropped}
use Rattle.door_lists.specs.Lists.{joined, refused, put, on_box, masked_by, step, after, events, In, here, there}
use Rattle.door_lists.specs.Lists.{deal_by_clock, trial}
use Rattle.call_dealer.specs.Dealer.{half_size}
use Rattle.call_dealer.specs.Clock.{deal_at}
use Rattle.call_dealer.specs.ClockLaws.{row_used}
use Rattle.door_lists.proofs.Clock.{as_plain}
use Rattle.door_lists.specs.Demand.{last_dealt, last_joined, made_one, onward, InRange, Free}
use Rattle.door_lists.specs.Overlap.{made_to}
use Rattle.door_lists.specs.Overlap.{Both, nothing_yet, ended_at, UnderWay, FirstReady}
use Rattle.door_lists.specs.Overlap.{SecondReady, Overlap, begin, of_first, of_second, first_dropped, still}
use Rattle.door_lists.specs.Overlap.{turned_down}
use Rattle.door_lists.proofs.Dealt.{set_of, set_number_lem, set_terms, mask_of, word_by, answer_by}
use Rattle.door_lists.proofs.Goes.{Behind, none_behind, one_behind, open_sound}
use Rattle.door_lists.proofs.History.{door, half_of}
use Rattle.door_lists.proofs.Invariant.{first_in, Fresh, Long, showing, last_at, dealer_with, lock_with, Inv}
use Rattle.door_lists.proofs.Once.{All}
use Rattle.door_lists.proofs.Slots.{Slot}
use Rattle.door_lists.proofs.Refusals.{refused_still}
use Rattle.door_lists.proofs.Unmoved.{Still, was_refused, of_still, unmoved}
use Rattle.door_lists.proofs.Runs.{none_sound, none_water, event_is}
use Rattle.door_lists.proofs.Made.{said, slot_at, slots_at, shown, Made, open_at, load_made, mask_made, take_made}
use Rattle.door_lists.proofs.Made.{finish_made, drop_made, deal_made, join_made}

-- what a box sent is the run's
abbrev pub Right : Deal → (Box → List ℕ) → Box → Body → Type 0
Right d v b (vector x m) = m ≡ mask_of d b (v b)
Right d v b (word w) = w ≡ word_by d v b
Right d v b (answer a) = a ≡ answer_by d v b

-- ---- one run's sets at a box

module _ (S : Starts) (d : Deal) (v : Box → List ℕ) where
  -- after all four calls there are none
  pub done : (b : Box) (k : ℕ) → 4 ≤ k → slots_at S d v b k ≡ []
  done b zero l = absurd (omega (arith, l))
  done b (suc zero) l = absurd (omega (arith, l))
  done b (suc (suc zero)) l = absurd (omega (arith, l))
  done b (suc (suc (suc zero))) l = absurd (omega (arith, l))
  done b (suc (suc (suc (suc k)))) l = refl

  slots_few : (b : Box) (k : ℕ) → length (slots_at S d v b k) ≤ 1
  slots_few b zero = omega arith
  slots_few b (suc zero) = omega arith
  slots_few b (suc (suc zero)) = omega arith
  slots_few b (suc (suc (suc zero))) = omega arith
  slots_few b (suc (suc (suc (suc k)))) = omega arith

  -- what may wait: no set, or the run's after its load
  slots_fresh : (b : Box) (k : ℕ) → k ≤ 1 → All Fresh (slots_at S d v b k)
  slots_fresh b zero l = tt
  slots_fresh b (suc zero) l = (tt, tt)
  slots_fresh b (suc (suc k)) l = absurd (omega (arith, l))

  module _ (long : length (door S) ≡ 16) (R : InRange d v) where
    slots_long : (b : Box) (k : ℕ) → k ≤ 1 → All Long (slots_at S d v b k)
    slots_long b zero l = tt
    slots_long b (suc zero) l = (rw (set_terms d b) (length_fits_lem d.terms R.length_fits_lem).0, tt)
    slots_long b (suc (suc k)) l = absurd (omega (arith, l))

    slots_behind : (n : ℕ) → n < d.number → (b : Box) (k : ℕ) → k ≤ 1 → Behind n (first_in (slots_at S d v b k))
    slots_behind n above b zero l = none_behind n
    slots_behind n above b (suc zero) l =
        one_behind n (set_of d b) (rw (set_number_lem d b) above)
        (rw (set_terms d b) R.code_fits) (rw (set_terms d b) R.length_fits_lem)
    slots_behind n above b (suc (suc k)) l = absurd (omega (arith, l))

    -- with these sets alone a box stands as 01's third refusal asks
    slots_sound : (b : Box) (last k : ℕ) → BoxCalls.sound (showing S b last (slots_at S d v b k)) ≡ true
    slots_sound b last zero = none_sound S d v b last
    slots_sound b last (suc zero) =
        open_sound 1 _ (open_at S d v long R b (slot_at S d v b 0) last [] (none_behind d.number) 1
        (omega arith) (omega arith) refl refl)
    slots_sound b last (suc (suc zero)) =
        open_sound 2 _ (open_at S d v long R b (slot_at S d v b 1) last [] (none_behind d.number) 2
        (omega arith) (omega arith) refl refl)
    slots_sound b last (suc (suc (suc zero))) =
        open_sound 3 _ (open_at S d v long R b (slot_at S d v b 2) last [] (none_behind d.number) 3
        (omega arith) (omega arith) refl refl)
    slots_sound b last (suc (suc (suc (suc k)))) = none_sound S d v b last

  -- and what a half's number has to be above is below n, if the last number and the run's are
  slots_water : (b : Box) (last n k : ℕ) → last < n → d.number < n
      → water_of (showing S b last (slots_at S d v b k)) < n
  unfolding BoxCalls.no_check no_set
  slots_water b last n k l m = water_below _ _ last n l (number_below k)
    where
      number_below : (j : ℕ) → (showing S b last (slots_at S d v b j)).check.set.number < n
      number_below zero = omega (arith, l)
      number_below (suc zero) = rw (set_number_lem d b) m
      number_below (suc (suc zero)) = rw (set_number_lem d b) m
      number_below (suc (suc (suc zero))) = rw (set_number_lem d b) m
      number_below (suc (suc (suc (suc j)))) = omega (arith, l)

-- ---- both

module _ (S : Starts) (d e : Deal) (v u : Box → List ℕ) (above : d.number < e.number) where
  abbrev pub Exact : Event → Type 0
  Exact (dealt x f) = (b : Box) → f b ≡ half_of S x b
  Exact (loaded b n) = Unit {0}
  Exact (tried b name t) = Unit {0}
  Exact (sent b n x) = (n ≡ d.number → Right d v b x) × (n ≡ e.number → Right e u b x)
  Exact (dropped b) = Unit {0}
  Exact (joined n bit) = Unit {0}
  Exact (refused why) = Unit {0}

  exact_first : (b : Box) (x : Body) → Right d v b x → Exact (sent b d.number x)
  exact_first b x r = (λ q. r, λ q. absurd (omega (arith, q, above)))

  exact_second : (b : Box) (x : Body) → Right e u b x → Exact (sent b e.number x)
  exact_second b x r = (λ q. absurd (omega (arith, q, above)), λ q. r)

  -- a box after k calls of the first and l of the second
  pub record Holds (b : Box) (s : Party) (k l : ℕ) : Type 0 where
    pub last : ℕ
    pub shows : s ≡ showing S b last (slots_at S d v b k ++ slots_at S e u b l)
    pub low_first : k ≡ 0 → last < d.number
    pub low_second : l ≡ 0 → last < e.number
    pub begins_first : k ≡ 0 → l ≡ 0
    pub waits_first : k ≤ 3 → l ≤ 1

  pub record At (w : World) (g : Both) (h : List Event) : Type 0 where
    pub dealer_last : ℕ
    pub dealer_is : w.dealer ≡ dealer_with S dealer_last
    pub dealer_first : g.first.begun ≡ false → dealer_last < d.number
    pub dealer_second : g.second.begun ≡ false → dealer_last < e.number
    pub box_at : (b : Box) → Holds b (w.box b) (g.first.made b) (g.second.made b)
    pub lock_last : ℕ
    pub lock_is : w.lock ≡ lock_with S lock_last
    pub lock_first : g.first.ended ≡ false → g.second.ended ≡ false → lock_last < d.number
    pub lock_second : g.second.ended ≡ false → lock_last < e.number
    pub exact_at : (x : Event) → In x h → Exact x

  more : (x : Event) (h : List Event) → Exact x → ((y : Event) → In y h → Exact y) → (y : Event) → In y (x ∷ h)
      → Exact y
  more x h k f y (here p) = subst Exact (sym p) k
  more x h k f y (there i) = f y i

  module _ (long : length (door S) ≡ 16) (R : InRange d v) (Q : InRange e u)
      (w : World) (g : Both) (h : List Event) (A : At w g h) where
    put_first : (b : Box) (s : Party) (k : ℕ) → Holds b s k (g.second.made b)
        → (c : Box) → Holds c (put w.box b s c) (put g.first.made b k c) (g.second.made c)
    put_first camera s k a camera = a
    put_first camera s k a office = A.box_at office
    put_first office s k a camera = A.box_at camera
    put_first office s k a office = a

    put_second : (b : Box) (s : Party) (l : ℕ) → Holds b s (g.first.made b) l
        → (c : Box) → Holds c (put w.box b s c) (g.first.made c) (put g.second.made b l c)
    put_second camera s l a camera = a
    put_second camera s l a office = A.box_at office
    put_second office s l a camera = A.box_at camera
    put_second office s l a office = a

    -- a box's call at the state that the runs give the box
    abbrev Called : Box → (Party → PartyAnswer) → (Party → Event) → Both → Event → Type 0
    Called b call leaves g' f =
        let o = on_box w b (call (w.box b)) (leaves (w.box b)) in
        (o.event ≡ f) × At o.world g' (o.event ∷ h)

    called : (b : Box) (call : Party → PartyAnswer) (leaves : Party → Event) (z s : Party) (f : Event)
        → w.box b ≡ z → Made S d v long R (call z) (leaves z) s f → Exact f
        → (let a : PartyAnswer = call (w.box b) in
        ((on_box w b a (leaves (w.box b))).event ≡ f) × (a.party ≡ s)
        × ((y : Event) → In y ((on_box w b a (leaves (w.box b))).event ∷ h) → Exact y))
    called b call leaves z s f st made x =
        let (y, p, q) = subst (λ t. Made S d v long R (call t) (leaves t) s f) (sym st) made in
        let r = event_is S d v (call (w.box b)).why (leaves (w.box b)) f y q in
        (r, p, more _ h (subst Exact (sym r) x) A.exact_at)

    first_called : (b : Box) (call : Party → PartyAnswer) (leaves : Party → Event) (z s : Party) (f : Event) (k : ℕ)
        → w.box b ≡ z → Made S d v long R (call z) (leaves z) s f → Exact f
        → Holds b s k (g.second.made b)
        → Called b call leaves (record {
          first = made_to g.first b k;
          second = g.second;
        }) f
    first_called b call leaves z s f k st made x hold =
        let (r, p, ex) = called b call leaves z s f st made x in (
          r,
          record {
            dealer_last = A.dealer_last;
            dealer_is = A.dealer_is;
            dealer_first = A.dealer_first;
            dealer_second = A.dealer_second;
            box_at = put_first b _ k (subst (λ t. Holds b t k (g.second.made b)) (sym p) hold);
            lock_last = A.lock_last;
            lock_is = A.lock_is;
            lock_first = A.lock_first;
            lock_second = A.lock_second;
            exact_at = ex;
          },
        )

    second_called : (b : Box) (call : Party → PartyAnswer) (leaves : Party → Event) (z s : Party) (f : Event) (l : ℕ)
        → w.box b ≡ z → Made S d v long R (call z) (leaves z) s f → Exact f
        → Holds b s (g.first.made b) l
        → Called b call leaves (record {
          first = g.first;
          second = made_to g.second b l;
        }) f
    second_called b call leaves z s f l st made x hold =
        let (r, p, ex) = called b call leaves z s f st made x in (
          r,
          record {
            dealer_last = A.dealer_last;
            dealer_is = A.dealer_is;
            dealer_first = A.dealer_first;
            dealer_second = A.dealer_second;
            box_at = put_second b _ l (subst (λ t. Holds b t (g.first.made b) l) (sym p) hold);
            lock_last = A.lock_last;
            lock_is = A.lock_is;
            lock_first = A.lock_first;
            lock_second = A.lock_second;
            exact_at = ex;
          },
        )

    -- ---- the first's calls

    abbrev FirstGoes : Call → Type 0
    FirstGoes c =
        ((step w c).event ≡ said S d v c)
        × At (step w c).world (record { first = onward g.first c; second = g.second }) ((step w c).event ∷ h)

    first_at : (b : Box) (k : ℕ) → g.first.made b ≡ k → Holds b (w.box b) k (g.second.made b)
    first_at b k m = subst (λ i. Holds b (w.box b) i (g.second.made b)) m (A.box_at b)

    first_deal : (out0 out1 : List ℕ) → g.first.begun ≡ false → half_size d.terms.n ≤ length out0
        → half_size d.terms.n ≤ length out1 → FirstGoes (deal d out0 out1)
    first_deal out0 out1 m r0 r1 =
        let k = deal_made S d v long R w.dealer A.dealer_last A.dealer_is (A.dealer_first m)
        out0 out1 r0 r1 in
        let r = event_is S d v _ _ _ k.0 k.2 in (
          r,
          record {
            dealer_last = d.number;
            dealer_is = k.1;
            dealer_first = λ z. absurd (true≢false z);
            dealer_second = λ z. above;
            box_at = A.box_at;
            lock_last = A.lock_last;
            lock_is = A.lock_is;
            lock_first = A.lock_first;
            lock_second = A.lock_second;
            exact_at = more _ h (subst Exact (sym r) (λ b. refl)) A.exact_at;
          },
        )

    -- a box's call of the first, before which k were made there: what waits behind its set stays
    module _ (b : Box) (k : ℕ) (m : g.first.made b ≡ k) (most : k ≤ 3) where
      abbrev H : Holds b (w.box b) k (g.second.made b)
      H = first_at b k m

      abbrev behind : List Slot
      behind = slots_at S e u b (g.second.made b)

      waiting : Behind d.number (first_in behind)
      waiting = slots_behind S e u long Q d.number above b (g.second.made b) (H.waits_first most)

      first_next : (call : Party → PartyAnswer) (leaves : Party → Event) (z s : Party) (f : Event) (j : ℕ) → 1 ≤ k
          → showing S b H.last (slots_at S d v b k ++ behind) ≡ z
          → Made S d v long R (call z) (leaves z) s f → Exact f
          → s ≡ showing S b H.last (slots_at S d v b j ++ behind) → k < j
          → Called b call leaves (record {
            first = made_to g.first b j;
            second = g.second;
          }) f
      first_next call leaves z s f j some at made x is later =
          first_called b call leaves z s f j (H.shows ∙ at) made x (record {
            last = H.last;
            shows = is;
            low_first = λ q. absurd (omega (arith, q, later));
            low_second = H.low_second;
            begins_first = λ q. absurd (omega (arith, q, later));
            waits_first = λ q. H.waits_first most;
          })

    one_on : (b : Box) (k : ℕ) (call : Party → PartyAnswer) (leaves : Party → Event) (f : Event) → g.first.made b ≡ k
        → Called b call leaves (record {
          first = made_to g.first b (suc k);
          second = g.second;
        }) f
        → Called b call leaves (record { first = made_one g.first b; second = g.second }) f
    one_on b k call leaves f m r =
        subst (λ i. Called b call leaves (record {
          first = made_to g.first b (suc i);
          second = g.second;
        }) f) (sym m) r

    goes_first : (c : Call) → FirstReady (door S) d e v u g h c → FirstGoes c
    goes_first (deal x out0 out1) ((m, q, r0, r1), o) =
        subst (λ y. FirstGoes (deal y out0 out1)) (sym q) (first_deal out0 out1 m r0 r1)
    goes_first (deal_by_clock k out0 out1) ((m, t, l, i, j, q, r0, r1), o) =
        subst (λ x. (x.event ≡ said S d v (deal (deal_at k) out0 out1))
        × At x.world (record { first = onward g.first (deal (deal_at k) out0 out1); second = g.second })
        (x.event ∷ h)) (sym (as_plain w k out0 out1 t))
        (subst (λ y. FirstGoes (deal y out0 out1)) (sym (row_used k t l i j ∙ q)) (first_deal out0 out1 m r0 r1))
    goes_first (load b x) ((m, f, i, q), o) =
        let K = subst (λ l. Holds b (w.box b) 0 l) o (first_at b 0 m) in
        let made = load_made S d v long R b K.last [] (omega arith) (none_sound S d v b K.last)
        (none_water S d v b K.last (K.low_first refl)) x (q ∙ A.exact_at (dealt d f) i b) in
        let hold : Holds b (showing S b d.number (slots_at S d v b 1)) 1 0 = record {
          last = d.number;
          shows = refl;
          low_first = λ z. absurd (omega (arith, z));
          low_second = λ z. above;
          begins_first = λ z. absurd (omega (arith, z));
          waits_first = λ z. omega arith;
        } in
        one_on b 0 (λ y. BoxCalls.load y x) (λ y. loaded b (set_number x)) _ m
        (first_called b (λ y. BoxCalls.load y x) (λ y. loaded b (set_number x)) (showing S b K.last [])
        (showing S b d.number (slots_at S d v b 1)) _ 1 K.shows made tt
        (subst (λ l. Holds b (showing S b d.number (slots_at S d v b 1)) 1 l) (sym o) hold))
    goes_first (trial b x) (r, o) = elim r [ ]
    goes_first (drop b) (r, o) = elim r [ ]
    goes_first (mask b x out) ((m, q, r), o) =
        let call : Party → PartyAnswer = λ y. BoxCalls.mask y x (length out) in
        let leaves : Party → Event = λ y. sent b y.check.set.number (vector x (masked_by y x out)) in
        let last = (H b 1 m (omega arith)).last in
        let ts = behind b 1 m (omega arith) in
        let made = mask_made S d v long R b last ts (waiting b 1 m (omega arith)) x out q r in
        one_on b 1 call leaves _ m (first_next b 1 m (omega arith) call leaves (shown S d v b 0 last ts)
        (shown S d v b 1 last ts) _ 2 (omega arith) refl made
        (exact_first b (vector (v b) (mask_of d b (v b))) refl) refl (omega arith))
    goes_first (take b m) ((k, a, i), o) =
        let call : Party → PartyAnswer = λ y. BoxCalls.take_vector y m.label m.name m.content in
        let leaves : Party → Event = λ y. sent b y.check.set.number (word (call y).word) in
        let last = (H b 2 k (omega arith)).last in
        let ts = behind b 2 k (omega arith) in
        let made = take_made S d v long R b last ts (waiting b 2 k (omega arith)) m a ((A.exact_at _ i.1).0 refl) in
        one_on b 2 call leaves _ k (first_next b 2 k (omega arith) call leaves (shown S d v b 1 last ts)
        (shown S d v b 2 last ts) _ 3 (omega arith) refl made
        (exact_first b (word (word_by d v b)) refl) refl (omega arith))
    goes_first (finish b m) ((k, a, i), o) =
        let call : Party → PartyAnswer = λ y. BoxCalls.finish y m.label m.name m.content in
        let leaves : Party → Event = λ y. sent b y.check.set.number (answer (call y).word) in
        let last = (H b 3 k (omega arith)).last in
        let ts = behind b 3 k (omega arith) in
        let l = g.second.made b in
        let fresh_l = (H b 3 k (omega arith)).waits_first (omega arith) in
        let made = finish_made S d v long R b last ts (waiting b 3 k (omega arith)) (slots_few S e u b l)
        (slots_fresh S e u b l fresh_l) (slots_long S e u long Q b l fresh_l) m a ((A.exact_at _ i).0 refl) in
        one_on b 3 call leaves _ k (first_next b 3 k (omega arith) call leaves (shown S d v b 2 last ts)
        (showing S b last ts) _ 4 (omega arith) refl made
        (exact_first b (answer (answer_by d v b)) refl) refl (omega arith))
    goes_first (join m n) ((k, a, i, b, j), o) =
        let y = join_made S d v long R w.lock A.lock_last A.lock_is
        (A.lock_first k o) m n a b ((A.exact_at _ i).0 refl) ((A.exact_at _ j).0 refl) in
        let r = event_is S d v _ _ _ y.0 y.2 in (
          r,
          record {
            dealer_last = A.dealer_last;
            dealer_is = A.dealer_is;
            dealer_first = A.dealer_first;
            dealer_second = A.dealer_second;
            box_at = A.box_at;
            lock_last = d.number;
            lock_is = y.1;
            lock_first = λ z. absurd (true≢false z);
            lock_second = λ z. above;
            exact_at = more _ h (subst Exact (sym r) tt) A.exact_at;
          },
        )

    -- its drop at a box
    drops_first : (b : Box) (k : ℕ) → g.first.made b ≡ suc k → k ≤ 2
        → ((step w (drop b)).event ≡ dropped b)
        × At (step w (drop b)).world (record { first = ended_at g.first b; second = g.second })
        ((step w (drop b)).event ∷ h)
    drops_first b k m most = go k m most
      where
        slots_are : (j : ℕ) → j ≤ 2 → (last : ℕ) (ts : List Slot)
            → showing S b last (slots_at S d v b (suc j) ++ ts) ≡ shown S d v b j last ts
        slots_are zero s last ts = refl
        slots_are (suc zero) s last ts = refl
        slots_are (suc (suc zero)) s last ts = refl
        slots_are (suc (suc (suc j))) s last ts = absurd (omega (arith, s))

        go : (j : ℕ) → g.first.made b ≡ suc j → j ≤ 2
            → Called b BoxCalls.drop_set (λ y. dropped b) (record { first = ended_at g.first b; second = g.second })
            (dropped b)
        go j n s =
            let last = (H b (suc j) n (omega (arith, s))).last in
            let ts = behind b (suc j) n (omega (arith, s)) in
            let l = g.second.made b in
            let fresh_l = (H b (suc j) n (omega (arith, s))).waits_first (omega (arith, s)) in
            let made = drop_made S d v long R b last ts (waiting b (suc j) n (omega (arith, s))) (slots_few S e u b l)
            (slots_fresh S e u b l fresh_l) (slots_long S e u long Q b l fresh_l) j s in
            first_next b (suc j) n (omega (arith, s)) BoxCalls.drop_set (λ y. dropped b) (shown S d v b j last ts)
            (showing S b last ts) _ 4 (omega arith) (slots_are j s last ts) made tt refl (omega (arith, s))

    -- ---- the second's calls

    abbrev SecondGoes : Call → Type 0
    SecondGoes c =
        ((step w c).event ≡ said S e u c)
        × At (step w c).world (record { first = g.first; second = onward g.second c }) ((step w c).event ∷ h)

    second_at : (b : Box) (l : ℕ) → g.second.made b ≡ l → Holds b (w.box b) (g.first.made b) l
    second_at b l m = subst (λ i. Holds b (w.box b) (g.first.made b) i) m (A.box_at b)

    second_deal : (out0 out1 : List ℕ) → g.second.begun ≡ false → g.first.begun ≡ true
        → half_size e.terms.n ≤ length out0 → half_size e.terms.n ≤ length out1 → SecondGoes (deal e out0 out1)
    second_deal out0 out1 m o r0 r1 =
        let k = deal_made S e u long Q w.dealer A.dealer_last A.dealer_is (A.dealer_second m)
        out0 out1 r0 r1 in
        let r = event_is S e u _ _ _ k.0 k.2 in (
          r,
          record {
            dealer_last = e.number;
            dealer_is = k.1;
            dealer_first = λ z. absurd (true≢false (sym o ∙ z));
            dealer_second = λ z. absurd (true≢false z);
            box_at = A.box_at;
            lock_last = A.lock_last;
            lock_is = A.lock_is;
            lock_first = A.lock_first;
            lock_second = A.lock_second;
            exact_at = more _ h (subst Exact (sym r) (λ b. refl)) A.exact_at;
          },
        )

    one_on_second : (b : Box) (l : ℕ) (call : Party → PartyAnswer) (leaves : Party → Event) (f : Event)
        → g.second.made b ≡ l
        → Called b call leaves (record {
          first = g.first;
          second = made_to g.second b (suc l);
        }) f
        → Called b call leaves (record { first = g.first; second = made_one g.second b }) f
    one_on_second b l call leaves f m r =
        subst (λ i. Called b call leaves (record {
          first = g.first;
          second = made_to g.second b (suc i);
        }) f) (sym m) r

    -- its load, behind what the first has there
    second_load : (b : Box) (x : List ℕ) → g.second.made b ≡ 0 → 1 ≤ g.first.made b → x ≡ half_of S e b
        → SecondGoes (load b x)
    second_load b x m o q =
        let k = g.first.made b in
        let K = second_at b 0 m in
        let ts = slots_at S d v b k in
        let low = K.low_second refl in
        let made = load_made S e u long Q b K.last ts (slots_few S d v b k) (slots_sound S d v long R b K.last k)
        (slots_water S d v b K.last e.number k low above) x q in
        let at : w.box b ≡ showing S b K.last ts = K.shows ∙ ap (showing S b K.last) (append-nil ts) in
        one_on_second b 0 (λ y. BoxCalls.load y x) (λ y. loaded b (set_number x)) _ m
        (second_called b (λ y. BoxCalls.load y x) (λ y. loaded b (set_number x)) (showing S b K.last ts)
        (showing S b e.number (ts ++ slots_at S e u b 1)) _ 1 at made tt (record {
          last = e.number;
          shows = refl;
          low_first = λ z. absurd (omega (arith, z, o));
          low_second = λ z. absurd (omega (arith, z));
          begins_first = λ z. absurd (omega (arith, z, o));
          waits_first = λ z. omega arith;
        }))

    -- its calls 2 to 4 at a box where the first has ended, before which l were made there
    module _ (b : Box) (l : ℕ) (m : g.second.made b ≡ l) (some : 1 ≤ l) (over : 4 ≤ g.first.made b) where
      abbrev K : Holds b (w.box b) (g.first.made b) l
      K = second_at b l m

      alone_at : (j : ℕ) → showing S b K.last (slots_at S d v b (g.first.made b) ++ slots_at S e u b j)
          ≡ showing S b K.last (slots_at S e u b j)
      alone_at j =
          ap (λ (ts : List Slot). showing S b K.last (ts ++ slots_at S e u b j))
          (done S d v b (g.first.made b) over)

      second_next : (call : Party → PartyAnswer) (leaves : Party → Event) (z s : Party) (f : Event)
          → showing S b K.last (slots_at S e u b l) ≡ z
          → Made S d v long R (call z) (leaves z) s f → Exact f → s ≡ showing S b K.last (slots_at S e u b (suc l))
          → Called b call leaves (record { first = g.first; second = made_one g.second b }) f
      second_next call leaves z s f at made x is =
          one_on_second b l call leaves f m
          (second_called b call leaves z s f (suc l) (K.shows ∙ alone_at l ∙ at) made x (record {
            last = K.last;
            shows = is ∙ sym (alone_at (suc l));
            low_first = λ q. absurd (omega (arith, q, over));
            low_second = λ q. absurd (omega (arith, q));
            begins_first = λ q. absurd (omega (arith, q, over));
            waits_first = λ q. absurd (omega (arith, q, over));
          }))

    goes_second : (c : Call) → SecondReady (door S) d e v u g h c → SecondGoes c
    goes_second (deal x out0 out1) ((m, q, r0, r1), o) =
        subst (λ y. SecondGoes (deal y out0 out1)) (sym q) (second_deal out0 out1 m o r0 r1)
    goes_second (deal_by_clock k out0 out1) ((m, t, l, i, j, q, r0, r1), o) =
        subst (λ x. (x.event ≡ said S e u (deal (deal_at k) out0 out1))
        × At x.world (record { first = g.first; second = onward g.second (deal (deal_at k) out0 out1) })
        (x.event ∷ h)) (sym (as_plain w k out0 out1 t))
        (subst (λ y. SecondGoes (deal y out0 out1)) (sym (row_used k t l i j ∙ q)) (second_deal out0 out1 m o r0 r1))
    goes_second (load b x) ((m, f, i, q), o) = second_load b x m o (q ∙ A.exact_at (dealt e f) i b)
    goes_second (trial b x) (r, o) = elim r [ ]
    goes_second (drop b) (r, o) = elim r [ ]
    goes_second (mask b x out) ((m, q, r), o) =
        let call : Party → PartyAnswer = λ y. BoxCalls.mask y x (length out) in
        let leaves : Party → Event = λ y. sent b y.check.set.number (vector x (masked_by y x out)) in
        let last = (K b 1 m (omega arith) o).last in
        second_next b 1 m (omega arith) o call leaves (shown S e u b 0 last []) (shown S e u b 1 last []) _ refl
        (mask_made S e u long Q b last [] (none_behind e.number) x out q r)
        (exact_second b (vector (u b) (mask_of e b (u b))) refl) refl
    goes_second (take b m) ((k, a, i), o) =
        let call : Party → PartyAnswer = λ y. BoxCalls.take_vector y m.label m.name m.content in
        let leaves : Party → Event = λ y. sent b y.check.set.number (word (call y).word) in
        let last = (K b 2 k (omega arith) o).last in
        second_next b 2 k (omega arith) o call leaves (shown S e u b 1 last []) (shown S e u b 2 last []) _ refl
        (take_made S e u long Q b last [] (none_behind e.number) m a ((A.exact_at _ i.1).1 refl))
        (exact_second b (word (word_by e u b)) refl) refl
    goes_second (finish b m) ((k, a, i), o) =
        let call : Party → PartyAnswer = λ y. BoxCalls.finish y m.label m.name m.content in
        let leaves : Party → Event = λ y. sent b y.check.set.number (answer (call y).word) in
        let last = (K b 3 k (omega arith) o).last in
        second_next b 3 k (omega arith) o call leaves (shown S e u b 2 last []) (showing S b last []) _ refl
        (finish_made S e u long Q b last [] (none_behind e.number) (omega arith) tt tt m a ((A.exact_at _ i).1 refl))
        (exact_second b (answer (answer_by e u b)) refl) refl
    goes_second (join m n) ((k, a, i, b, j), o) =
        let y = join_made S e u long Q w.lock A.lock_last A.lock_is
        (A.lock_second k) m n a b ((A.exact_at _ i).1 refl) ((A.exact_at _ j).1 refl) in
        let r = event_is S e u _ _ _ y.0 y.2 in (
          r,
          record {
            dealer_last = A.dealer_last;
            dealer_is = A.dealer_is;
            dealer_first = A.dealer_first;
            dealer_second = A.dealer_second;
            box_at = A.box_at;
            lock_last = e.number;
            lock_is = y.1;
            lock_first = λ p q. absurd (true≢false q);
            lock_second = λ q. absurd (true≢false q);
            exact_at = more _ h (subst Exact (sym r) tt) A.exact_at;
          },
        )

  -- ---- both runs whole

  same_at : (w t : World) (g : Both) (h : List Event) (x : Event) → At w g h → t ≡ w → Still x → At t g (x ∷ h)
  same_at w t g h x B q r =
      let C : At t g h = subst (λ y. At y g h) (sym q) B in
      record {
        dealer_last = C.dealer_last;
        dealer_is = C.dealer_is;
        dealer_first = C.dealer_first;
        dealer_second = C.dealer_second;
        box_at = C.box_at;
        lock_last = C.lock_last;
        lock_is = C.lock_is;
        lock_first = C.lock_first;
        lock_second = C.lock_second;
        exact_at = more x h (of_still Exact (λ why. tt) (λ b name t. tt) x r) C.exact_at;
      }

  module _ (long : length (door S) ≡ 16) (R : InRange d v) (Q : InRange e u) (w : World) (A : At w nothing_yet []) where
    -- a drop of the first where its set is open
    pub drop_goes_on : (t : World) (g : Both) (h : List Event) → At t g h → (b : Box) → UnderWay g.first b
        → ((step t (drop b)).event ≡ dropped b)
        × At (step t (drop b)).world (record { first = ended_at g.first b; second = g.second })
        ((step t (drop b)).event ∷ h)
    drop_goes_on t g h B b (some, most) = go (g.first.made b) refl some most
      where
        go : (k : ℕ) → g.first.made b ≡ k → 1 ≤ k → k ≤ 3
            → ((step t (drop b)).event ≡ dropped b)
            × At (step t (drop b)).world (record { first = ended_at g.first b; second = g.second })
            ((step t (drop b)).event ∷ h)
        go zero m s l = absurd (omega (arith, s))
        go (suc k) m s l = drops_first long R Q t g h B b k m (omega (arith, l))

    pub running : {cs : List Call} {g : Both} → Overlap (door S) d e v u w cs g → At (after w cs) g (events w cs)
    running begin = A
    running (of_first {cs} {g} r c q) = (goes_first long R Q (after w cs) g (events w cs) (running r) c q).1
    running (of_second {cs} {g} r c q) = (goes_second long R Q (after w cs) g (events w cs) (running r) c q).1
    running (first_dropped {cs} {g} r b k) = (drop_goes_on (after w cs) g (events w cs) (running r) b k).1
    running (still {cs} {g} r c q) =
        same_at (after w cs) _ g (events w cs) _ (running r) q (unmoved (after w cs) c q)
    running (turned_down {cs} {g} r c why q) =
        same_at (after w cs) _ g (events w cs) _ (running r) (refused_still (after w cs) c why q)
        (was_refused why q)

    pub first_goes : (cs : List Call) (g : Both) → Overlap (door S) d e v u w cs g
        → (c : Call) → FirstReady (door S) d e v u g (events w cs) c → (step (after w cs) c).event ≡ said S d v c
    first_goes cs g r c q = (goes_first long R Q (after w cs) g (events w cs) (running r) c q).0

    pub second_goes : (cs : List Call) (g : Both) → Overlap (door S) d e v u w cs g
        → (c : Call) → SecondReady (door S) d e v u g (events w cs) c → (step (after w cs) c).event ≡ said S e u c
    second_goes cs g r c q = (goes_second long R Q (after w cs) g (events w cs) (running r) c q).0

  -- after an admissible list that leaves no set open
  pub ready : (h : List Event) (w : World) → Inv S h w → Free S h d.number → At w nothing_yet []
  ready h w I F =
      record {
        dealer_last = last_dealt S.dealer_floor h;
        dealer_is = I.dealer_is;
        dealer_first = λ z. F.above_dealer;
        dealer_second = λ z. omega (arith, above, F.above_dealer);
        box_at = λ b. let k = I.box_is b in idle_at b k.slots (k.ok.counted.count ∙ F.none_open b) k.shows;
        lock_last = last_joined S.lock_floor h;
        lock_is = I.lock_is;
        lock_first = λ y z. F.above_lock;
        lock_second = λ z. omega (arith, above, F.above_lock);
        exact_at = λ x z. elim z [ ];
      }
    where
      idle_at : (b : Box) (ts : List Slot) → length ts ≡ 0 → w.box b ≡ showing S b (last_at S b h) ts
          → Holds b (w.box b) 0 0
      idle_at b [] l q =
          record {
            last = last_at S b h;
            shows = q;
            low_first = λ z. F.above_box b;
            low_second = λ z. omega (arith, above, F.above_box b);
            begins_first = λ z. refl;
            waits_first = λ z. omega arith;
          }
      idle_at b (t ∷ ts) l q = absurd (omega arith)
