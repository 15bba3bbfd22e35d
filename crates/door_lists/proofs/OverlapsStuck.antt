-- Two runs that overlap are never stuck: both are whole, or a call of theirs may come next. Assumes nothing.
use mathlib.Core.Path.{◌≡◌, refl, sym, ap, subst, ◌∙◌}
use mathlib.Core.Bool.{Bool, true, false, true≢false}
use mathlib.Core.List.{List, [], ◌∷◌}
use mathlib.Core.Logic.{◌⊎◌, inl, inr}
use Prim.Native.Nat.{ℕ, zero, suc, ◌<◌, ◌≤◌}
use native.Mathlib.Omega.{arith}
use native.Mathlib.Decide.{dec_le}
use native.Mathlib.Nat.{lt_of_not-le}
use lib.ListN.{length, replicate}
use Rattle.half_deal.specs.Dealing.{Deal}
use Rattle.call_dealer.specs.Dealer.{half_size}
use Rattle.door_lists.specs.Lists.{Box, camera, office, other, World, Starts, Call, deal, load, mask, take}
use Rattle.door_lists.specs.Lists.{trial, finish, drop, join, Event, dealt, loaded, tried, sent, dropped}
use Rattle.door_lists.specs.Lists.{joined, refused, events, In, here, there, after, deal_by_clock}
use Rattle.door_lists.specs.Demand.{Progress, nothing_made, made_one, onward, Ready, Whole, InRange}
use Rattle.door_lists.specs.Overlap.{Both, nothing_yet, ended_at, UnderWay, FirstInOrder, SecondInOrder, FirstReady}
use Rattle.door_lists.specs.Overlap.{SecondReady, Overlap, begin, of_first, of_second, first_dropped, still}
use Rattle.door_lists.specs.Overlap.{turned_down}
use Rattle.door_lists.proofs.Boxes.{each, put_all}
use Rattle.door_lists.proofs.History.{door, half_of}
use Rattle.door_lists.proofs.Made.{said}
use Rattle.door_lists.proofs.Overlaps.{At, running, first_goes, second_goes, drop_goes_on}
use Rattle.door_lists.proofs.Stuck.{Has, has_later, has_next, goes_on, room, mask_from, word_from}
use Rattle.door_lists.proofs.Unmoved.{Still, was_refused, of_still, unmoved}

-- ---- kinds of events

abbrev kind_of : Event → ℕ
kind_of (dealt d f) = 0
kind_of (loaded b n) = 1
kind_of (sent b n x) = 2
kind_of (dropped b) = 3
kind_of (joined n bit) = 4
kind_of (refused why) = 5
kind_of (tried b name t) = 6

-- one more than the number that was dealt, and 0 of others
abbrev dealt_number : Event → ℕ
dealt_number (dealt d f) = suc d.number
dealt_number (loaded b n) = 0
dealt_number (tried b name t) = 0
dealt_number (sent b n x) = 0
dealt_number (dropped b) = 0
dealt_number (joined n bit) = 0
dealt_number (refused why) = 0

abbrev NoDrop : Event → Type 0
NoDrop x = kind_of x ≡ 3 → ⊥

before_drop : (b : Box) (x : Event) (h : List Event) → NoDrop x → In (dropped b) (x ∷ h) → In (dropped b) h
before_drop b x h n (here p) = absurd (n (sym (ap kind_of p)))
before_drop b x h n (there i) = i

-- a drop at one box is none at the other
abbrev box_of : Event → Box → ℕ
box_of (dealt d f) c = 0
box_of (loaded b n) c = 0
box_of (tried b name t) c = 0
box_of (sent b n x) c = 0
box_of (dropped camera) camera = 1
box_of (dropped camera) office = 0
box_of (dropped office) camera = 0
box_of (dropped office) office = 1
box_of (joined n bit) c = 0
box_of (refused why) c = 0

not_other : (b : Box) → dropped (other b) ≡ dropped b → ⊥
not_other camera p = omega (arith, ap (λ (x : Event). box_of x camera) p)
not_other office p = omega (arith, ap (λ (x : Event). box_of x office) p)

not_in : {b : Box} {h : List Event} (y : Event) → (dropped b ≡ y → ⊥) → (In (dropped b) h → ⊥)
    → In (dropped b) (y ∷ h) → ⊥
not_in y n f (here p) = n p
not_in y n f (there i) = f i

at_drop : (b c : Box) (h : List Event) → In (dropped b) h ⊎ (In (dropped b) h → ⊥)
    → In (dropped b) (dropped c ∷ h) ⊎ (In (dropped b) (dropped c ∷ h) → ⊥)
at_drop camera camera h k = inl (here refl)
at_drop office office h k = inl (here refl)
at_drop camera office h (inl i) = inl (there i)
at_drop camera office h (inr f) = inr (not_in (dropped office) (not_other office) f)
at_drop office camera h (inl i) = inl (there i)
at_drop office camera h (inr f) = inr (not_in (dropped camera) (not_other camera) f)

-- whether box b dropped
any_dropped : (b : Box) (h : List Event) → In (dropped b) h ⊎ (In (dropped b) h → ⊥)
any_dropped b [] = inr (λ i. elim i [ ])
any_dropped b (x ∷ h) = go (any_dropped b h) x
  where
    later : In (dropped b) h ⊎ (In (dropped b) h → ⊥) → (y : Event) → (dropped b ≡ y → ⊥)
        → In (dropped b) (y ∷ h) ⊎ (In (dropped b) (y ∷ h) → ⊥)
    later (inl i) y n = inl (there i)
    later (inr f) y n = inr (not_in y n f)

    go : In (dropped b) h ⊎ (In (dropped b) h → ⊥) → (y : Event)
        → In (dropped b) (y ∷ h) ⊎ (In (dropped b) (y ∷ h) → ⊥)
    go k (dropped c) = at_drop b c h k
    go k (dealt d f) = later k (dealt d f) (λ e. omega (arith, ap kind_of e))
    go k (loaded c n) = later k (loaded c n) (λ e. omega (arith, ap kind_of e))
    go k (tried c name t) = later k (tried c name t) (λ e. omega (arith, ap kind_of e))
    go k (sent c n y) = later k (sent c n y) (λ e. omega (arith, ap kind_of e))
    go k (joined n bit) = later k (joined n bit) (λ e. omega (arith, ap kind_of e))
    go k (refused why) = later k (refused why) (λ e. omega (arith, ap kind_of e))

-- before its first call
none_has : (S : Starts) (d : Deal) (v : Box → List ℕ) → Has S d v nothing_made []
none_has S d v =
    record {
      few = λ b. omega arith;
      has_deal = λ t. absurd (true≢false (sym t));
      has_left = λ b k l. absurd (omega (arith, l));
    }

-- a run's own call is no drop, and what it deals is the run's
said_no_drop : (S : Starts) (d : Deal) (v : Box → List ℕ) (g : Progress) (h : List Event) (c : Call)
    → Ready (door S) d v g h c → NoDrop (said S d v c)
said_no_drop S d v g h (deal x out0 out1) r e = omega (arith, e)
said_no_drop S d v g h (deal_by_clock x out0 out1) r e = omega (arith, e)
said_no_drop S d v g h (load b x) r e = omega (arith, e)
said_no_drop S d v g h (mask b x out) r e = omega (arith, e)
said_no_drop S d v g h (take b m) r e = omega (arith, e)
said_no_drop S d v g h (finish b m) r e = omega (arith, e)
said_no_drop S d v g h (trial b x) r e = elim r [ ]
said_no_drop S d v g h (drop b) r e = elim r [ ]
said_no_drop S d v g h (join m n) r e = omega (arith, e)

module _ (S : Starts) (d e : Deal) (v u : Box → List ℕ) (above : d.number < e.number) where
  -- what is known of the events, beside the world
  record Track (g : Both) (h : List Event) : Type 0 where
    first_has : ((b : Box) → In (dropped b) h → ⊥) → Has S d v g.first h
    second_has : Has S e u g.second h
    loaded_deal : (b : Box) → 1 ≤ g.first.made b → (f : Box → List ℕ) × In (dealt d f) h
    deal_begun : (f : Box → List ℕ) → In (dealt d f) h → g.first.begun ≡ true
    begun_deal : g.first.begun ≡ true → In (dealt d (half_of S d)) h
    begun_order : g.second.begun ≡ true → g.first.begun ≡ true
    dropped_ends : (b : Box) → In (dropped b) h → 4 ≤ g.first.made b

  abbrev pub FirstNext : Both → List Event → Type 0
  FirstNext g h = (c : Call) × FirstReady (door S) d e v u g h c

  abbrev pub Goes : Both → List Event → Type 0
  Goes g h =
      (Whole g.second × ((b : Box) → 4 ≤ g.first.made b))
      ⊎ (FirstNext g h ⊎ (((c : Call) × SecondReady (door S) d e v u g h c)
      ⊎ ((b : Box) × UnderWay g.first b × In (dropped (other b)) h)))

  module _ (g : Both) (h : List Event) (T : Track g h) where
    no_earlier : (x : Event) → ((b : Box) → In (dropped b) (x ∷ h) → ⊥) → (b : Box) → In (dropped b) h → ⊥
    no_earlier x f b i = f b (there i)

    not_dealt : (x : Event) (f : Box → List ℕ) → (suc d.number ≡ dealt_number x → ⊥) → In (dealt d f) (x ∷ h)
        → In (dealt d f) h
    not_dealt x f n (here p) = absurd (n (ap dealt_number p))
    not_dealt x f n (there i) = i

    -- an event that is of neither run, and no drop
    track_later : (x : Event) → NoDrop x → (suc d.number ≡ dealt_number x → ⊥) → Track g (x ∷ h)
    track_later x n m =
        record {
          first_has = λ f. has_later S d v g.first h x (T.first_has (no_earlier x f));
          second_has = has_later S e u g.second h x T.second_has;
          loaded_deal = λ b l. let k = T.loaded_deal b l in (k.0, there k.1);
          deal_begun = λ f i. T.deal_begun f (not_dealt x f m i);
          begun_deal = λ z. there (T.begun_deal z);
          begun_order = T.begun_order;
          dropped_ends = λ b i. T.dropped_ends b (before_drop b x h n i);
        }

    -- a call of the first at a box, before which k were made there
    track_box : (c : Call) (b : Box) (k : ℕ) (x : Event) → g.first.made b ≡ k
        → (r : Ready (door S) d v g.first h c) → x ≡ said S d v c → onward g.first c ≡ made_one g.first b
        → (suc d.number ≡ dealt_number x → ⊥) → ((f : Box → List ℕ) × In (dealt d f) h)
        → Track (record { first = made_one g.first b; second = g.second }) (x ∷ h)
    track_box c b k x m r q to nd D =
        let n : NoDrop x = subst NoDrop (sym q) (said_no_drop S d v g.first h c r) in
        record {
          first_has = λ f. subst (λ z. Has S d v z (x ∷ h)) to
              (has_next S d v g.first h (T.first_has (no_earlier x f)) c r x q);
          second_has = has_later S e u g.second h x T.second_has;
          loaded_deal = λ c l. (D.0, there D.1);
          deal_begun = λ f i. T.deal_begun f (not_dealt x f nd i);
          begun_deal = λ z. there (T.begun_deal z);
          begun_order = T.begun_order;
          dropped_ends = put_all (λ c j. In (dropped c) (x ∷ h) → 4 ≤ j) g.first.made b (suc (g.first.made b))
              (λ i. omega (arith, T.dropped_ends b (before_drop b x h n i)))
              (λ i. T.dropped_ends (other b) (before_drop (other b) x h n i));
        }

    -- its deal, of either kind
    track_deal : (c : Call) (r : Ready (door S) d v g.first h c) (x : Event) → x ≡ said S d v c
        → said S d v c ≡ dealt d (half_of S d)
        → onward g.first c ≡ record { begun = true; made = g.first.made; ended = g.first.ended }
        → Track (record { first = onward g.first c; second = g.second }) (x ∷ h)
    track_deal c r x q is to =
        let n : NoDrop x = subst NoDrop (sym q) (said_no_drop S d v g.first h c r) in
        let H = has_next S d v g.first h in
        subst (λ p. Track (record { first = p; second = g.second }) (x ∷ h)) (sym to)
        (record {
          first_has = λ f. subst (λ p. Has S d v p (x ∷ h)) to (H (T.first_has (no_earlier x f)) c r x q);
          second_has = has_later S e u g.second h x T.second_has;
          loaded_deal = λ b l. let k = T.loaded_deal b l in (k.0, there k.1);
          deal_begun = λ f i. refl;
          begun_deal = λ z. here (sym (q ∙ is));
          begun_order = λ z. refl;
          dropped_ends = λ b i. T.dropped_ends b (before_drop b x h n i);
        })

    track_first : (c : Call) → FirstReady (door S) d e v u g h c → (x : Event) → x ≡ said S d v c
        → Track (record { first = onward g.first c; second = g.second }) (x ∷ h)
    track_first (deal y out0 out1) (r, o) x q = track_deal (deal y out0 out1) r x q refl refl
    track_first (deal_by_clock y out0 out1) (r, o) x q = track_deal (deal_by_clock y out0 out1) r x q refl refl
    track_first (load b y) (r, o) x q =
        track_box (load b y) b 0 x r.0 r q refl (λ z. omega (arith, z ∙ ap dealt_number q)) (r.1, r.2)
    track_first (mask b y out) (r, o) x q =
        track_box (mask b y out) b 1 x r.0 r q refl (λ z. omega (arith, z ∙ ap dealt_number q))
        (T.loaded_deal b (omega (arith, r.0)))
    track_first (take b m) (r, o) x q =
        track_box (take b m) b 2 x r.0 r q refl (λ z. omega (arith, z ∙ ap dealt_number q))
        (T.loaded_deal b (omega (arith, r.0)))
    track_first (finish b m) (r, o) x q =
        track_box (finish b m) b 3 x r.0 r q refl (λ z. omega (arith, z ∙ ap dealt_number q))
        (T.loaded_deal b (omega (arith, r.0)))
    track_first (trial b y) (r, o) x q = elim r [ ]
    track_first (drop b) (r, o) x q = elim r [ ]
    track_first (join m n) (r, o) x q =
        let no_drop : NoDrop x = subst NoDrop (sym q) (said_no_drop S d v g.first h (join m n) r) in
        record {
          first_has = λ f. has_next S d v g.first h (T.first_has (no_earlier x f)) (join m n) r x q;
          second_has = has_later S e u g.second h x T.second_has;
          loaded_deal = λ b l. let k = T.loaded_deal b l in (k.0, there k.1);
          deal_begun = λ f i. T.deal_begun f (not_dealt x f (λ z. omega (arith, z ∙ ap dealt_number q)) i);
          begun_deal = λ z. there (T.begun_deal z);
          begun_order = T.begun_order;
          dropped_ends = λ b i. T.dropped_ends b (before_drop b x h no_drop i);
        }

    -- what the second deals is not the first's
    other_number : (c : Call) → suc d.number ≡ dealt_number (said S e u c) → ⊥
    other_number (deal y out0 out1) z = omega (arith, z, above)
    other_number (deal_by_clock y out0 out1) z = omega (arith, z, above)
    other_number (load b y) z = omega (arith, z)
    other_number (trial b y) z = omega (arith, z)
    other_number (mask b y out) z = omega (arith, z)
    other_number (take b m) z = omega (arith, z)
    other_number (finish b m) z = omega (arith, z)
    other_number (drop b) z = omega (arith, z)
    other_number (join m n) z = omega (arith, z)

    track_second : (c : Call) → SecondReady (door S) d e v u g h c → (x : Event) → x ≡ said S e u c
        → Track (record { first = g.first; second = onward g.second c }) (x ∷ h)
    track_second c (r, o) x q =
        let n : NoDrop x = subst NoDrop (sym q) (said_no_drop S e u g.second h c r) in
        let L = track_later x n (λ z. other_number c (z ∙ ap dealt_number q)) in
        record {
          first_has = L.first_has;
          second_has = has_next S e u g.second h T.second_has c r x q;
          loaded_deal = L.loaded_deal;
          deal_begun = L.deal_begun;
          begun_deal = L.begun_deal;
          begun_order = begun_then c r o;
          dropped_ends = L.dropped_ends;
        }
      where
        begun_then : (c : Call) → Ready (door S) e u g.second h c → SecondInOrder g c
            → (onward g.second c).begun ≡ true → g.first.begun ≡ true
        begun_then (deal y out0 out1) r o z = o
        begun_then (deal_by_clock y out0 out1) r o z = o
        begun_then (load b y) r o z = T.begun_order z
        begun_then (mask b y out) r o z = T.begun_order z
        begun_then (take b m) r o z = T.begun_order z
        begun_then (finish b m) r o z = T.begun_order z
        begun_then (trial b y) r o z = elim r [ ]
        begun_then (drop b) r o z = elim r [ ]
        begun_then (join m n) r o z = T.begun_order z

    track_dropped : (b : Box) → UnderWay g.first b → (x : Event) → x ≡ dropped b
        → Track (record { first = ended_at g.first b; second = g.second }) (x ∷ h)
    track_dropped b k x q =
        record {
          first_has = λ f. absurd (f b (here (sym q)));
          second_has = has_later S e u g.second h x T.second_has;
          loaded_deal = λ c l. let D = T.loaded_deal b k.0 in (D.0, there D.1);
          deal_begun = λ f i. T.deal_begun f (not_dealt x f (λ z. omega (arith, z ∙ ap dealt_number q)) i);
          begun_deal = λ z. there (T.begun_deal z);
          begun_order = T.begun_order;
          dropped_ends = put_all (λ c j. In (dropped c) (x ∷ h) → 4 ≤ j) g.first.made b 4 (λ i. omega arith)
              (λ i. T.dropped_ends (other b) (elsewhere i));
        }
      where
        elsewhere : In (dropped (other b)) (x ∷ h) → In (dropped (other b)) h
        elsewhere (here p) = absurd (not_other b (p ∙ q))
        elsewhere (there i) = i

    -- ---- what may come next

    -- a call of the second, where the first has ended at both boxes
    second_next : g.first.begun ≡ true → ((b : Box) → 4 ≤ g.first.made b) → Goes g h
    second_next begun over =
        elim (goes_on S e u g.second h T.second_has g.second.begun refl) as (λ z. Goes g h) [
          | inl whole ↦ inl (whole, over)
          | inr next ↦ inr (inr (inl (next.0, (next.1, order next.0 next.1))))
        ]
      where
        order : (c : Call) → Ready (door S) e u g.second h c → SecondInOrder g c
        order (deal y out0 out1) r = begun
        order (deal_by_clock y out0 out1) r = begun
        order (load b y) r = omega (arith, over b)
        order (mask b y out) r = over b
        order (take b m) r = over b
        order (finish b m) r = over b
        order (join m n) r = tt
        order (trial b y) r = elim r [ ]
        order (drop b) r = elim r [ ]

    module _ (A : (b : Box) → g.first.made b ≡ 0 → g.second.made b ≡ 0) where
      not_begun : (x : Bool) → g.second.begun ≡ x → g.first.begun ≡ false → g.second.begun ≡ false
      not_begun false p q = p
      not_begun true p q = absurd (true≢false (sym (T.begun_order p) ∙ q))

      -- the first alone, where none was dropped and the second is not joined
      first_goes_on : ((b : Box) → In (dropped b) h → ⊥) → g.second.ended ≡ false
          → Whole g.first ⊎ FirstNext g h
      first_goes_on none open_join =
          elim (goes_on S d v g.first h (T.first_has none) g.first.begun refl)
          as (λ z. Whole g.first ⊎ FirstNext g h) [
            | inl whole ↦ inl whole
            | inr next ↦ inr (next.0, (next.1, order next.0 next.1))
          ]
        where
          order : (c : Call) → Ready (door S) d v g.first h c → FirstInOrder g c
          order (deal y out0 out1) r = not_begun g.second.begun refl r.0
          order (deal_by_clock y out0 out1) r = not_begun g.second.begun refl r.0
          order (load b y) r = A b r.0
          order (mask b y out) r = tt
          order (take b m) r = tt
          order (finish b m) r = tt
          order (join m n) r = open_join
          order (trial b y) r = elim r [ ]
          order (drop b) r = elim r [ ]

      -- the first's next call at box b, which is not ahead of the other: it is loaded, or goes on if the other box did
      -- not drop it, or is dropped too
      loads_first : (b : Box) → g.first.made b ≡ 0 → (f : Box → List ℕ) → In (dealt d f) h → Goes g h
      loads_first b m f i = inr (inl (load b (f b), ((m, f, i, refl), A b m)))

      behind_next : (b : Box) (k : ℕ) → g.first.made b ≡ k → k < 4 → k ≤ g.first.made (other b)
          → (f : Box → List ℕ) → In (dealt d f) h
          → In (dropped (other b)) h ⊎ (In (dropped (other b)) h → ⊥) → Goes g h
      behind_next b zero m l o f i drop_or_not = loads_first b m f i
      behind_next b (suc k) m l o f i (inl gone) =
          inr (inr (inr (b, (omega (arith, m), omega (arith, m, l)), gone)))
      behind_next b (suc k) m l o f i (inr kept) = go (suc k) m
        where
          none : (c : Box) → In (dropped c) h → ⊥
          none = each (λ c. In (dropped c) h → ⊥) b (λ j. omega (arith, T.dropped_ends b j, m, l)) kept

          H : Has S d v g.first h
          H = T.first_has none

          go : (j : ℕ) → g.first.made b ≡ j → Goes g h
          go zero n = loads_first b n f i
          go (suc zero) n =
              inr (inl (mask b (v b) (replicate d.terms.n 0), ((n, refl, room d.terms.n), tt)))
          go (suc (suc zero)) n =
              inr (inl (
                take b (mask_from S d v (other b)),
                ((n, (refl, refl), (v (other b), H.has_left (other b) 1 (omega (arith, n, m, o)))), tt),
              ))
          go (suc (suc (suc zero))) n =
              inr (inl (
                finish b (word_from S d v (other b)),
                ((n, (refl, refl), H.has_left (other b) 2 (omega (arith, n, m, o))), tt),
              ))
          go (suc (suc (suc (suc j)))) n = absurd (omega (arith, n, m, l))

      at_box : g.first.begun ≡ true → (b : Box) → g.first.made b ≤ g.first.made (other b) → Goes g h
      at_box begun b o =
          elim (dec_le 4 (g.first.made b)) as (λ z. Goes g h) [
            | yes p ↦ second_next begun (each (λ c. 4 ≤ g.first.made c) b p (omega (arith, p, o)))
            | no p ↦ behind_next b (g.first.made b) refl (lt_of_not-le p) o (half_of S d) (T.begun_deal begun)
                (any_dropped (other b) h)
          ]

      neither : (x : Bool) → g.first.begun ≡ x → Goes g h
      neither false m =
          let out : List ℕ = replicate (half_size d.terms.n) 0 in
          inr (inl (
            deal d out out,
            (
              (m, refl, room (half_size d.terms.n), room (half_size d.terms.n)),
              not_begun g.second.begun refl m,
            ),
          ))
      neither true m =
          elim (dec_le (g.first.made camera) (g.first.made office)) as (λ z. Goes g h) [
            | yes p ↦ at_box m camera p
            | no p ↦ at_box m office (omega (arith, lt_of_not-le p))
          ]

  -- ---- of any two that overlap

  module _ (long : length (door S) ≡ 16) (R : InRange d v) (Q : InRange e u) (w : World)
      (A : At S d e v u above w nothing_yet []) where
    still_track : (g : Both) (h : List Event) → Track g h → (x : Event) → Still x → Track g (x ∷ h)
    still_track g h T x r =
        track_later g h T x (of_still NoDrop (λ why z. omega (arith, z)) (λ b name t z. omega (arith, z)) x r)
        (of_still (λ y. suc d.number ≡ dealt_number y → ⊥)
        (λ why z. omega (arith, z)) (λ b name t z. omega (arith, z)) x r)

    tracked : {cs : List Call} {g : Both} → Overlap (door S) d e v u w cs g → Track g (events w cs)
    tracked begin =
        record {
          first_has = λ f. none_has S d v;
          second_has = none_has S e u;
          loaded_deal = λ b l. absurd (omega (arith, l));
          deal_begun = λ f i. elim i [ ];
          begun_deal = λ z. absurd (true≢false (sym z));
          begun_order = λ z. absurd (true≢false (sym z));
          dropped_ends = λ b i. elim i [ ];
        }
    tracked (of_first {cs} {g} r c q) =
        track_first g (events w cs) (tracked r) c q _ (first_goes S d e v u above long R Q w A cs g r c q)
    tracked (of_second {cs} {g} r c q) =
        track_second g (events w cs) (tracked r) c q _ (second_goes S d e v u above long R Q w A cs g r c q)
    tracked (first_dropped {cs} {g} r b k) =
        track_dropped g (events w cs) (tracked r) b k _
        (drop_goes_on S d e v u above long R Q w A (after w cs) g (events w cs)
        (running S d e v u above long R Q w A r) b k).0
    tracked (still {cs} {g} r c q) = still_track g (events w cs) (tracked r) _ (unmoved (after w cs) c q)
    tracked (turned_down {cs} {g} r c why q) = still_track g (events w cs) (tracked r) _ (was_refused why q)

    pub never : (cs : List Call) (g : Both) → Overlap (door S) d e v u w cs g
        → Goes g (events w cs)
        × (((b : Box) → In (dropped b) (events w cs) → ⊥) → g.second.ended ≡ false
        → Whole g.first ⊎ FirstNext g (events w cs))
    never cs g r = (
      neither g (events w cs) (tracked r) order g.first.begun refl,
      first_goes_on g (events w cs) (tracked r) order,
    )
      where
        order : (b : Box) → g.first.made b ≡ 0 → g.second.made b ≡ 0
        order b m = ((running S d e v u above long R Q w A r).box_at b).begins_first m
