-- After an admissible list that leaves no set open a run in the right order can be made to its end, and list and run
-- are one admissible list. Assumes nothing.
use mathlib.Core.Path.{◌≡◌, refl, sym, ap, ap₂, subst, ◌∙◌}
use mathlib.Core.Bool.{true, false}
use mathlib.Core.List.{List, [], ◌∷◌, ◌++◌}
use Prim.Native.Nat.{ℕ, ◌/◌, ◌^◌, ◌<◌}
use native.Mathlib.Omega.{arith}
use lib.ListN.{length, replicate}
use Rattle.half_seal.specs.Half.{block_at}
use Rattle.half_deal.specs.Dealing.{Deal}
use Rattle.door_lists.specs.Lists.{Box, camera, office, other, World, Starts, Started, beginning, Message, Call}
use Rattle.door_lists.specs.Lists.{deal, load, mask, take, finish, join, Event, dealt, step, after, events, In}
use Rattle.door_lists.specs.Lists.{there, Fits, Sent, SentVector, SentWord, SentAnswer, Admits, history}
use Rattle.door_lists.specs.Lists.{Admissible, deal_by_clock, here, refused, trial, drop}
use Rattle.door_lists.specs.Demand.{Progress, nothing_made, onward, Labelled, Ready, Run, start, own, InRange}
use Rattle.door_lists.specs.Demand.{Free, Begins, Ended}
use Rattle.door_lists.proofs.Boxes.{both}
use Rattle.door_lists.proofs.Once.{in_left}
use Rattle.door_lists.proofs.History.{door, half_of}
use Rattle.door_lists.proofs.Invariant.{door_long}
use Rattle.door_lists.proofs.Made.{said}
use Rattle.door_lists.proofs.Runs.{At, run_goes}
use Rattle.door_lists.proofs.Stuck.{room, mask_from, word_from, answer_from}

-- ---- a list that follows a list

pub after_both : (w : World) (rs cs : List Call) → after w (rs ++ cs) ≡ after (after w cs) rs
after_both w [] cs = refl
after_both w (c ∷ rs) cs = ap (λ y. (step y c).world) (after_both w rs cs)

pub events_both : (w : World) (rs cs : List Call) → events w (rs ++ cs) ≡ events (after w cs) rs ++ events w cs
events_both w [] cs = refl
events_both w (c ∷ rs) cs = ap₂ (λ y h. (step y c).event ∷ h) (after_both w rs cs) (events_both w rs cs)

-- ---- what a run's own call is handed is admitted, after its events h and any before them

module _ (name : List ℕ) (d : Deal) (v : Box → List ℕ) where
  as_sent : {A : Type 0} (P : Box → ℕ → A → Type 0) (kind : ℕ) (b : Box) (m : Message A)
      → Labelled name kind b d.number m → P b d.number m.content → Sent name kind P m
  as_sent P kind b m a p =
      λ k n. (b, ap (λ l. l.sender) a.0, subst (λ i. P b i m.content) (sym (ap (λ l. l.number) a.0)) p)

  pub admitted : (c : Call) (g : Progress) (h k : List Event) → ((e : Event) → In e h → In e k) → Ready name d v g h c
      → Admits name k c
  admitted (deal e out0 out1) g h k f r = tt
  admitted (deal_by_clock e out0 out1) g h k f r = tt
  admitted (load b x) g h k f (m, y, i, q) =
      λ j l. (d, y, f _ i, j, subst (λ z. j < length z / 512) q l, ap (λ z. block_at z j) q)
  admitted (mask b x out) g h k f r = tt
  admitted (take b m) g h k f (e, a, i) = as_sent (SentVector k) 0 (other b) m a (i.0, f _ i.1)
  admitted (finish b m) g h k f (e, a, i) = as_sent (SentWord k) 1 (other b) m a (f _ i)
  admitted (trial b x) g h k f r = elim r [ ]
  admitted (drop b) g h k f r = elim r [ ]
  admitted (join m n) g h k f (e, a, i, b, j) =
      (as_sent (SentAnswer k) 2 camera m a (f _ i), as_sent (SentAnswer k) 2 office n b (f _ j))

  pub fitting : d.number < 2 ^ 64 → (c : Call) (g : Progress) (h : List Event) → Ready name d v g h c → Fits c
  fitting k (deal e out0 out1) g h (m, q, r0, r1) = subst (λ z. z.number < 2 ^ 64) (sym q) k
  fitting k (deal_by_clock e out0 out1) g h r = subst (λ z. z.number < 2 ^ 64) (sym r.5) k
  fitting k (load b x) g h r = tt
  fitting k (mask b x out) g h r = tt
  fitting k (take b m) g h r = tt
  fitting k (finish b m) g h r = tt
  fitting k (trial b x) g h r = elim r [ ]
  fitting k (drop b) g h r = elim r [ ]
  fitting k (join m n) g h r = tt

-- ---- a whole run, box by box

pub third : {e f g : Event} {h : List Event} → In e (f ∷ g ∷ e ∷ h)
third = there (there (here refl))

module _ (s : Starts) (start_ok : Started s) (cs : List Call) (list_ok : Admissible s cs) (d : Deal) (v : Box → List ℕ)
    (R : InRange d v) (F : Free s (history s cs) d.number) where
  abbrev world : World
  world = after (beginning s) cs

  module _ (A : At s d v world nothing_made []) where
    -- a run of these calls that is so far, with these events
    record Reached (rs : List Call) (g : Progress) (es : List Event) : Type 0 where
      run : Run (door s) d v world rs g
      admissible : Admissible s (rs ++ cs)
      events_are : events world rs ≡ es

    in_both : (rs : List Call) (e : Event) → In e (events world rs) → In e (history s (rs ++ cs))
    in_both rs e i = subst (In e) (sym (events_both (beginning s) rs cs)) (in_left (events world rs) (history s cs) i)

    next : {rs : List Call} {g : Progress} {es : List Event} → Reached rs g es
        → (c : Call) → Ready (door s) d v g es c
        → Reached (c ∷ rs) (onward g c) (said s d v c ∷ es)
    next {rs} {g} {es} t c q =
        let h : List Event = events world rs in
        let r : Ready (door s) d v g h c = subst (λ z. Ready (door s) d v g z c) (sym t.events_are) q in
        let e = run_goes s d v (door_long s start_ok) R world A rs g t.run c r in
        record {
          run = own t.run c r;
          admissible = (
            t.admissible,
            fitting (door s) d v R.number_fits c g h r,
            admitted (door s) d v c g h (history s (rs ++ cs)) (in_both rs) r,
          );
          events_are = ap₂ ◌∷◌ e t.events_are;
        }

    history_is : {rs : List Call} {g : Progress} {es : List Event} → Reached rs g es
        → history s (rs ++ cs) ≡ es ++ history s cs
    history_is {rs} t = events_both (beginning s) rs cs ∙ ap (λ h. h ++ history s cs) t.events_are

    free_then : {rs : List Call} {g : Progress} {es : List Event} → Reached rs g es
        → (n : ℕ) → Free s (es ++ history s cs) n → Free s (history s (rs ++ cs)) n
    free_then t n f = subst (λ h. Free s h n) (sym (history_is t)) f

    abbrev newest_event : List Event → Event
    newest_event [] = refused 0
    newest_event (e ∷ h) = e

    none : Reached [] nothing_made []
    none = record { run = start; admissible = list_ok; events_are = refl }

    -- its first call is its deal, of either kind
    begun : (first : Call) → Begins (door s) d v first
        → Reached (first ∷ []) (record { begun = true; made = λ b. 0; ended = false }) (dealt d (half_of s d) ∷ [])
    begun (deal e out0 out1) r = next none (deal e out0 out1) r
    begun (deal_by_clock k out0 out1) r = next none (deal_by_clock k out0 out1) r
    begun (load b h) (m, f, i, q) = elim i [ ]
    begun (mask b x out) r = absurd (omega (arith, r.0))
    begun (take b m) r = absurd (omega (arith, r.0))
    begun (finish b m) r = absurd (omega (arith, r.0))
    begun (join m n) r = elim r.2 [ ]
    begun (trial b x) r = elim r [ ]
    begun (drop b) r = elim r [ ]

    pub ended : (first : Call) → Begins (door s) d v first → Ended s cs d v first
    ended first r =
        let out : List ℕ = replicate d.terms.n 0 in
        let t1 = begun first r in
        let t2 = next t1 (load camera (half_of s d camera)) (refl, half_of s d, here refl, refl) in
        let t3 = next t2 (load office (half_of s d office)) (refl, half_of s d, there (here refl), refl) in
        let t4 = next t3 (mask camera (v camera) out) (refl, refl, room d.terms.n) in
        let t5 = next t4 (mask office (v office) out) (refl, refl, room d.terms.n) in
        let t6 = next t5 (take camera (mask_from s d v office)) (refl, (refl, refl), (v office, here refl)) in
        let t7 = next t6 (take office (mask_from s d v camera)) (refl, (refl, refl), (v camera, third)) in
        let t8 = next t7 (finish camera (word_from s d v office)) (refl, (refl, refl), here refl) in
        let t9 = next t8 (finish office (word_from s d v camera)) (refl, (refl, refl), third) in
        let both_answers = join (answer_from s d v camera) (answer_from s d v office) in
        let t = next t9 both_answers (refl, (refl, refl), there (here refl), (refl, refl), here refl) in
        record {
          rs = _;
          later = _ ∷ _ ∷ _ ∷ _ ∷ _ ∷ _ ∷ _ ∷ _ ∷ _ ∷ [];
          begins = refl;
          written = half_of s d;
          deals = ap newest_event t1.events_are;
          g = _;
          run = t.run;
          whole = (refl, both _ refl refl, refl);
          admissible = t.admissible;
          before = _;
          says = history_is t;
          free = λ n l. free_then t n (record {
            -- a load opens a set, calls 2 and 3 leave it open, call 4 closes it
            none_open = both _ (rw (F.none_open camera) refl) (rw (F.none_open office) refl);
            above_dealer = l;
            above_box = both _ l l;
            above_lock = l;
          });
        }
