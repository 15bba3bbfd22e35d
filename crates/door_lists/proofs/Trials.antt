-- Trial load over lists of calls. Assumes nothing.
use mathlib.Core.Path.{◌≡◌, refl, sym, ap, ap₂, subst, ◌∙◌}
use mathlib.Core.Bool.{Bool, true, false, cond}
use mathlib.Core.List.{List, [], ◌∷◌}
use mathlib.Core.Logic.{◌⊎◌, inl, inr}
use Prim.Native.Nat.{ℕ}
use native.Mathlib.Omega.{arith}
use borrow.Author.Tests.{eqb-true}
use lib.Dec.{eqb}
use lib.ListN.{length}
use Rattle.measure_table.specs.declared.Terms.{Terms}
use Rattle.base_messages.specs.declared.Identity.{Identity}
use Rattle.base_messages.specs.Messages.{out_of_turn, word_kind, answer_kind, if_taken}
use Rattle.half_content.specs.declared.Set.{Set}
use Rattle.half_content.specs.Content.{no_terms}
use Rattle.half_seal.specs.Claims.{half_opened}
use Rattle.half_seal.specs.Half.{set_number, opened_set, opened_name}
use Rattle.half_deal.specs.Dealing.{Deal}
use Rattle.call_party.specs.declared.Party.{Party}
use Rattle.call_party.specs.declared.TrialAnswer.{TrialAnswer}
use Rattle.call_party.specs.Party as BoxCalls
use Rattle.call_party.specs.Claims.{brought, trial_agrees, TrialTells, trial_tells, masked_same, worded_same}
use Rattle.call_party.specs.Claims.{closed_taken}
use Rattle.call_party.specs.Laws.{opened_name_lem}
use Rattle.door_lists.specs.Lists.{Box, party_of, other, World, Starts, beginning, Message, Call, deal}
use Rattle.door_lists.specs.Lists.{deal_by_clock, load, trial, mask, take, finish, drop, join, Event, dealt, loaded}
use Rattle.door_lists.specs.Lists.{tried, sent, word, answer, dropped, joined, refused, event_of, put, step, after}
use Rattle.door_lists.specs.Lists.{events, In, here, there, history, Fits, Sent, Admits, Admissible}
use Rattle.door_lists.specs.Demand.{nothing_made, onward, start, own, aside, Begins}
use Rattle.door_lists.specs.Numbers.{NumbersKept}
use Rattle.door_lists.specs.Overlap.{still}
use Rattle.door_lists.specs.Trial.{is_trial, without_trials, other_events, NoTrace, HalvesFree}
use Rattle.door_lists.specs.Trial.{Foretells, StaysTaken, TriedInRun, CanTry, TriedAhead}
use Rattle.door_lists.specs.Trial.{FullRefused, TrialLoad}
use Rattle.door_lists.proofs.Accepted.{mask_tells, take_tells}
use Rattle.door_lists.proofs.Boxes.{put_own, put_all}
use Rattle.door_lists.proofs.Claims.{always, begins}
use Rattle.door_lists.proofs.Ends.{ended}
use Rattle.door_lists.proofs.Dealt.{set_of, set_terms, set_proper, Sound}
use Rattle.door_lists.proofs.History.{door, half_of}
use Rattle.door_lists.proofs.Invariant.{who_at, door_long}
use Rattle.door_lists.proofs.Made.{sound}
use Rattle.door_lists.proofs.Numbers.{numbers_kept}
use Rattle.door_lists.proofs.Overlaps as Overlaps
use Rattle.door_lists.proofs.Runs as Runs
use Rattle.door_lists.proofs.Written.{new}

-- ---- no trace

-- a call that is no trial
other_call : (w : World) (c : Call) (cs : List Call)
    → (after w cs ≡ after w (without_trials cs)) × (other_events w cs ≡ events w (without_trials cs))
    → ((step (after w cs) c).world ≡ (step (after w (without_trials cs)) c).world)
    × ((step (after w cs) c).event ∷ other_events w cs
    ≡ (step (after w (without_trials cs)) c).event ∷ events w (without_trials cs))
other_call w c cs (p, q) = (ap (λ x. (step x c).world) p, λ i. (step (p i) c).event ∷ q i)

no_trace : NoTrace
unfolding NoTrace
no_trace w [] = (refl, refl)
no_trace w (trial b h ∷ cs) = no_trace w cs
no_trace w (deal d out0 out1 ∷ cs) = other_call w (deal d out0 out1) cs (no_trace w cs)
no_trace w (deal_by_clock k out0 out1 ∷ cs) = other_call w (deal_by_clock k out0 out1) cs (no_trace w cs)
no_trace w (load b h ∷ cs) = other_call w (load b h) cs (no_trace w cs)
no_trace w (mask b v out ∷ cs) = other_call w (mask b v out) cs (no_trace w cs)
no_trace w (take b m ∷ cs) = other_call w (take b m) cs (no_trace w cs)
no_trace w (finish b m ∷ cs) = other_call w (finish b m) cs (no_trace w cs)
no_trace w (drop b ∷ cs) = other_call w (drop b) cs (no_trace w cs)
no_trace w (join m n ∷ cs) = other_call w (join m n) cs (no_trace w cs)

-- ---- its half is free

-- what the other calls did is among what all did
one_more : (x e : Event) (g h : List Event) → (In x g → In x h) → (t : Bool) → In x (cond t g (e ∷ g)) → In x (e ∷ h)
one_more x e g h f true j = there (f j)
one_more x e g h f false (here p) = here p
one_more x e g h f false (there j) = there (f j)

among : (w : World) (cs : List Call) (x : Event) → In x (other_events w cs) → In x (events w cs)
among w [] x i = i
among w (c ∷ cs) x i = one_more x _ (other_events w cs) (events w cs) (λ j. among w cs x j) (is_trial c) i

-- what is asked of a call is that something was done before: more may have been
module _ (door : List ℕ) (g h : List Event) (more : (x : Event) → In x g → In x h) where
  sent_more : {A : Type 0} (kind : ℕ) (f : Box → ℕ → A → Event) (m : Message A)
      → Sent door kind (λ b n c. In (f b n c) g) m → Sent door kind (λ b n c. In (f b n c) h) m
  sent_more kind f m s k n = let (b, p, i) = s k n in (b, p, more _ i)

  admits_more : (c : Call) → Admits door g c → Admits door h c
  admits_more (deal d out0 out1) a = a
  admits_more (deal_by_clock k out0 out1) a = a
  admits_more (load b x) a = λ i l. let (d, f, was, j, k, is) = a i l in (d, f, more _ was, j, k, is)
  admits_more (trial b x) a = a
  admits_more (mask b v out) a = a
  admits_more (take b m) a = λ k n. let (c, p, i) = a k n in (c, p, (i.0, more _ i.1))
  admits_more (finish b m) a = sent_more word_kind (λ c n y. sent c n (word y)) m a
  admits_more (drop b) a = a
  admits_more (join m n) (p, q) = (
    sent_more answer_kind (λ c k y. sent c k (answer y)) m p,
    sent_more answer_kind (λ c k y. sent c k (answer y)) n q,
  )

free_call : (s : Starts) (c : Call) (cs : List Call) → Admissible s cs
    → Fits c × Admits (door s) (history s (without_trials cs)) c → Admissible s (c ∷ cs)
unfolding NoTrace
free_call s c cs a (f, m) =
    let w : World = beginning s in
    let more : (x : Event) → In x (history s (without_trials cs)) → In x (history s cs) =
    λ x i. among w cs x (subst (In x) (sym (no_trace w cs).1) i) in
    (a, f, admits_more (door s) _ (history s cs) more c m)

halves_free : HalvesFree
unfolding HalvesFree
halves_free s [] a = tt
halves_free s (trial b h ∷ cs) a = (halves_free s cs a, tt, tt)
halves_free s (deal d out0 out1 ∷ cs) a = free_call s (deal d out0 out1) cs (halves_free s cs a.0) (a.1, a.2)
halves_free s (deal_by_clock k out0 out1 ∷ cs) a =
    free_call s (deal_by_clock k out0 out1) cs (halves_free s cs a.0) (a.1, a.2)
halves_free s (load b h ∷ cs) a = free_call s (load b h) cs (halves_free s cs a.0) (a.1, a.2)
halves_free s (mask b v out ∷ cs) a = free_call s (mask b v out) cs (halves_free s cs a.0) (a.1, a.2)
halves_free s (take b m ∷ cs) a = free_call s (take b m) cs (halves_free s cs a.0) (a.1, a.2)
halves_free s (finish b m ∷ cs) a = free_call s (finish b m) cs (halves_free s cs a.0) (a.1, a.2)
halves_free s (drop b ∷ cs) a = free_call s (drop b) cs (halves_free s cs a.0) (a.1, a.2)
halves_free s (join m n ∷ cs) a = free_call s (join m n) cs (halves_free s cs a.0) (a.1, a.2)

-- ---- what it says

-- 0 for a refusal, and which kind of an accepted call
abbrev kind_of : Event → ℕ
kind_of (refused why) = 0
kind_of (tried b name t) = 1
kind_of (dealt d f) = 2
kind_of (loaded b n) = 2
kind_of (sent b n x) = 2
kind_of (dropped b) = 2
kind_of (joined n bit) = 2

-- a call's event is its own if and only if it is not refused
is_own : (why : ℕ) (e : Event) → (kind_of (event_of why e) ≡ 0 → ⊥) → why ≡ 0
unfolding if_taken
is_own why e = go (eqb why 0) refl
  where
    go : (t : Bool) → eqb why 0 ≡ t → (kind_of (cond t e (refused why)) ≡ 0 → ⊥) → why ≡ 0
    go true q f = eqb-true why 0 q
    go false q f = absurd (f refl)

-- and where it is refused, so is every call with this number
refused_as : (why k : ℕ) (e f : Event) → (kind_of e ≡ 0 → ⊥) → event_of why e ≡ refused k → event_of why f ≡ refused k
unfolding if_taken
refused_as why k e f n = go (eqb why 0)
  where
    go : (t : Bool) → cond t e (refused why) ≡ refused k → cond t f (refused why) ≡ refused k
    go true p = absurd (n (ap kind_of p))
    go false p = p

-- a trial's event is a refusal, or what it tells
says_either : (why : ℕ) (b : Box) (name : List ℕ) (t : Terms)
    → ((k : ℕ) × (event_of why (tried b name t) ≡ refused k))
    ⊎ ((n : List ℕ) × (u : Terms) × (event_of why (tried b name t) ≡ tried b n u))
unfolding if_taken
says_either why b name t = go (eqb why 0)
  where
    go : (x : Bool) → ((k : ℕ) × (cond x (tried b name t) (refused why) ≡ refused k))
        ⊎ ((n : List ℕ) × (u : Terms) × (cond x (tried b name t) (refused why) ≡ tried b n u))
    go true = inr (name, t, refl)
    go false = inl (why, refl)

abbrev name_in : Event → List ℕ
name_in (tried b name t) = name
name_in (refused why) = []
name_in (dealt d f) = []
name_in (loaded b n) = []
name_in (sent b n x) = []
name_in (dropped b) = []
name_in (joined n bit) = []

abbrev terms_in : Event → Terms
terms_in (tried b name t) = t
terms_in (refused why) = no_terms
terms_in (dealt d f) = no_terms
terms_in (loaded b n) = no_terms
terms_in (sent b n x) = no_terms
terms_in (dropped b) = no_terms
terms_in (joined n bit) = no_terms

-- at one state
module _ (s : Party) (b : Box) (h : List ℕ) where
  abbrev tries : Event
  tries =
      let a : TrialAnswer = BoxCalls.trial s h in
      event_of a.why (tried b a.name a.terms)

  abbrev loads : Event
  loads = event_of (BoxCalls.load s h).why (loaded b (set_number h))

  same_why : loads ≡ event_of (BoxCalls.trial s h).why (loaded b (set_number h))
  same_why = ap (λ (k : ℕ). event_of k (loaded b (set_number h))) (sym (trial_agrees s h))

  alike : (why : ℕ) → (tries ≡ refused why → loads ≡ refused why) × (loads ≡ refused why → tries ≡ refused why)
  alike why = (
    λ p. same_why ∙ refused_as (BoxCalls.trial s h).why why _ (loaded b (set_number h)) (λ z. omega (arith, z)) p,
    λ p. refused_as (BoxCalls.trial s h).why why (loaded b (set_number h)) _ (λ z. omega (arith, z)) (sym same_why ∙ p),
  )

  -- where it tells something
  module _ (name : List ℕ) (t : Terms) (p : tries ≡ tried b name t) where
    none : (BoxCalls.trial s h).why ≡ 0
    none = is_own (BoxCalls.trial s h).why _ (λ (z : kind_of tries ≡ 0). omega (arith, sym (ap kind_of p) ∙ z))

    told : tried b (BoxCalls.trial s h).name (BoxCalls.trial s h).terms ≡ tried b name t
    told = sym (new (BoxCalls.trial s h).why _ (refused _) none) ∙ p

    tells : TrialTells s h
    tells = trial_tells s h (sym (trial_agrees s h) ∙ none)

    taken : (loads ≡ loaded b (set_number h)) × (name ≡ s.who.name)
        × (t ≡ (brought s (BoxCalls.load s h).party).terms)
    taken = (
      same_why ∙ new (BoxCalls.trial s h).why _ (refused _) none,
      sym (ap name_in told) ∙ tells.own_door,
      sym (ap terms_in told) ∙ tells.terms,
    )

foretells : Foretells
unfolding Foretells
foretells w b h cs p =
    let s : Party = w.box b in
    let then : (step (after w cs) (load b h)).event ≡ loads s b h = ap (λ (z : Party). loads z b h) p in
    record {
      says = says_either _ b _ _;
      refused_alike = λ why. (
        λ q. then ∙ (alike s b h why).0 q,
        λ q. (alike s b h why).1 (sym then ∙ q),
      );
      taken_alike = λ name t q.
          let k = taken s b h name t q in
          let left : (step (after w cs) (load b h)).world.box b ≡ (BoxCalls.load s h).party =
          put_own (after w cs).box b (BoxCalls.load ((after w cs).box b) h).party
          ∙ ap (λ (z : Party). (BoxCalls.load z h).party) p in
          (then ∙ k.0, k.1, k.2 ∙ ap (λ (z : Party). (brought s z).terms) (sym left));
    }

-- ---- a half that would be taken still would be, until one is loaded

-- box b takes h, and is who it was
abbrev Takes : List ℕ → Party → Party → Type 0
Takes h s t = (BoxCalls.why_not_load t h ≡ 0) × (t.who ≡ s.who)

-- what holds of box b's state s, of the state t that a call leaves, and of the call's event
module _ (h : List ℕ) where
  abbrev Spares : Box → Party → Event → Party → Type 0
  Spares b s e t = ((n : ℕ) → loaded b n ≡ e → ⊥) → BoxCalls.why_not_load s h ≡ 0 → Takes h s t

  unmoved : (b : Box) (s : Party) (e : Event) → Spares b s e s
  unmoved b s e = λ n z. (z, refl)

  either : (b : Box) (why : ℕ) (next s : Party) (e : Event) → (why ≡ 0 → Spares b s e next)
      → Spares b s (event_of why e) (if_taken why next s)
  unfolding if_taken
  either b why next s e f = go (eqb why 0) refl
    where
      go : (t : Bool) → eqb why 0 ≡ t → Spares b s (cond t e (refused why)) (cond t next s)
      go true q = f (eqb-true why 0 q)
      go false q = unmoved b s (refused why)

  on_box_lem : (w : World) (b : Box) (why : ℕ) (next : Party) (e : Event) → (why ≡ 0 → Spares b (w.box b) e next)
      → (c : Box) → Spares c (w.box c) (event_of why e) (put w.box b (if_taken why next (w.box b)) c)
  on_box_lem w b why next e f =
      put_all (λ c t. Spares c (w.box c) (event_of why e) t) w.box b _ (either b why next (w.box b) e f)
      (unmoved (other b) (w.box (other b)) (event_of why e))

  step_takes : (w : World) (c : Call) (b : Box) → Spares b (w.box b) (step w c).event ((step w c).world.box b)
  unfolding BoxCalls.load BoxCalls.mask BoxCalls.take_vector BoxCalls.finish BoxCalls.drop_set BoxCalls.masked
      BoxCalls.worded BoxCalls.closed
  step_takes w (deal d out0 out1) = λ b. unmoved b (w.box b) _
  step_takes w (deal_by_clock k out0 out1) = λ b. unmoved b (w.box b) _
  step_takes w (load b x) = on_box_lem w b _ _ _ (λ z n e. absurd (n _ refl))
  step_takes w (trial b x) = λ c. unmoved c (w.box c) _
  step_takes w (mask b v out) =
      on_box_lem w b _ _ _ (λ z n e.
      (masked_same (w.box b) v h (mask_tells (w.box b) v (length out) z).turn ∙ e, refl))
  step_takes w (take b m) =
      on_box_lem w b _ _ _ (λ z n e.
      (worded_same (w.box b) _ h (take_tells (w.box b) m.label m.name m.content z).turn ∙ e, refl))
  step_takes w (finish b m) = on_box_lem w b _ _ _ (λ z n e. (closed_taken (w.box b) h e, refl))
  step_takes w (drop b) = on_box_lem w b _ _ _ (λ z n e. (closed_taken (w.box b) h e, refl))
  step_takes w (join m n) = λ b. unmoved b (w.box b) _

  list_takes : (w : World) (b : Box) → BoxCalls.why_not_load (w.box b) h ≡ 0 → (cs : List Call)
      → ((n : ℕ) → In (loaded b n) (events w cs) → ⊥) → Takes h (w.box b) ((after w cs).box b)
  list_takes w b e [] f = (e, refl)
  list_takes w b e (c ∷ cs) f =
      let (k, who) = list_takes w b e cs (λ n i. f n (there i)) in
      let (k', who') = step_takes (after w cs) c b (λ n q. f n (here q)) k in
      (k', who' ∙ who)

-- of the same half the same is told
same_told : (h : List ℕ) (s t : Party) → BoxCalls.why_not_load s h ≡ 0 → Takes h s t
    → BoxCalls.trial t h ≡ BoxCalls.trial s h
unfolding BoxCalls.trial
same_told h s t e (k, who) =
    ap₂ (λ (why : ℕ) (i : Identity).
    record {
      why = why;
      name = if_taken why (opened_name i.key h) BoxCalls.no_name;
      terms = if_taken why (opened_set i.key h).terms no_terms;
    })
    (k ∙ sym e) who

stays_taken : StaysTaken
unfolding StaysTaken BoxCalls.trial
stays_taken w b h name t p cs f =
    let s : Party = w.box b in
    let e : BoxCalls.why_not_load s h ≡ 0 = none s b h name t p in
    let told = same_told h s ((after w cs).box b) e (list_takes h w b e cs f) in
    ap (λ (a : TrialAnswer). event_of a.why (tried b a.name a.terms)) told ∙ p

-- ---- the half that a run is about to load

-- a box of this door tells of a half that was dealt for it, and that it takes, the door and what was dealt
module _ (S : Starts) (d : Deal) (k : Sound d) (long : length (door S) ≡ 16) (b : Box) where
  half_told : (p : Party) (x : List ℕ) → p.who ≡ who_at S b → x ≡ half_of S d b → loads p b x ≡ loaded b d.number
      → tries p b x ≡ tried b (door S) d.terms
  unfolding BoxCalls.trial
  half_told p x who q e =
      let key : p.who.key ≡ S.key b = ap (λ i. i.key) who in
      let none : BoxCalls.why_not_load p x ≡ 0 =
      trial_agrees p x
      ∙ is_own (BoxCalls.load p x).why _ (λ (z : kind_of (loads p b x) ≡ 0). omega (arith, sym (ap kind_of e) ∙ z)) in
      let opened : opened_set p.who.key x ≡ set_of d b =
      ap₂ opened_set key q ∙ half_opened (S.key b) (door S) (party_of b) long (set_of d b) (set_proper d b k) in
      let name : (BoxCalls.trial p x).name ≡ door S =
      new _ (opened_name p.who.key x) _ none ∙ opened_name_lem p x none ∙ ap (λ i. i.name) who in
      let terms : (BoxCalls.trial p x).terms ≡ d.terms =
      new _ (opened_set p.who.key x).terms _ none ∙ ap (λ (z : Set). z.terms) opened ∙ set_terms d b in
      new _ (tried b (BoxCalls.trial p x).name (BoxCalls.trial p x).terms) _ none ∙ ap₂ (tried b) name terms

-- ---- in a run in the right order

tried_in_run : TriedInRun
unfolding TriedInRun
tried_in_run s f cs a d v R F rs g r =
    let w : World = after (beginning s) cs in
    let long = door_long s f in
    let B = begins s f cs a d v F in
    let A = Runs.running s d v long R w B r in
    record {
      mixed = λ b h. aside r (trial b h) refl;
      taken = λ b h q.
          let (m, dealt_by_lem, i, is) = q in
          let (last, st, low) = subst (Runs.Holds s d v b ((after w rs).box b)) m (A.box_at b) in
          half_told s d (sound s d v long R) long b ((after w rs).box b) h (ap (λ (p : Party). p.who) st)
          (is ∙ A.exact_at (dealt d dealt_by_lem) i b) (Runs.run_goes s d v long R w B rs g r (load b h) q);
    }

-- a run begins with a deal, and then no box has made a call
none_made : (door : List ℕ) (d : Deal) (v : Box → List ℕ) (first : Call) → Begins door d v first → (b : Box)
    → (onward nothing_made first).made b ≡ 0
none_made door d v (deal x out0 out1) r b = refl
none_made door d v (deal_by_clock k out0 out1) r b = refl
none_made door d v (load c h) (m, f, i, q) b = elim i [ ]
none_made door d v (mask c x out) (m, q, l) b = absurd (omega (arith, m))
none_made door d v (take c m) (e, q, i) b = absurd (omega (arith, e))
none_made door d v (finish c m) (e, q, i) b = absurd (omega (arith, e))
none_made door d v (join m n) (e, q, i, p, j) b = elim i [ ]
none_made door d v (trial c h) r b = elim r [ ]
none_made door d v (drop c) r b = elim r [ ]

can_try : CanTry
unfolding CanTry TriedInRun
can_try s f cs a d v R F first r =
    let w : World = after (beginning s) cs in
    let E = ended s f cs a d v R F (begins s f cs a d v F) first r in
    let run = tried_in_run s f cs a d v R F (first ∷ []) (onward nothing_made first) (own start first r) in (
      E.written,
      E.deals,
      λ b. run.taken b (E.written b) (none_made (door s) d v first r b, E.written, here (sym E.deals), refl),
    )

-- ---- with a set open, and with one waiting

tried_ahead : TriedAhead
unfolding TriedAhead
tried_ahead s cs d e v u T rs g o =
    let w : World = after (beginning s) cs in
    let long = door_long s T.started in
    let R = T.first_in_range in
    let Q = T.second_in_range in
    let B = Overlaps.ready s d e v u T.above (history s cs) w (always s T.started cs T.admissible) T.free in
    let A = Overlaps.running s d e v u T.above long R Q w B o in
    let who : (b : Box) → ((after w rs).box b).who ≡ who_at s b = λ b. ap (λ (p : Party). p.who) (A.box_at b).shows in
    record {
      mixed = λ b h. still o (trial b h) refl;
      first_taken = λ b h q.
          let (m, dealt_by_lem, i, is) = q.0 in
          half_told s d (sound s d v long R) long b ((after w rs).box b) h (who b)
          (is ∙ A.exact_at (dealt d dealt_by_lem) i b)
          (Overlaps.first_goes s d e v u T.above long R Q w B rs g o (load b h) q);
      second_taken = λ b h q.
          let (m, dealt_by_lem, i, is) = q.0 in
          half_told s e (sound s e u long Q) long b ((after w rs).box b) h (who b)
          (is ∙ A.exact_at (dealt e dealt_by_lem) i b)
          (Overlaps.second_goes s d e v u T.above long R Q w B rs g o (load b h) q);
    }

full_refused : FullRefused
unfolding FullRefused NumbersKept Foretells
full_refused s f cs b two h =
    ((foretells (after (beginning s) cs) b h [] refl).refused_alike out_of_turn).1
    ((numbers_kept s f cs).no_load b two h)

pub trial_load : TrialLoad
unfolding TrialLoad
trial_load =
    (no_trace, halves_free, foretells, stays_taken, tried_in_run, can_try, tried_ahead, full_refused)
