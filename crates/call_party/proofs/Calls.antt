-- What the methods of a box come to: the answer of each, from its tests and from what it computes. Assumes nothing.
use mathlib.Core.Path.{◌≡◌, refl, sym, ap, ap₂, ◌∙◌}
use mathlib.Core.Bool.{Bool, true, false, not, ◌&&◌}
use mathlib.Core.List.{List}
use Prim.Native.Nat.{ℕ, suc, ◌-◌, ◌≤◌}
use native.Mathlib.Omega.{arith}
use borrow.Author.Tests.{leb-true, eqb-true, ne_eqb, not-true, not-false}
use lib.Dec.{eqb, leb}
use lib.ListN.{length, replicate}
use Rattle.base_algebra.specs.Bit.{both}
use Rattle.base_algebra.specs.Word.{add}
use Rattle.base_words.specs.List.{over, length_tab}
use Rattle.measure_table.specs.Measure.{most_elements, is_code, length_fits, all_in_range, own_word, carried}
use Rattle.measure_table.specs.Laws.{length_fits_lem}
use Rattle.share_vectors.specs.Share as Share
use Rattle.share_vectors.specs.Share.{plus}
use Rattle.base_messages.specs.declared.Label.{Label}
use Rattle.base_messages.specs.Messages.{out_of_turn, wrong_length, short_buffer, wrong_message, wrong_number}
use Rattle.base_messages.specs.Messages.{out_of_range}
use Rattle.base_messages.specs.Messages.{vector_kind, word_kind, office_party, unless, is_name, is_key, expected}
use Rattle.base_messages.specs.Messages.{padded}
use Rattle.base_messages.specs.Laws as Refusals
use Rattle.base_messages.specs.Laws.{turned_down, goes_on, passed, fits_short}
use Rattle.half_content.specs.declared.Set.{Set}
use Rattle.half_content.specs.Content.{fill, no_terms, no_set}
use Rattle.half_content.specs.Laws.{fill_over}
use Rattle.half_seal.specs.Half.{why_not, opened_set, opened_name}
use Rattle.half_open.specs.Examined as Half
use Rattle.half_open.specs.Examined.{Examined, Told}
use Rattle.call_party.specs.declared.Check.{Check}
use Rattle.call_party.specs.declared.Party.{Party}
use Rattle.call_party.specs.declared.PartyAnswer.{PartyAnswer}
use Rattle.call_party.specs.declared.TrialAnswer.{TrialAnswer}
use Rattle.call_party.specs.Party as P
use Rattle.call_party.specs.Party.{idle_phase, loaded_phase, masked_phase, taken_phase, idle, nobody, no_party}
use Rattle.call_party.specs.Party.{answered, why_not_party, start_party, state_fits, sound, in_turn, why_not_load}
use Rattle.call_party.specs.Party.{opened, loaded, why_not_mask, masked, masked_vector, mask_out, why_not_message}
use Rattle.call_party.specs.Party.{why_not_take, box_share, word_of, worded, why_not_finish, answer_of, closed}
use Rattle.call_party.specs.Party.{why_not_drop, load_turn, high_water, next_check, no_name}
use Rattle.call_party.specs.Laws.{opened_name_lem}

-- ---- an answer that refuses, and one that does not

abbrev told : ℕ → Party → ℕ → PartyAnswer
told why s w = record { why = why; party = s; word = w }

keeps : (k why : ℕ) (new s : Party) (w : ℕ) → k ≡ why → (k ≡ 0 → ⊥) → told k s 0 ≡ answered why new s w
keeps k why new s w e some = λ i. told (e i) (Refusals.refused new s e some i) (Refusals.refused w 0 e some i)

moves : (k why : ℕ) (next new s : Party) (x w : ℕ) → k ≡ why → k ≡ 0 → next ≡ new → x ≡ w
    → told k next x ≡ answered why new s w
moves k why next new s x w e none en ex =
    λ i. told (e i) ((en ∙ Refusals.taken new s e none) i) ((ex ∙ Refusals.taken w 0 e none) i)

-- a box whose check has ended, as `closed` hands it back
abbrev ended : Party → Party
ended s = record { who = s.who; last = s.last; check = next_check s.waiting; waiting = no_set }

-- ---- the turn

after_turn : {a b : Bool} (rest : ℕ) → a ≡ b → unless a out_of_turn rest ≡ unless b out_of_turn rest
after_turn rest e = ap (λ (t : Bool). unless t out_of_turn rest) e

-- an open set's length fits an array
open_most : (k : ℕ) (s : Party) → in_turn (suc k) s ≡ true → s.check.set.terms.n ≤ most_elements
unfolding in_turn sound state_fits
open_most k s e =
    let phase : ℕ = s.check.phase in
    let set = s.check.set in
    let now = both (eqb phase (suc k)) _ e in
    let at : phase ≡ suc k = eqb-true phase (suc k) now.0 in
    let some : phase ≡ 0 → ⊥ = λ z. omega arith in
    let fits = (both (state_fits s.who.party phase set.terms) _ now.1).0 in
    let state : leb phase 3 && (is_code set.terms.code && length_fits set.terms) ≡ true =
    rw (ne_eqb phase 0 some) at (both (leb s.who.party 1) _ fits).1 in
    (length_fits_lem set.terms (both (is_code set.terms.code) _ (both (leb phase 3) _ state).1).1).1

-- ---- load and trial

-- `t`: whether it is their turn; `above`: what the half's number has to be above
module _ (s : Party) (t : Bool) (et : t ≡ load_turn s) (h : List ℕ) where
  out_of_turn_lem : t ≡ false → out_of_turn ≡ why_not_load s h
  unfolding why_not_load
  out_of_turn_lem e = turned_down _ out_of_turn _ (ap not (sym et ∙ e))

  pub load_3 : t ≡ false → told out_of_turn s 0 ≡ P.load s h
  unfolding P.load
  load_3 e = keeps out_of_turn _ _ s 0 (out_of_turn_lem e) (λ z. omega arith)

  -- what a trial says of a half that would be turned down
  trial_turned : (k : ℕ) (r : TrialAnswer) → k ≡ why_not_load s h → (k ≡ 0 → ⊥)
      → r ≡ record { why = k; name = no_name; terms = no_terms } → r ≡ P.trial s h
  unfolding P.trial
  trial_turned k r e some er =
      er
      ∙ (λ i.
      record {
        why = e i;
        name = Refusals.refused (opened_name s.who.key h) no_name e some i;
        terms = Refusals.refused (opened_set s.who.key h).terms no_terms e some i;
      })

  pub trial_3 : (r : TrialAnswer) → not t ≡ true → r ≡ record { why = out_of_turn; name = no_name; terms = no_terms }
      → r ≡ P.trial s h
  trial_3 r e er = trial_turned out_of_turn r (out_of_turn_lem (not-true t e)) (λ z. omega arith) er

  module _ (now : t ≡ true) (above : ℕ)
      (ea : above ≡ high_water s.check.phase s.check.set.number s.last) where
    why_by : (k : ℕ) → k ≡ why_not s.who.key s.who.name s.who.party above h → k ≡ why_not_load s h
    unfolding why_not_load
    why_by k e =
        goes_on _ out_of_turn _ (ap not (sym et ∙ now))
        (e ∙ ap (λ (n : ℕ). why_not s.who.key s.who.name s.who.party n h) ea)

  module _ (now : not t ≡ false) (above : ℕ)
      (ea : above ≡ high_water s.check.phase s.check.set.number s.last) (x : Told)
      (ex : x ≡ Half.told s.who.key s.who.name s.who.party above h) where
    why_trial : x.why ≡ why_not_load s h
    unfolding Half.told
    why_trial = why_by (not-false t now) above ea x.why (ap (λ z. z.why) ex)

    pub trial_refused : (r : TrialAnswer) → (x.why ≡ 0 → ⊥)
        → r ≡ record { why = x.why; name = no_name; terms = no_terms } → r ≡ P.trial s h
    trial_refused r some er = trial_turned x.why r why_trial some er

    -- the name that stands in the half is the box's own
    pub trial_taken : x.why ≡ 0 → record { why = 0; name = s.who.name; terms = x.terms } ≡ P.trial s h
    unfolding P.trial Half.told
    trial_taken none =
        let why : 0 ≡ why_not_load s h = sym none ∙ why_trial in
        let terms = ap (λ z. z.terms) ex ∙ sym (Refusals.taken _ _ (ap (λ z. z.why) ex) none) in
        λ i.
        record {
          why = why i;
          name = (sym (opened_name_lem s h (sym why)) ∙ Refusals.taken (opened_name s.who.key h) no_name why refl) i;
          terms = (terms ∙ Refusals.taken (opened_set s.who.key h).terms no_terms why refl) i;
        }

  module _ (now : t ≡ true) (above : ℕ)
      (ea : above ≡ high_water s.check.phase s.check.set.number s.last) (x : Examined)
      (ex : x ≡ Half.examined s.who.key s.who.name s.who.party above h) where
    why_load : x.why ≡ why_not_load s h
    unfolding Half.examined
    why_load = why_by now above ea x.why (ap (λ z. z.why) ex)

    pub load_refused : (x.why ≡ 0 → ⊥) → told x.why s 0 ≡ P.load s h
    unfolding P.load
    load_refused some = keeps x.why _ _ s 0 why_load some

    opens : x.why ≡ 0 → x.set ≡ opened_set s.who.key h
    unfolding Half.examined
    opens none = ap (λ z. z.set) ex ∙ sym (Refusals.taken _ _ (ap (λ z. z.why) ex) none)

    -- what an accepted load leaves, with no set open and with one
    opened_at_lem : s.check.phase ≡ 0 → (y : Set)
        → record { who = s.who; last = y.number; check = opened y; waiting = no_set } ≡ loaded s y
    unfolding loaded
    opened_at_lem e y = rw e refl

    waits_at : (s.check.phase ≡ 0 → ⊥) → (y : Set)
        → record { who = s.who; last = y.number; check = s.check; waiting = y } ≡ loaded s y
    unfolding loaded
    waits_at e y = rw (ne_eqb s.check.phase 0 e) refl

    pub load_opens : (q : Check) (w : Set) → x.why ≡ 0 → s.check.phase ≡ 0 → q ≡ opened x.set → w ≡ no_set
        → told x.why (record { who = s.who; last = x.set.number; check = q; waiting = w }) 0 ≡ P.load s h
    unfolding P.load loaded
    load_opens q w none e eq ew =
        moves x.why _ _ _ s 0 0 why_load none
        (ap₂ (λ (c : Check) (y : Set). record { who = s.who; last = x.set.number; check = c; waiting = y }) eq ew
        ∙ opened_at_lem e x.set ∙ ap (loaded s) (opens none))
        refl

    pub load_waits : x.why ≡ 0 → (s.check.phase ≡ 0 → ⊥)
        → told x.why (record { who = s.who; last = x.set.number; check = s.check; waiting = x.set }) 0
        ≡ P.load s h
    unfolding P.load loaded
    load_waits none e =
        moves x.why _ _ _ s 0 0 why_load none (waits_at e x.set ∙ ap (loaded s) (opens none)) refl

-- ---- call 2

module _ (s : Party) (t : Bool) (et : t ≡ in_turn loaded_phase s) (v out : List ℕ) (k : ℕ)
    (ek : k
    ≡ unless t out_of_turn
    (unless (eqb (length v) s.check.set.terms.n) wrong_length
    (unless (leb s.check.set.terms.n (length out)) short_buffer
    (unless (all_in_range s.check.set.terms v) out_of_range 0))))
  where
    abbrev n : ℕ
    n = s.check.set.terms.n

    why_mask : k ≡ why_not_mask s v (length out)
    unfolding why_not_mask
    why_mask = ek ∙ after_turn _ et

    pub mask_fits_lem : k ≡ 0 → (n ≤ most_elements) × (length v ≡ n) × (n ≤ length out)
    unfolding why_not_mask
    mask_fits_lem none =
        let a = passed _ (sym why_mask ∙ none) in
        let b = passed _ a.1 in
        let c = passed _ b.1 in
        (open_most 0 s a.0, eqb-true (length v) n b.0, leb-true n (length out) c.0)

    pub mask_refused : (k ≡ 0 → ⊥) → told k s 0 ≡ P.mask s v (length out)
    unfolding P.mask
    mask_refused some = keeps k _ _ s 0 why_mask some

    pub out_refused : (k ≡ 0 → ⊥) → out ≡ mask_out s v out
    unfolding mask_out
    out_refused some = Refusals.refused _ out why_mask some

    pub mask_taken : (a : List ℕ) (o : ℕ) → k ≡ 0 → a ≡ fill (plus n v s.check.set.mask)
        → o ≡ own_word s.check.set.terms v
        → told k
        (record {
          who = s.who;
          last = s.last;
          check = record { phase = masked_phase; set = s.check.set; masked = a; own = o; word = 0 };
          waiting = s.waiting;
        })
        0
        ≡ P.mask s v (length out)
    unfolding P.mask masked masked_vector carried
    mask_taken a o none ea eo =
        moves k _ _ _ s 0 0 why_mask none
        (λ i.
        record {
          who = s.who;
          last = s.last;
          check = record { phase = masked_phase; set = s.check.set; masked = ea i; own = eo i; word = 0 };
          waiting = s.waiting;
        })
        refl

    pub out_taken : (written : List ℕ) → k ≡ 0 → written ≡ over 0 (plus n v s.check.set.mask) out
        → written ≡ mask_out s v out
    unfolding mask_out masked_vector carried
    out_taken written none e = e ∙ Refusals.taken _ out why_mask none

-- ---- calls 3 and 4: what `why_not_message` answers

module _ (phase kind : ℕ) (s : Party) (t : Bool) (et : t ≡ in_turn phase s) (l : Label) (name : List ℕ) where
  abbrev message_why : Bool → ℕ
  message_why lengths =
      unless t out_of_turn
      (unless lengths wrong_length
      (unless (expected kind s.who.name (office_party - s.who.party) l name) wrong_message
      (unless (eqb l.number s.check.set.number) wrong_number 0)))

  why_message : (lengths : Bool) → message_why lengths ≡ why_not_message phase kind s l name lengths
  unfolding why_not_message
  why_message lengths = after_turn _ et

module _ (s : Party) (t : Bool) (et : t ≡ in_turn masked_phase s) (l : Label) (name v : List ℕ) (k : ℕ)
    (ek : k
    ≡ message_why masked_phase vector_kind s t et l name
    (eqb (length name) 16 && eqb (length v) s.check.set.terms.n))
  where
    why_take : k ≡ why_not_take s l name v
    unfolding why_not_take is_name
    why_take = ek ∙ why_message masked_phase vector_kind s t et l name _

    pub take_fits : k ≡ 0 → (s.check.set.terms.n ≤ most_elements) × (s.check.set.terms.n ≤ length v)
    unfolding why_not_take why_not_message is_name
    take_fits none =
        let a = passed _ (sym why_take ∙ none) in
        let b = passed _ a.1 in
        let long = eqb-true (length v) s.check.set.terms.n (both (eqb (length name) 16) _ b.0).1 in
        (open_most 1 s a.0, omega (arith, long))

    pub take_refused : (k ≡ 0 → ⊥) → told k s 0 ≡ P.take_vector s l name v
    unfolding P.take_vector
    take_refused some = keeps k _ _ s _ why_take some

    pub take_taken : (x w : ℕ) → k ≡ 0
        → x
        ≡ box_share s.who.party s.check.set.terms.n s.check.set.c s.check.masked v s.check.set.x
        s.check.set.y
        → w ≡ Share.box_word s.check.set.terms s.check.set.mark x s.check.own s.check.set.r
        → told k
        (record {
          who = s.who;
          last = s.last;
          check = record {
            phase = taken_phase;
            set = s.check.set;
            masked = s.check.masked;
            own = s.check.own;
            word = w;
          };
          waiting = s.waiting;
        })
        w
        ≡ P.take_vector s l name v
    unfolding P.take_vector worded word_of
    take_taken x w none ex ew =
        let is : w ≡ word_of s.check.set s.who.party s.check.masked s.check.own v =
        ew
        ∙ ap
        (λ (y : ℕ). Share.box_word s.check.set.terms s.check.set.mark y s.check.own s.check.set.r)
        ex in
        moves k _ _ _ s w _ why_take none (ap (worded s) is) is

module _ (s : Party) (t : Bool) (et : t ≡ in_turn taken_phase s) (l : Label) (name : List ℕ) (w k : ℕ)
    (ek : k ≡ message_why taken_phase word_kind s t et l name (eqb (length name) 16)) where
  why_finish : k ≡ why_not_finish s l name
  unfolding why_not_finish is_name
  why_finish = ek ∙ why_message taken_phase word_kind s t et l name _

  pub finish_refused : (k ≡ 0 → ⊥) → told k s 0 ≡ P.finish s l name w
  unfolding P.finish
  finish_refused some = keeps k _ _ s _ why_finish some

  pub finish_taken : (q : Party) (z x : ℕ) → k ≡ 0 → q ≡ ended s → z ≡ add s.check.word w
      → x ≡ Share.answer s.check.set.width s.who.party s.check.set.key s.check.set.seed z
      → told k q x ≡ P.finish s l name w
  unfolding P.finish closed answer_of
  finish_taken q z x none eq ez ex =
      moves k _ _ _ s x _ why_finish none eq
      (ex ∙ ap (Share.answer s.check.set.width s.who.party s.check.set.key s.check.set.seed) ez)

-- ---- drop

module _ (s : Party) (t : Bool)
    (et : t ≡ sound s) where
  drop_turn : not (eqb s.check.phase idle_phase) && t ≡ not (eqb s.check.phase idle_phase) && sound s
  drop_turn = ap (λ (b : Bool). not (eqb s.check.phase idle_phase) && b) et

  pub drop_refused : not (not (eqb s.check.phase idle_phase) && t) ≡ true → told out_of_turn s 0 ≡ P.drop_set s
  unfolding P.drop_set why_not_drop
  drop_refused e =
      keeps out_of_turn _ _ s 0 (turned_down _ out_of_turn _ (rw drop_turn at e)) (λ z. omega arith)

  pub drop_taken : (q : Party) → not (not (eqb s.check.phase idle_phase) && t) ≡ false → q ≡ ended s
      → told 0 q 0 ≡ P.drop_set s
  unfolding P.drop_set why_not_drop closed
  drop_taken q e eq = moves 0 _ _ _ s 0 0 (goes_on _ out_of_turn _ (rw drop_turn at e) refl) refl eq refl

-- ---- start

module _ (name : List ℕ) (party : ℕ) (key : List ℕ) (floor k : ℕ) (ek : k ≡ why_not_party name party key) where
  pub start_refused : (q : Party) → (k ≡ 0 → ⊥) → q ≡ idle nobody 0 → told k q 0 ≡ start_party name party key floor
  unfolding start_party no_party
  start_refused q some eq = ap (λ (z : Party). told k z 0) eq ∙ keeps k _ _ no_party 0 ek some

  pub start_fits : k ≡ 0 → (length name ≤ 16) × (length key ≡ 32)
  unfolding why_not_party is_key
  start_fits none =
      let a = passed _ (sym ek ∙ none) in
      let b = passed _ a.1 in
      let c = passed _ b.1 in
      (fits_short name a.0, eqb-true (length key) 32 c.0)

  pub started : (p b : List ℕ) (q : Party) → k ≡ 0 → p ≡ padded name → b ≡ key
      → q ≡ idle (record { name = p; party = party; key = b }) floor → told k q 0 ≡ start_party name party key floor
  unfolding start_party
  started p b q none ep eb eq =
      moves k _ _ _ no_party 0 0 ek none
      (eq ∙ ap₂ (λ (x y : List ℕ). idle (record { name = x; party = party; key = y }) floor) ep eb) refl

-- ---- arrays

pub masked_law : (n : ℕ) (v mask zeros out : List ℕ) → n ≤ most_elements
    → zeros ≡ replicate most_elements 0 → out ≡ over 0 (plus n v mask) zeros → out ≡ fill (plus n v mask)
unfolding plus
masked_law n v mask zeros out most ez e = e ∙ fill_over _ zeros n (length_tab _ n) most ez
