-- What a box may rely on when it loads ahead (02, §1): when the open set ends the waiting one is open, just as if it
-- had been loaded then; and a message for a set that waits is refused. And an ordinary set answers as before (02, §4).
-- And what a trial says is what a load would say (02, §7).
-- Assumes nothing. [SPEC 15.7, 18.4, 18.5, 19.2, 27.8, 34.1 to 34.5]
use Rattle.std.specs.Prelude.{◌≡◌, Bool, not, cond, List, ℕ, suc, ◌-◌, ◌^◌, ◌<◌, ◌≤◌, eqb, leb}
use Rattle.std.proofs.Math.Path.{refl, ap}
use Rattle.std.proofs.Common.{sym, ◌∙◌, subst, arith, leb-true, lt-ltb, ne_eqb}
use Rattle.std.proofs.Math.Bool.{true, false}
use Rattle.std.proofs.lemmas.Bool.{not-true, eqb-false}
use Rattle.base_algebra.specs.Bit as Bit
use Rattle.base_algebra.specs.Bit.{only, odd, both}
use Rattle.base_algebra.specs.Word.{add, sub, mul}
use Rattle.dcf_node.specs.Node.{value_at}
use Rattle.measure_table.specs.Measure.{ordinary_mark, between_mark, ordinary_width, sign, k_word}
use Rattle.measure_table.specs.Laws.{scalar_sign, distance_sign, marked_sign}
use Rattle.share_vectors.specs.Share as Share
use Rattle.share_vectors.specs.Claims.{word_plain, word_close, answer_ordinary}
use Rattle.base_messages.specs.declared.Label.{Label}
use Rattle.base_messages.specs.Messages.{out_of_turn, wrong_length, wrong_message, wrong_number, office_party, unless}
use Rattle.base_messages.specs.Messages.{expected}
use Rattle.base_messages.specs.Laws.{passed, taken, refused}
use Rattle.half_content.specs.declared.Set.{Set}
use Rattle.half_content.specs.Content.{no_terms, no_set, width_fits}
use Rattle.half_content.proofs.Laws.{ordinary_width_lem}
use Rattle.half_seal.specs.Half.{whole_blocks, why_not, why_not_opened, set_number, opened_set, opened_name}
use Rattle.call_party.specs.declared.Check.{Check}
use Rattle.call_party.specs.declared.Party.{Party}
use Rattle.call_party.specs.Party.{idle_phase, no_check, idle, is_open, waits, state_fits, waiting_fits, sound, in_turn}
use Rattle.call_party.specs.Party.{no_name, trial, loaded_phase, masked_phase, masked, worded}
use Rattle.call_party.specs.Party.{high_water, why_not_load, opened, loaded, load, next_check, closed, why_not_message}
use Rattle.call_party.specs.Party.{why_not_finish, box_share, word_of, answer_of, finish, why_not_drop, drop_set}
use Rattle.call_party.specs.Laws.{water_of, load_tells, opened_long, opened_width, opened_name_lem}

-- ---- the open set ends

-- the waiting set at its beginning, with nothing left of the check that ended; the last number stays
abbrev pub promoted : Party → Party
promoted s = record { who = s.who; last = s.last; check = opened s.waiting; waiting = no_set }

closed_promotes : (s : Party) → waits s ≡ true → closed s ≡ promoted s
unfolding closed next_check
closed_promotes s w = rw (ne_eqb s.waiting.terms.n 0 (eqb-false s.waiting.terms.n 0 (not-true _ w))) refl

-- "The waiting set becomes the open one when the open one is answered or dropped"
pub answered_promotes : (s : Party) (l : Label) (name : List ℕ) (w : ℕ) → waits s ≡ true → why_not_finish s l name ≡ 0
    → (finish s l name w).party ≡ promoted s
unfolding finish
answered_promotes s l name w one e = sym (taken (closed s) s refl e) ∙ closed_promotes s one

pub dropped_promotes : (s : Party) → waits s ≡ true → why_not_drop s ≡ 0 → (drop_set s).party ≡ promoted s
unfolding drop_set
dropped_promotes s one e = sym (taken (closed s) s refl e) ∙ closed_promotes s one

-- ---- a set that was loaded ahead

-- the same box with no set open and none waiting: what ending the open set leaves where none waits
abbrev pub ended : Party → Party
ended s = idle s.who s.last

-- a half that is taken ahead would be taken there
tests : (key name : List ℕ) (party last : ℕ) (h : List ℕ) → why_not key name party last h ≡ 0
    → (whole_blocks h ≡ true) × (why_not_opened key name party h ≡ 0)
unfolding why_not
tests key name party last h e = let t = passed _ e in (t.0, (passed _ t.1).1)

less : (key name : List ℕ) (party low high : ℕ) (h : List ℕ) → low < set_number h → why_not key name party high h ≡ 0
    → why_not key name party low h ≡ 0
unfolding why_not unless
less key name party low high h l e =
    let (whole, opens) = tests key name party high h e in
    rw (whole, lt-ltb low (set_number h) l) opens

party_fits : (s : Party) → sound s ≡ true → leb s.who.party office_party ≡ true
unfolding sound state_fits
party_fits s e =
    (both (leb s.who.party office_party) _
    (both (state_fits s.who.party s.check.phase s.check.set.terms) _ e).0).0

pub ahead_would_be_taken : (s : Party) (h : List ℕ) → why_not_load s h ≡ 0 → why_not_load (ended s) h ≡ 0
unfolding why_not_load sound state_fits waiting_fits high_water idle no_check no_set unless
ahead_would_be_taken s h e =
    let tells = load_tells s h e in
    rw (party_fits s tells.sound_is)
    (less s.who.key s.who.name s.who.party s.last (water_of s) h tells.above tells.examined)

idle_taken : (s : Party) (h : List ℕ) → why_not_load s h ≡ 0
    → why_not_load (record { who = s.who; last = s.last; check = no_check; waiting = no_set }) h ≡ 0
unfolding idle
idle_taken s h e = ahead_would_be_taken s h e

next_is : (set : Set) → 1 ≤ set.terms.n → next_check set ≡ opened set
unfolding next_check
next_is set l = rw (ne_eqb set.terms.n 0 (λ e. omega (arith, l, e))) refl

closed_loaded : (s : Party) (set : Set) → is_open s ≡ true → 1 ≤ set.terms.n
    → closed (loaded s set) ≡ loaded (ended s) set
unfolding closed loaded idle no_check
closed_loaded s set o l =
    rw o
    (ap (λ (c : Check). record { who = s.who; last = set.number; check = c; waiting = no_set }) (next_is set l))

-- to load ahead and then to end the open set leaves the state that a load of the same half leaves at that box with no
-- set open
pub ahead_then_ended : (s : Party) (h : List ℕ) → is_open s ≡ true → why_not_load s h ≡ 0
    → closed (load s h).party ≡ (load (ended s) h).party
unfolding load idle
ahead_then_ended s h o e =
    let set : Set = opened_set s.who.key h in
    ap closed (sym (taken (loaded s set) s refl e))
    ∙ closed_loaded s set o (opened_long s h e)
    ∙ taken (loaded (ended s) set) (ended s) refl (ahead_would_be_taken s h e)

-- ---- a message for the set that waits

above_open : (s : Party) → waits s ≡ true → sound s ≡ true → s.check.set.number < s.waiting.number
unfolding sound waiting_fits
above_open s w e =
    let fits = (both (state_fits s.who.party s.check.phase s.check.set.terms) _ e).1 in
    let some = eqb-false s.waiting.terms.n 0 (not-true _ w) in
    let later = (both (not (eqb s.check.phase idle_phase)) _ (rw (ne_eqb s.waiting.terms.n 0 some) at fits)).1 in
    leb-true _ _ (both (leb (suc s.check.set.number) s.waiting.number) _ later).0

module _ (phase kind : ℕ) (s : Party) (l : Label) (name : List ℕ) (lengths : Bool)
    (w : waits s ≡ true) (n : l.number ≡ s.waiting.number)
  where
    -- the tests of 4 and 6, with `last` behind them
    abbrev pub earlier : ℕ → ℕ
    earlier last =
        unless lengths wrong_length
        (unless (expected kind s.who.name (office_party - s.who.party) l name) wrong_message last)

    not_open : in_turn phase s ≡ true → unless (eqb l.number s.check.set.number) wrong_number 0 ≡ wrong_number
    unfolding in_turn unless
    not_open e =
        let above = above_open s w (both (eqb s.check.phase phase) _ e).1 in
        rw (ne_eqb l.number s.check.set.number (λ q. omega (arith, above, n, q))) refl

    seven : (t : Bool) → in_turn phase s ≡ t
        → unless t out_of_turn (earlier (unless (eqb l.number s.check.set.number) wrong_number 0))
        ≡ unless t out_of_turn (earlier wrong_number)
    unfolding unless
    seven true e = ap earlier (not_open e)
    seven false e = refl

    -- "a message for the waiting set is still refused, by 7 if 01's earlier tests pass": at calls 3 and 4 its answer is
    -- that of the earlier tests, and 7 behind them
    pub waiting_message : why_not_message phase kind s l name lengths
        ≡ unless (in_turn phase s) out_of_turn (earlier wrong_number)
    unfolding why_not_message
    waiting_message = seven (in_turn phase s) refl

-- ---- an ordinary set (02, §4): "An ordinary set has w = 2^31 - 1, keeps its code's sign, and must answer as before"
-- [SPEC 18.4]

-- each party's answer is what 01 says: "value at Z + 2^31 minus value at Z, and party 1 adds 1 if Z < 2^31"
pub ordinary_answer : (set : Set) → set.width ≡ ordinary_width → (party word other : ℕ)
    → (let z : ℕ = add word other in
    answer_of set party word other
    ≡ add
    (sub (value_at party set.key set.seed (add z (2 ^ 31))) (value_at party set.key set.seed z))
    (only (odd party) (Bit.less z (2 ^ 31))))
unfolding answer_of
ordinary_answer set e party word other =
    ap (λ (w : ℕ). Share.answer w party set.key set.seed (add word other)) e
    ∙ answer_ordinary party set.key set.seed (add word other)

-- and every set that a load opens with mark 0 has that width
pub ordinary_opened : (s : Party) (h : List ℕ) → why_not_load s h ≡ 0 → (opened_set s.who.key h).mark ≡ ordinary_mark
    → (opened_set s.who.key h).width ≡ ordinary_width
ordinary_opened s h e m =
    ordinary_width_lem _ (subst (λ (k : ℕ). width_fits (opened_set s.who.key h).width k ≡ true) m (opened_width s h e))

-- the word by the set's sign: under code 0 it is 01's, "k × (share) + own + its r", by any mark, ..
module _ (set : Set) (party : ℕ) (own_masked : List ℕ) (own : ℕ) (other : List ℕ) where
  abbrev kept : ℕ
  kept =
      add
      (mul (k_word set.terms) (box_share party set.terms.n set.c own_masked other set.x set.y))
      own

  pub scalar_word : set.terms.code ≡ 0 → word_of set party own_masked own other ≡ add kept set.r
  unfolding word_of
  scalar_word e = word_plain set.terms set.mark (scalar_sign set.terms set.mark e) _ own set.r

  -- .. an ordinary set's under the other codes is 02's, "its r minus (k × (share) + own)", .. [SPEC 17.4]
  pub distance_word : set.mark ≡ ordinary_mark → (set.terms.code ≡ 0 → ⊥)
      → word_of set party own_masked own other ≡ sub set.r kept
  unfolding word_of
  distance_word m h =
      word_close set.terms set.mark (ap (sign set.terms) m ∙ distance_sign set.terms h) _ own set.r

  -- .. and between two marks it is 01's under every code
  pub marked_word : set.mark ≡ between_mark → word_of set party own_masked own other ≡ add kept set.r
  unfolding word_of
  marked_word m =
      let plain = marked_sign set.terms set.mark (λ e. absurd (omega (arith, m, e))) in
      word_plain set.terms set.mark plain _ own set.r

-- ---- trial (02, §7) [SPEC 34.1 to 34.5]

-- "It must agree with a load done on a copy of the state", for every state and every half: the same number, ..
pub trial_agrees : (s : Party) (h : List ℕ) → (trial s h).why ≡ (load s h).why
unfolding trial load
trial_agrees s h = refl

-- the set that a load brings: the open one, or with one open before the one that waits
abbrev pub brought : Party → Party → Set
brought before after = cond (is_open before) after.waiting after.check.set

brought_is : (s : Party) (set : Set) → brought s (loaded s set) ≡ set
unfolding loaded opened
brought_is s set = go (is_open s)
  where
    go : (b : Bool) → cond b (cond b set no_set) (cond b s.check (opened set)).set ≡ set
    go true = refl
    go false = refl

loaded_name : (s : Party) (set : Set) → (loaded s set).who.name ≡ s.who.name
unfolding loaded
loaded_name s set = refl

-- .. "with the door, measure code and L if it would be taken": those of the set that the load brings, at a box of that
-- door, ..
pub record TrialTells (s : Party) (h : List ℕ) : Type 0 where
  pub door : (trial s h).name ≡ (load s h).party.who.name
  pub own_door : (trial s h).name ≡ s.who.name
  pub terms : (trial s h).terms ≡ (brought s (load s h).party).terms

pub trial_tells : (s : Party) (h : List ℕ) → (load s h).why ≡ 0 → TrialTells s h
unfolding trial load
trial_tells s h e =
    let set : Set = opened_set s.who.key h in
    let next : (load s h).party ≡ loaded s set = sym (taken (loaded s set) s refl e) in
    let name : (trial s h).name ≡ s.who.name =
    sym (taken (opened_name s.who.key h) no_name refl e) ∙ opened_name_lem s h e in
    record {
      door = name ∙ sym (ap (λ (p : Party). p.who.name) next ∙ loaded_name s set);
      own_door = name;
      terms =
          sym (taken set.terms no_terms refl e)
          ∙ sym (ap (λ (p : Party). (brought s p).terms) next ∙ ap (λ (t : Set). t.terms) (brought_is s set));
    }

-- .. and else the number alone
pub trial_refused : (s : Party) (h : List ℕ) → ((load s h).why ≡ 0 → ⊥)
    → trial s h ≡ record { why = (load s h).why; name = no_name; terms = no_terms }
unfolding trial load
trial_refused s h some =
    λ i.
    record {
      why = why_not_load s h;
      name = sym (refused (opened_name s.who.key h) no_name refl some) i;
      terms = sym (refused (opened_set s.who.key h).terms no_terms refl some) i;
    }

-- a load with a set waiting is out of turn, and so is a trial, whatever the half is
pub waiting_refused : (s : Party) (h : List ℕ) → waits s ≡ true → (trial s h).why ≡ out_of_turn
unfolding trial why_not_load unless
waiting_refused s h w = rw w refl

-- ---- a half that would be taken still would be, until one is loaded [SPEC 34.6]

-- after calls 2 and 3 the same is asked of it: of the check they move the phase alone, from 1 to 2 and from 2 to 3, ..
pub masked_same : (s : Party) (v h : List ℕ) → s.check.phase ≡ loaded_phase
    → why_not_load (masked s v) h ≡ why_not_load s h
unfolding why_not_load masked sound state_fits waiting_fits high_water
masked_same s v h e = rw e refl

pub worded_same : (s : Party) (w : ℕ) (h : List ℕ) → s.check.phase ≡ masked_phase
    → why_not_load (worded s w) h ≡ why_not_load s h
unfolding why_not_load worded sound state_fits waiting_fits high_water
worded_same s w h e = rw e refl

-- .. and where call 4 or drop ends the open set, its number need no longer be below the half's
pub closed_taken : (s : Party) (h : List ℕ) → why_not_load s h ≡ 0 → why_not_load (closed s) h ≡ 0
unfolding closed next_check
closed_taken s h e =
    let none : s.waiting.terms.n ≡ 0 = (load_tells s h e).none_waits in
    subst (λ (c : Check). why_not_load (record { who = s.who; last = s.last; check = c; waiting = no_set }) h ≡ 0)
    (sym (rw none refl)) (idle_taken s h e)
