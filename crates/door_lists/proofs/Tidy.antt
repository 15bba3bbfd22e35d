-- A box's state is tidy after any list of calls: each call hands back the state that it got, or one of the four that a
-- box is ever put into. Assumes nothing.
use mathlib.Core.Path.{◌≡◌, refl, ◌∙◌}
use mathlib.Core.Bool.{Bool, true, false, cond, not}
use mathlib.Core.List.{List, [], ◌∷◌}
use Prim.Native.Nat.{ℕ, zero, suc, ◌+◌, ◌-◌, ◌≤◌}
use native.Mathlib.Omega.{arith}
use borrow.Author.Tests.{eqb-true, eqb-false, not-false}
use lib.Dec.{eqb}
use lib.ListN.{length, get_or, replicate}
use lib.Seq.{get_or-append-add}
use Rattle.base_words.specs.List.{tab, length_tab}
use Rattle.base_words.specs.Bytes.{words_at}
use Rattle.share_vectors.specs.Share.{plus}
use Rattle.base_messages.specs.Messages.{if_taken}
use Rattle.half_content.specs.declared.Set.{Set}
use Rattle.half_content.specs.Content.{fill, set_in, terms_in, no_set}
use Rattle.half_seal.specs.Half.{opened_set}
use Rattle.base_messages.specs.declared.Identity.{Identity}
use Rattle.call_party.specs.declared.Party.{Party}
use Rattle.call_party.specs.Party as BoxCalls
use Rattle.call_party.specs.Party.{no_check, idle, no_party, start_party, opened, loaded, masked, masked_vector, worded}
use Rattle.call_party.specs.Party.{closed, next_check, why_not_load}
use Rattle.call_party.specs.Laws.{opened_long}
use Rattle.door_lists.specs.Lists.{Box, camera, office, put, World, beginning, Call, deal, load, trial, mask}
use Rattle.door_lists.specs.Lists.{take, finish, drop, join, step, after, deal_by_clock}
use Rattle.door_lists.specs.States.{PastLength, Tidy, AlwaysTidy}

-- ---- arrays

zeros_at : (n i : ℕ) → get_or (replicate {A = ℕ} n 0) i 0 ≡ 0
zeros_at zero i = refl
zeros_at (suc n) zero = refl
zeros_at (suc n) (suc i) = zeros_at n i

fill_past : (f : ℕ → ℕ) (n i : ℕ) → n ≤ i → get_or (fill (tab f n)) i 0 ≡ 0
unfolding fill
fill_past f n i h =
    let long : length (tab f n) ≡ n = length_tab f n in
    let place : length (tab f n) + (i - n) ≡ i = omega arith in
    let rest : List ℕ = replicate (512 - length (tab f n)) 0 in
    rw (← place) (get_or-append-add (tab f n) rest (i - n) 0 ∙ zeros_at (512 - length (tab f n)) (i - n))

-- ---- the states that a box is put into

none_past : PastLength no_set
unfolding no_set
none_past i h = (zeros_at 512 i, zeros_at 512 i, zeros_at 512 i)

tidy_idle : (who : Identity) (last : ℕ) → Tidy (idle who last)
unfolding idle no_check
tidy_idle who last =
    record {
      none_open = λ e. (refl, refl);
      none_waiting = λ e. refl;
      unmasked = λ l. (refl, refl);
      unworded = λ l. refl;
      past_length = none_past;
      past_masked = λ i h. zeros_at 512 i;
      past_waiting = none_past;
    }

none_left : (who : Identity) (last : ℕ)
    → Tidy (record { who = who; last = last; check = no_check; waiting = no_set })
unfolding idle
none_left who last = tidy_idle who last

-- a check at its beginning, with nothing waiting
tidy_opened : (who : Identity) (last : ℕ) (set : Set) → PastLength set
    → Tidy (record { who = who; last = last; check = opened set; waiting = no_set })
unfolding opened
tidy_opened who last set p =
    record {
      none_open = λ e. absurd (omega arith);
      none_waiting = λ e. refl;
      unmasked = λ l. (refl, refl);
      unworded = λ l. refl;
      past_length = p;
      past_masked = λ i h. zeros_at 512 i;
      past_waiting = none_past;
    }

opened_past : (key h : List ℕ) → PastLength (opened_set key h)
unfolding opened_set set_in terms_in words_at
opened_past key h i l = (fill_past _ _ i l, fill_past _ _ i l, fill_past _ _ i l)

-- an accepted load: its set has elements
tidy_loaded : (s : Party) (h : List ℕ) → why_not_load s h ≡ 0 → Tidy s → Tidy (loaded s (opened_set s.who.key h))
unfolding loaded
tidy_loaded s h z t = go (eqb s.check.phase 0) refl
  where
    set : Set
    set = opened_set s.who.key h

    go : (b : Bool) → eqb s.check.phase 0 ≡ b
        → Tidy (record {
          who = s.who;
          last = set.number;
          check = cond (not b) s.check (opened set);
          waiting = cond (not b) set no_set;
        })
    go true e = tidy_opened s.who set.number set (opened_past s.who.key h)
    go false e =
        record {
          none_open = λ q. absurd (eqb-false _ _ e q);
          none_waiting = λ q. absurd (omega (
            arith,
            eqb-true set.terms.n 0 (not-false _ q),
            opened_long s h z,
          ));
          unmasked = t.unmasked;
          unworded = t.unworded;
          past_length = t.past_length;
          past_masked = t.past_masked;
          past_waiting = opened_past s.who.key h;
        }

tidy_masked : (s : Party) (v : List ℕ) → Tidy s → Tidy (masked s v)
unfolding masked masked_vector plus
tidy_masked s v t =
    record {
      none_open = λ e. absurd (omega arith);
      none_waiting = t.none_waiting;
      unmasked = λ l. absurd (omega (arith, l));
      unworded = λ l. refl;
      past_length = t.past_length;
      past_masked = λ i h. fill_past _ _ i h;
      past_waiting = t.past_waiting;
    }

tidy_worded : (s : Party) (w : ℕ) → Tidy s → Tidy (worded s w)
unfolding worded
tidy_worded s w t =
    record {
      none_open = λ e. absurd (omega arith);
      none_waiting = t.none_waiting;
      unmasked = λ l. absurd (omega (arith, l));
      unworded = λ l. absurd (omega (arith, l));
      past_length = t.past_length;
      past_masked = t.past_masked;
      past_waiting = t.past_waiting;
    }

-- the waiting set, if there is one, becomes the open one
tidy_closed : (s : Party) → Tidy s → Tidy (closed s)
unfolding closed next_check
tidy_closed s t = go (eqb s.waiting.terms.n 0)
  where
    go : (b : Bool)
        → Tidy (record { who = s.who; last = s.last; check = cond b no_check (opened s.waiting); waiting = no_set })
    go true = none_left s.who s.last
    go false = tidy_opened s.who s.last s.waiting t.past_waiting

-- ---- calls

either : (why : ℕ) (new old : Party) → (why ≡ 0 → Tidy new) → Tidy old → Tidy (if_taken why new old)
unfolding if_taken
either why new old n o = go (eqb why 0) refl
  where
    go : (b : Bool) → eqb why 0 ≡ b → Tidy (cond b new old)
    go true e = n (eqb-true why 0 e)
    go false e = o

put_tidy : (f : Box → Party) (b : Box) (p : Party) → ((c : Box) → Tidy (f c)) → Tidy p → (c : Box) → Tidy (put f b p c)
put_tidy f camera p t q camera = q
put_tidy f camera p t q office = t office
put_tidy f office p t q camera = t camera
put_tidy f office p t q office = q

step_tidy : (w : World) (c : Call) → ((b : Box) → Tidy (w.box b)) → (b : Box) → Tidy ((step w c).world.box b)
unfolding BoxCalls.load BoxCalls.mask BoxCalls.take_vector BoxCalls.finish BoxCalls.drop_set
step_tidy w (deal d out0 out1) t = t
step_tidy w (deal_by_clock k out0 out1) t = t
step_tidy w (load b h) t = put_tidy _ b _ t (either _ _ _ (λ z. tidy_loaded (w.box b) h z (t b)) (t b))
step_tidy w (trial b h) t = t
step_tidy w (mask b v out) t = put_tidy _ b _ t (either _ _ _ (λ z. tidy_masked (w.box b) v (t b)) (t b))
step_tidy w (take b m) t = put_tidy _ b _ t (either _ _ _ (λ z. tidy_worded (w.box b) _ (t b)) (t b))
step_tidy w (finish b m) t = put_tidy _ b _ t (either _ _ _ (λ z. tidy_closed (w.box b) (t b)) (t b))
step_tidy w (drop b) t = put_tidy _ b _ t (either _ _ _ (λ z. tidy_closed (w.box b) (t b)) (t b))
step_tidy w (join m n) t = t

pub always_tidy : AlwaysTidy
unfolding AlwaysTidy start_party no_party
always_tidy s [] b = either _ _ _ (λ z. tidy_idle _ _) (tidy_idle _ _)
always_tidy s (c ∷ cs) b = step_tidy (after (beginning s) cs) c (always_tidy s cs) b
