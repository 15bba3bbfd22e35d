-- What the code of a box comes to, over plain numbers and lists. Assumes nothing.
use mathlib.Core.Path.{◌≡◌, refl, ap, ap₂, ◌∙◌}
use mathlib.Core.Bool.{Bool, true, false, not, ◌&&◌}
use mathlib.Core.List.{List}
use Prim.Native.Nat.{ℕ, suc, ◌-◌}
use borrow.Author.Tests.{not-true, not-false, ne_eqb}
use lib.Dec.{eqb, leb}
use lib.ListN.{replicate}
use Rattle.measure_table.specs.declared.Terms.{Terms}
use Rattle.measure_table.specs.Measure.{most_elements, is_code, length_fits}
use Rattle.share_vectors.specs.Share.{share}
use Rattle.half_content.specs.declared.Set.{Set}
use Rattle.half_content.specs.Content.{no_set}
use Rattle.base_messages.specs.declared.Identity.{Identity}
use Rattle.base_messages.specs.declared.Label.{Label}
use Rattle.base_messages.specs.Messages.{out_of_turn, wrong_length, wrong_message, wrong_number, office_party, unless}
use Rattle.base_messages.specs.Messages.{expected}
use Rattle.call_party.specs.declared.Check.{Check}
use Rattle.call_party.specs.declared.Party.{Party}
use Rattle.call_party.specs.Party.{idle_phase, no_check, idle, state_fits, waiting_fits, high_water, opened, next_check}
use Rattle.call_party.specs.Party.{sound, in_turn, waits, load_turn, box_share}

-- ---- the tests of a state

module _ (party phase : ℕ) (terms : Terms) where
  pub no_party_lem : not (leb party 1) ≡ true → false ≡ state_fits party phase terms
  unfolding state_fits
  no_party_lem h = rw (not-true (leb party 1) h) refl

  pub with_none : not (leb party 1) ≡ false → phase ≡ 0
      → eqb terms.code 0 && eqb terms.n 0 ≡ state_fits party phase terms
  unfolding state_fits
  with_none h e = rw (not-false (leb party 1) h, e) refl

  pub with_set : not (leb party 1) ≡ false → (phase ≡ 0 → ⊥) → (c l : Bool) → c ≡ is_code terms.code
      → l ≡ length_fits terms → leb phase 3 && (c && l) ≡ state_fits party phase terms
  unfolding state_fits
  with_set h e c l ec el = rw (not-false (leb party 1) h, ne_eqb phase 0 e, ec, el) refl

module _ (phase number waiting : ℕ) (terms : Terms) where
  pub none_waits : terms.n ≡ 0 → eqb terms.code 0 ≡ waiting_fits phase number waiting terms
  unfolding waiting_fits
  none_waits e = rw e refl

  pub one_waits : (terms.n ≡ 0 → ⊥) → (c l : Bool) → c ≡ is_code terms.code → l ≡ length_fits terms
      → not (eqb phase 0) && (leb (suc number) waiting && (c && l)) ≡ waiting_fits phase number waiting terms
  unfolding waiting_fits
  one_waits e c l ec el = rw (ne_eqb terms.n 0 e, ec, el) refl

module _ (s : Party) where
  pub sound_law : (a b : Bool) → a ≡ state_fits s.who.party s.check.phase s.check.set.terms
      → b ≡ waiting_fits s.check.phase s.check.set.number s.waiting.number s.waiting.terms
      → a && b ≡ sound s
  unfolding sound
  sound_law a b ea eb = ap₂ ◌&&◌ ea eb

  pub load_turn_law : (b : Bool) → b ≡ sound s → not (waits s) && b ≡ load_turn s
  load_turn_law b e = ap (λ (t : Bool). not (waits s) && t) e

  pub turn_law : (phase : ℕ) (b : Bool) → b ≡ sound s → eqb s.check.phase phase && b ≡ in_turn phase s
  unfolding in_turn
  turn_law phase b e = ap (λ (t : Bool). eqb s.check.phase phase && t) e

-- ---- what a half's number has to be above

pub above_open : (phase number last : ℕ) → not (eqb phase 0) && leb last number ≡ true
    → number ≡ high_water phase number last
unfolding high_water
above_open phase number last e = rw e refl

pub above_last : (phase number last : ℕ) → not (eqb phase 0) && leb last number ≡ false
    → last ≡ high_water phase number last
unfolding high_water
above_last phase number last e = rw e refl

-- ---- states

pub no_check_law : (s : Set) → s ≡ no_set
    → record { phase = idle_phase; set = s; masked = replicate most_elements 0; own = 0; word = 0 } ≡ no_check
unfolding no_check
no_check_law s e = λ i. record { phase = idle_phase; set = e i; masked = replicate most_elements 0; own = 0; word = 0 }

module _ (who : Identity) (last : ℕ) (c : Check) (w : Set) (ew : w ≡ no_set) where
  pub idle_law : c ≡ no_check → record { who = who; last = last; check = c; waiting = w } ≡ idle who last
  unfolding idle
  idle_law ec = λ i. record { who = who; last = last; check = ec i; waiting = ew i }

  pub closed_law : (set : Set) → c ≡ next_check set
      → ◌≡◌ {A = Party} (record { who = who; last = last; check = c; waiting = w })
      (record { who = who; last = last; check = next_check set; waiting = no_set })
  closed_law set ec = λ i. record { who = who; last = last; check = ec i; waiting = ew i }

-- the check that follows
module _ (set : Set) (c : Check) where
  pub none_next : set.terms.n ≡ 0 → c ≡ no_check → c ≡ next_check set
  unfolding next_check
  none_next e ec = ec ∙ rw e refl

  pub opened_next : (set.terms.n ≡ 0 → ⊥) → c ≡ opened set → c ≡ next_check set
  unfolding next_check
  opened_next e ec = ec ∙ rw (ne_eqb set.terms.n 0 e) refl

-- ---- a message's tests

pub message_law : (turn lengths : Bool) (kind : ℕ) (door name : List ℕ) (label : Label) (number party : ℕ) {from : ℕ}
    {fits : Bool} → from ≡ office_party - party → fits ≡ expected kind door from label name
    → unless turn out_of_turn
    (unless lengths wrong_length (unless fits wrong_message (unless (eqb label.number number) wrong_number 0)))
    ≡ unless turn out_of_turn
    (unless lengths wrong_length
    (unless (expected kind door (office_party - party) label name) wrong_message
    (unless (eqb label.number number) wrong_number 0)))
message_law turn lengths kind door name label number party eo ef =
    ap
    (λ (fits : Bool).
    unless turn out_of_turn
    (unless lengths wrong_length (unless fits wrong_message (unless (eqb label.number number) wrong_number 0))))
    (ef ∙ ap (λ (from : ℕ). expected kind door from label name) eo)

-- ---- a box's share

module _ (party n c : ℕ) (masked other x y : List ℕ) (s : ℕ) where
  pub share_camera : party ≡ 0 → s ≡ share party n c masked other x y → s ≡ box_share party n c masked other x y
  unfolding box_share
  share_camera e es = es ∙ rw e refl

  pub share_office : (party ≡ 0 → ⊥) → s ≡ share party n c other masked x y → s ≡ box_share party n c masked other x y
  unfolding box_share
  share_office e es = es ∙ rw (ne_eqb party 0 e) refl
