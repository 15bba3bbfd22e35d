-- Of a good table the deal by the clock is the plain deal with the chosen row's threshold: what was tested, and the
-- places (02, §5). Assumes nothing. [SPEC 14.5, 14.6, 23.8, 33.4, 33.5]
use Rattle.std.specs.Prelude.{◌≡◌, Bool, ◌&&◌, List, ℕ, ◌≤◌, ◌<◌, eqb, ltb, length}
use Rattle.std.proofs.Math.Path.{refl}
use Rattle.std.proofs.Common.{sym, ap, ◌∙◌, arith}
use Rattle.std.proofs.Math.Bool.{true, false, cond}
use borrow.Author.Tests.{le-ltb, ltb-true, ltb-false, eqb-true, eqb-false, ne_eqb}
use Rattle.std.proofs.Math.Dec.{leb}
use Rattle.base_algebra.specs.Bit.{neither}
use Rattle.measure_table.specs.declared.Rule.TheVariants.{Threshold}
use Rattle.measure_table.specs.Measure.{rule_fits, in_order, is_code, length_fits}
use Rattle.base_messages.specs.Messages.{bad_party_or_code, wrong_length, short_buffer, wrong_number, out_of_range}
use Rattle.base_messages.specs.Messages.{bad_rows, is_key, unless, if_taken}
use Rattle.call_day.specs.Table.{Choice}
use Rattle.call_day.specs.Table.{day, why_not_table, choose}
use Rattle.call_day.specs.Claims.{Good, Chosen}
use Rattle.call_day.proofs.Claims.{taken_good, good_taken, chosen, past_day}
use Rattle.call_dealer.specs.Dealer.{half_size, until_rule, why_not_deal, deal, deal_out}
use Rattle.call_dealer.specs.Laws.{deal_tells}
use Rattle.call_dealer.specs.Clock.{ClockDeal, deal_at, why_not_by_clock, place_by_clock, deal_by_clock}
use Rattle.call_dealer.specs.Clock.{clock_out}
use Rattle.call_dealer.specs.declared.Dealer.{Dealer}
use Rattle.call_dealer.specs.ClockLaws.{nobody_takes, table_first, ClockTells, table_numbers}

module _ (s : Dealer) (k : ClockDeal) where
  -- whether a minute lies in the day or not, its 8 is the deal's own
  rule_test : (b : Bool) → ltb k.minute day ≡ b → Good k.table
      → ltb k.minute day && rule_fits k.terms (deal_at k).rule ≡ rule_fits k.terms (deal_at k).rule
  rule_test true e g = ap (λ b. b && rule_fits k.terms (deal_at k).rule) e
  rule_test false e g =
      ap (λ b. b && rule_fits k.terms (deal_at k).rule) e
      ∙ sym (ap (λ (c : Choice). rule_fits k.terms (Threshold c.threshold))
      (past_day k.table k.minute g (ltb-false _ _ e)) ∙ nobody_takes k.terms)

  module _ (room0 room1 : ℕ) where
    -- a good table: refused or not, it is the plain deal with the chosen row's threshold
    pub as_deal : Good k.table → why_not_by_clock s k room0 room1 ≡ why_not_deal s (deal_at k) room0 room1
    unfolding why_not_by_clock why_not_deal in_order if_taken unless
    as_deal g = rw (good_taken k.table g, rule_test (ltb k.minute day) refl g) refl

    -- a minute that is not of the day: 8, after 2, 4, 5 and 7
    pub minute_in_turn : Good k.table → day ≤ k.minute
        → why_not_by_clock s k room0 room1 ≡ until_rule s k.number k.seed k.terms room0 room1 out_of_range
    unfolding why_not_by_clock if_taken unless
    minute_in_turn g h = rw (good_taken k.table g, le-ltb k.minute day h) refl

    good_or_not : {X : Type 0} → (Good k.table → X) → (((why_not_table k.table).why ≡ 0 → ⊥) → X) → X
    good_or_not {X} f g = go (eqb (why_not_table k.table).why 0) refl
      where
        go : (b : Bool) → eqb (why_not_table k.table).why 0 ≡ b → X
        go true e = f (taken_good k.table (eqb-true _ 0 e))
        go false e = g (eqb-false _ 0 e)

    pub clock_tells : why_not_by_clock s k room0 room1 ≡ 0 → ClockTells s k room0 room1
    clock_tells e = good_or_not good bad
      where
        bad : ((why_not_table k.table).why ≡ 0 → ⊥) → ClockTells s k room0 room1
        bad n = absurd (n (sym (table_first s k room0 room1 n) ∙ e))

        good : Good k.table → ClockTells s k room0 room1
        good g =
            let d = sym (as_deal g) ∙ e in
            record { good_table = g; of_day = in_day (ltb k.minute day) refl d; deal_taken = d }
          where
            in_day : (b : Bool) → ltb k.minute day ≡ b → why_not_deal s (deal_at k) room0 room1 ≡ 0 → k.minute < day
            in_day true h d = ltb-true _ _ h
            in_day false h d =
                neither (sym (ap (λ (c : Choice). rule_fits k.terms (Threshold c.threshold))
                (past_day k.table k.minute g (ltb-false _ _ h)) ∙ nobody_takes k.terms)
                ∙ (deal_tells s (deal_at k) room0 room1 d).rule_fits_lem)

    -- and what is so tested is accepted
    pub told_clock : ClockTells s k room0 room1 → why_not_by_clock s k room0 room1 ≡ 0
    told_clock t = as_deal t.good_table ∙ t.deal_taken

    -- ---- same number, same state, same bytes

    pub clock_why : Good k.table → (deal_by_clock s k room0 room1).why ≡ (deal s (deal_at k) room0 room1).why
    unfolding deal_by_clock deal
    clock_why g = as_deal g

    pub clock_state : Good k.table
        → (deal_by_clock s k room0 room1).dealer ≡ (deal s (deal_at k) room0 room1).dealer
    unfolding deal_by_clock deal
    clock_state g = rw (as_deal g) refl

    -- ---- the place

    pub row_told : why_not_by_clock s k room0 room1 ≡ 0
        → ((deal_by_clock s k room0 room1).place ≡ (choose k.table k.minute).place)
        × Chosen k.table k.minute (choose k.table k.minute)
    unfolding deal_by_clock place_by_clock if_taken
    row_told e =
        let t = clock_tells e in
        (rw (good_taken k.table t.good_table, e) refl, chosen k.table k.minute t.good_table t.of_day)

    -- "every refusal but 14 to 16 has place 0 here"
    pub place_0 : Good k.table → (why_not_by_clock s k room0 room1 ≡ 0 → ⊥) → (deal_by_clock s k room0 room1).place ≡ 0
    unfolding deal_by_clock place_by_clock if_taken
    place_0 g n = rw (good_taken k.table g, ne_eqb (why_not_by_clock s k room0 room1) 0 n) refl

    pub place_low : (why_not_by_clock s k room0 room1 ≡ 0 → ⊥) → why_not_by_clock s k room0 room1 < bad_rows
        → (deal_by_clock s k room0 room1).place ≡ 0
    place_low n l = good_or_not (λ g. place_0 g n) (λ b. absurd (omega (arith, l, (table_numbers s k room0 room1 b).0)))

    pub deal_numbers : Good k.table → why_not_by_clock s k room0 room1 ≤ out_of_range
    unfolding why_not_by_clock if_taken unless
    deal_numbers g =
        rw (good_taken k.table g)
        (low (is_code k.terms.code) bad_party_or_code _ (omega arith)
        (low (is_key k.seed && length_fits k.terms) wrong_length _ (omega arith)
        (low (leb (half_size k.terms.n) room0 && leb (half_size k.terms.n) room1) short_buffer _ (omega arith)
        (low (ltb s.last k.number) wrong_number _ (omega arith)
        (low (ltb k.minute day && rule_fits k.terms (deal_at k).rule) out_of_range 0 (omega arith) (omega arith))))))
      where
        low : (b : Bool) (number rest : ℕ) → number ≤ out_of_range → rest ≤ out_of_range
            → cond b rest number ≤ out_of_range
        low true number rest l r = r
        low false number rest l r = l

  module _ (out0 out1 : List ℕ) (party : ℕ) where
    pub clock_bytes : Good k.table → clock_out s k out0 out1 party ≡ deal_out s (deal_at k) out0 out1 party
    unfolding clock_out deal_out
    clock_bytes g = rw (as_deal (length out0) (length out1) g) refl
