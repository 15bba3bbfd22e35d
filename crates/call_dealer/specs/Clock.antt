-- The deal by the clock (02, §5): a table of the day and a minute stand in place of a rule, and the answer has a place
-- beside its number. For any state and anything handed in. Assumes nothing.
-- [SPEC 14.5 to 14.7, 22.3, 23.8, 23.14 to 23.16, 24.12]
use Rattle.std.specs.Prelude.{◌&&◌, List, ℕ, ltb, length, get_or}
use Rattle.measure_table.specs.declared.Terms.{Terms}
use Rattle.measure_table.specs.declared.Rule.TheVariants.{Threshold}
use Rattle.measure_table.specs.Measure.{rule_fits}
use Rattle.base_messages.specs.Messages.{out_of_range, unless, if_taken}
use Rattle.call_day.specs.Table.{Fault}
use Rattle.call_day.specs.Table.{Table, table_in, day, why_not_table, choose}
use Rattle.half_deal.specs.Dealing.{Deal, deal_from}
use Rattle.call_dealer.specs.Dealer.{until_rule, next_dealer, out_buffer}
use Rattle.call_dealer.specs.declared.Dealer.{Dealer}
use Rattle.call_dealer.specs.declared.ClockAnswer.{ClockAnswer}
use Rattle.call_dealer.specs.declared.ClockOrder.{ClockOrder}

-- what is dealt by the clock
pub record ClockDeal : Type 0 where
  pub number : ℕ
  pub seed : List ℕ
  pub terms : Terms
  pub table : Table
  pub minute : ℕ

abbrev pub clock_from : ℕ → List ℕ → Terms → Table → ℕ → ClockDeal
clock_from number seed terms table minute =
    record { number = number; seed = seed; terms = terms; table = table; minute = minute }

-- the same from what code has of it
abbrev pub clock_in : ClockOrder → ClockDeal
clock_in o = clock_from o.number o.seed.now o.terms (table_in o.table) o.minute

-- the plain deal by row i of its table, counted from 0
abbrev pub row_deal : ClockDeal → ℕ → Deal
row_deal k i = deal_from k.number k.seed k.terms (Threshold (get_or k.table.thresholds i 0))

-- "For a given minute the dealer uses that row's threshold": the deal that it is (ClockLaws.`row-used`) [SPEC 14.5]
abbrev pub deal_at : ClockDeal → Deal
deal_at k = deal_from k.number k.seed k.terms (Threshold (choose k.table k.minute).threshold)

-- 14 to 16 "come before the dealer's other checks". "A minute asked for above 1,439, or a chosen row's threshold out of
-- range, is 01's eighth in its usual turn".
unfoldable pub why_not_by_clock : Dealer → ClockDeal → ℕ → ℕ → ℕ
why_not_by_clock s k room0 room1 =
    let v : Fault = why_not_table k.table in
    if_taken v.why
    (until_rule s k.number k.seed k.terms room0 room1
    (unless (ltb k.minute day && rule_fits k.terms (deal_at k).rule) out_of_range 0))
    v.why

-- A bad table is turned down "with the number and one place beside it"; else the dealer "reports the row's place,
-- counted from 1", and "every refusal but 14 to 16 has place 0" [SPEC 14.6]
unfoldable pub place_by_clock : Dealer → ClockDeal → ℕ → ℕ → ℕ
place_by_clock s k room0 room1 =
    let v : Fault = why_not_table k.table in
    if_taken v.why
    (if_taken (why_not_by_clock s k room0 room1) (choose k.table k.minute).place 0)
    v.place

unfoldable pub deal_by_clock : Dealer → ClockDeal → ℕ → ℕ → ClockAnswer
deal_by_clock s k room0 room1 =
    let why : ℕ = why_not_by_clock s k room0 room1 in
    record { why = why; place = place_by_clock s k room0 room1; dealer = if_taken why (next_dealer s k.number) s }

-- what it leaves in the two buffers
unfoldable pub clock_out : Dealer → ClockDeal → List ℕ → List ℕ → ℕ → List ℕ
clock_out s k out0 out1 party =
    out_buffer (why_not_by_clock s k (length out0) (length out1)) s (deal_at k) out0 out1 party
