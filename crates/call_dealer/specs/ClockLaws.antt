-- Accepted by the clock is the plain deal with the chosen row's threshold (02, §5), and what each refusal comes with.
-- Assumes nothing. [SPEC 14.5, 14.6, 23.8, 33.4, 33.5]
use Rattle.std.specs.Prelude.{◌≡◌, ℕ, zero, suc, ◌≤◌, ◌<◌, get_or}
use Rattle.std.proofs.Math.Path.{refl}
use Rattle.std.proofs.Common.{sym, ap, subst, ◌∙◌, arith}
use Rattle.std.proofs.Math.Bool.{false}
use borrow.Author.Tests.{ne_eqb}
use Rattle.base_algebra.specs.Word.{signed}
use Rattle.measure_table.specs.declared.Terms.{Terms}
use Rattle.measure_table.specs.declared.Rule.TheVariants.{Threshold}
use Rattle.measure_table.specs.Measure.{row as row_of, scalar_product, squared_euclid, hamming, within, threshold_fits}
use Rattle.measure_table.specs.Measure.{rule_fits}
use Rattle.base_messages.specs.Messages.{bad_rows, more_rows, if_taken}
use Rattle.call_day.specs.Table.{day, no_threshold, why_not_table}
use Rattle.call_day.specs.Claims.{Says, good, lists, row, none, more, Good, InRow}
use Rattle.call_day.proofs.Claims.{told, chosen}
use Rattle.half_deal.specs.Dealing.{deal_from}
use Rattle.call_dealer.specs.Dealer.{why_not_deal}
use Rattle.call_dealer.specs.Clock.{ClockDeal, row_deal, deal_at, why_not_by_clock, place_by_clock, deal_by_clock}
use Rattle.call_dealer.specs.declared.Dealer.{Dealer}

-- the threshold of no row, under every code
pub nobody_takes : (terms : Terms) → rule_fits terms (Threshold no_threshold) ≡ false
unfolding rule_fits threshold_fits row_of scalar_product squared_euclid hamming within signed
nobody_takes terms = by_code terms.code
  where
    by_code : (code : ℕ) → within (row_of code).least (row_of code).most (signed no_threshold) ≡ false
    by_code zero = refl
    by_code (suc zero) = refl
    by_code (suc (suc code)) = refl

-- "For a given minute the dealer uses that row's threshold"
pub row_used : (k : ClockDeal) → Good k.table → k.minute < day
    → (i : ℕ) → InRow k.table.firsts k.table.lasts k.minute i → deal_at k ≡ row_deal k i
row_used k g h i r =
    let c = chosen k.table k.minute g h in
    ap (λ t. deal_from k.number k.seed k.terms (Threshold t))
    (c.threshold_is ∙ ap (λ j. get_or k.table.thresholds j 0) (sym (c.only i r)))

module _ (s : Dealer) (k : ClockDeal) where
  module _ (room0 room1 : ℕ) where
    pub table_first : ((why_not_table k.table).why ≡ 0 → ⊥)
        → why_not_by_clock s k room0 room1 ≡ (why_not_table k.table).why
    unfolding why_not_by_clock if_taken
    table_first n = rw (ne_eqb (why_not_table k.table).why 0 n) refl

    pub table_place : ((why_not_table k.table).why ≡ 0 → ⊥)
        → place_by_clock s k room0 room1 ≡ (why_not_table k.table).place
    unfolding place_by_clock if_taken
    table_place n = rw (ne_eqb (why_not_table k.table).why 0 n) refl

    -- "all come before the dealer's other checks": a bad table is turned down with its own number and place, whatever
    -- else is handed in
    pub table_answer : ((why_not_table k.table).why ≡ 0 → ⊥)
        → deal_by_clock s k room0 room1
        ≡ record { why = (why_not_table k.table).why; place = (why_not_table k.table).place; dealer = s }
    unfolding deal_by_clock if_taken
    table_answer n = rw (table_first n, table_place n, ne_eqb (why_not_table k.table).why 0 n) refl

    -- what an accepted one was tested for
    pub record ClockTells : Type 0 where
      pub good_table : Good k.table
      pub of_day : k.minute < day
      pub deal_taken : why_not_deal s (deal_at k) room0 room1 ≡ 0

    -- .. and 14 to 16 are told of a bad table, and only of one
    pub table_numbers : ((why_not_table k.table).why ≡ 0 → ⊥)
        → (bad_rows ≤ why_not_by_clock s k room0 room1) × (why_not_by_clock s k room0 room1 ≤ more_rows)
    table_numbers n = subst (λ w. (bad_rows ≤ w) × (w ≤ more_rows)) (sym (table_first n)) (go (told k.table) n)
      where
        go : {why place : ℕ} → Says k.table why place → (why ≡ 0 → ⊥) → (bad_rows ≤ why) × (why ≤ more_rows)
        go (good g) n = absurd (n refl)
        go (lists s) n = (omega arith, omega arith)
        go (row s i l b g) n = (omega arith, omega arith)
        go (none s g m l o e) n = (omega arith, omega arith)
        go (more s g m l o w) n = (omega arith, omega arith)
