-- The deal by the clock, from what the table's look-up and the plain deal say. Assumes nothing.
use mathlib.Core.Path.{◌≡◌, refl, sym, ap, ◌∙◌}
use Rattle.std.specs.Prelude.{Option, Some, None, Ok}
use Rattle.std.specs.Option.{unwrap_or}
use Rattle.call_day.specs.declared.Row.{Row}
use mathlib.Core.List.{List}
use Prim.Native.Nat.{ℕ}
use lib.ListN.{length}
use Rattle.measure_table.specs.declared.Rule.TheVariants.{Threshold}
use Rattle.base_messages.specs.Messages.{if_taken}
use Rattle.base_messages.specs.Laws.{refused}
use Rattle.call_day.specs.Table.{Choice, no_threshold, choice_of}
use Rattle.call_day.specs.Table.{why_not_table, choose}
use Rattle.call_day.specs.Claims.{Good, choose_why, bad_chosen}
use Rattle.call_day.proofs.Claims.{taken_good, good_taken}
use Rattle.half_deal.specs.Dealing.{Deal, deal_from}
use Rattle.call_dealer.specs.Dealer.{deal, deal_out}
use Rattle.call_dealer.specs.Clock.{ClockDeal, deal_at, why_not_by_clock, place_by_clock, deal_by_clock, clock_out}
use Rattle.call_dealer.specs.ClockLaws.{table_first, table_place}
use Rattle.call_dealer.proofs.ClockLaws.{as_deal, clock_state, clock_bytes}
use Rattle.call_dealer.specs.declared.Dealer.{Dealer}
use Rattle.call_dealer.specs.declared.DealerAnswer.{DealerAnswer}
use Rattle.call_dealer.specs.declared.ClockAnswer.{ClockAnswer}

-- no row
abbrev pub nobody_row : Row
nobody_row = record { place = 0; threshold = no_threshold }

alike : {w w' p p' : ℕ} {s s' : Dealer} → w ≡ w' → p ≡ p' → s ≡ s'
    → ◌≡◌ {A = ClockAnswer} (record { why = w; place = p; dealer = s }) (record { why = w'; place = p'; dealer = s' })
alike e f g = λ i. record { why = e i; place = f i; dealer = g i }

module _ (s : Dealer) (k : ClockDeal) (out0 out1 : List ℕ)
    (c : Choice) (e : c ≡ choose k.table k.minute) where
  -- the table's own number, which the choice repeats
  number_is : c.why ≡ (why_not_table k.table).why
  number_is = ap (λ (c : Choice). c.why) e ∙ choose_why k.table k.minute

  -- what the call answers and leaves
  abbrev Is : ClockAnswer → List ℕ → List ℕ → Type 0
  Is a new0 new1 =
      (a ≡ deal_by_clock s k (length out0) (length out1))
      × ((new0 ≡ clock_out s k out0 out1 0) × (new1 ≡ clock_out s k out0 out1 1))

  pub bad_table : (c.why ≡ 0 → ⊥) → Is (record { why = c.why; place = c.place; dealer = s }) out0 out1
  unfolding deal_by_clock clock_out
  bad_table n =
      let bad : (why_not_table k.table).why ≡ 0 → ⊥ = λ z. n (number_is ∙ z) in
      let why = number_is ∙ sym (table_first s k (length out0) (length out1) bad) in
      let place = ap (λ (c : Choice). c.place) e ∙ bad_chosen k.table k.minute bad in (
        alike why (place ∙ sym (table_place s k (length out0) (length out1) bad)) (refused _ _ why n),
        (refused _ _ why n, refused _ _ why n),
      )

  module _ (z : c.why ≡ 0) where
    good_table : Good k.table
    good_table = taken_good k.table (sym number_is ∙ z)

    -- the deal that the code makes
    abbrev made : Deal
    made = deal_from k.number k.seed k.terms (Threshold c.threshold)

    is_made : made ≡ deal_at k
    is_made = ap (λ (c : Choice). deal_from k.number k.seed k.terms (Threshold c.threshold)) e

    place_is : (w p : ℕ) → w ≡ why_not_by_clock s k (length out0) (length out1) → p ≡ if_taken w c.place 0
        → p ≡ place_by_clock s k (length out0) (length out1)
    unfolding place_by_clock if_taken
    place_is w p f g =
        rw (good_taken k.table good_table, sym f, sym (ap (λ (c : Choice). c.place) e)) g

    pub by_clock : (a : DealerAnswer) (new0 new1 : List ℕ) (place : ℕ)
        → a ≡ deal s made (length out0) (length out1)
        → new0 ≡ deal_out s made out0 out1 0 → new1 ≡ deal_out s made out0 out1 1
        → place ≡ if_taken a.why c.place 0
        → Is (record { why = a.why; place = place; dealer = a.dealer }) new0 new1
    unfolding deal deal_by_clock
    by_clock a new0 new1 place ea e0 e1 ep =
        let made_is = ea ∙ ap (λ d. deal s d (length out0) (length out1)) is_made in
        let why =
        ap (λ (a : DealerAnswer). a.why) made_is ∙ sym (as_deal s k (length out0) (length out1) good_table) in (
          alike why (place_is a.why place why ep)
              (ap (λ (a : DealerAnswer). a.dealer) made_is
              ∙ sym (clock_state s k (length out0) (length out1) good_table)),
          (
            e0 ∙ ap (λ d. deal_out s d out0 out1 0) is_made ∙ sym (clock_bytes s k out0 out1 0 good_table),
            e1 ∙ ap (λ d. deal_out s d out0 out1 1) is_made ∙ sym (clock_bytes s k out0 out1 1 good_table),
          ),
        )

-- the row that is dealt by, where a minute may have none
pub told_row : (o : Option Row) → choice_of (Ok o)
    ≡ record { why = 0; place = (unwrap_or o nobody_row).place; threshold = (unwrap_or o nobody_row).threshold }
told_row (Some r) = refl
told_row None = refl
