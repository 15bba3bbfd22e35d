-- A deal by the clock (02, §5) is a step of the plain deal with the chosen row's threshold, or it is refused and
-- changes nothing. Assumes nothing.
use mathlib.Core.Path.{◌≡◌, refl, sym, ap, subst}
use mathlib.Core.Bool.{Bool, true, false}
use mathlib.Core.List.{List}
use Prim.Native.Nat.{ℕ}
use borrow.Author.Tests.{eqb-true, eqb-false, ne_eqb}
use lib.Dec.{eqb}
use lib.ListN.{length}
use Rattle.base_messages.specs.Messages.{if_taken}
use Rattle.call_day.specs.Table.{why_not_table}
use Rattle.call_day.specs.Claims.{Good}
use Rattle.call_day.proofs.Claims.{taken_good}
use Rattle.half_content.specs.Content.{part}
use Rattle.call_dealer.specs.declared.Dealer.{Dealer}
use Rattle.call_dealer.specs.Dealer as DealerCalls
use Rattle.call_dealer.specs.Dealer.{half_size, next_dealer, out_buffer}
use Rattle.call_dealer.specs.Clock as ClockCalls
use Rattle.call_dealer.specs.Clock.{ClockDeal, deal_at}
use Rattle.call_dealer.specs.ClockLaws.{table_first}
use Rattle.call_dealer.proofs.ClockLaws.{as_deal}
use Rattle.door_lists.specs.Lists.{party_of, World, deal, deal_by_clock, dealt, refused, Step, on_dealer, step}

module _ (w : World) (k : ClockDeal) (out0 out1 : List ℕ) where
  -- the step of a deal that is turned down for this reason, or taken
  abbrev by : ℕ → Step
  by why =
      let s : Dealer = w.dealer in
      on_dealer w why (if_taken why (next_dealer s k.number) s)
      (dealt (deal_at k) (λ b. part 0 (half_size k.terms.n) (out_buffer why s (deal_at k) out0 out1 (party_of b))))

  -- a table that 14 to 16 let through
  pub as_plain : Good k.table → step w (deal_by_clock k out0 out1) ≡ step w (deal (deal_at k) out0 out1)
  unfolding ClockCalls.deal_by_clock ClockCalls.clock_out DealerCalls.deal DealerCalls.deal_out
  as_plain g = ap by (as_deal w.dealer k (length out0) (length out1) g)

  -- and one that they do not
  table_refused : ((why_not_table k.table).why ≡ 0 → ⊥)
      → step w (deal_by_clock k out0 out1) ≡ record { world = w; event = refused (why_not_table k.table).why }
  unfolding ClockCalls.deal_by_clock if_taken
  table_refused n =
      rw (table_first w.dealer k (length out0) (length out1) n, ne_eqb (why_not_table k.table).why 0 n) refl

  -- so what holds of every plain deal and of every refusal holds of it
  pub by_clock : (Q : Step → Type 0) → Q (step w (deal (deal_at k) out0 out1))
      → ((why : ℕ) → Q (record { world = w; event = refused why }))
      → Q (step w (deal_by_clock k out0 out1))
  by_clock Q f g = go (eqb (why_not_table k.table).why 0) refl
    where
      go : (b : Bool) → eqb (why_not_table k.table).why 0 ≡ b → Q (step w (deal_by_clock k out0 out1))
      go true e = subst Q (sym (as_plain (taken_good k.table (eqb-true _ 0 e)))) f
      go false e = subst Q (sym (table_refused (eqb-false _ 0 e))) (g _)
