use mathlib.Core.Path.{refl, sym, ap, ◌∙◌}
use Prim.Native.Nat.{ℕ}
use Rattle.call_day.specs.Table.{no_threshold}
use Rattle.call_day.specs.declared.Row.{Row}
use Rattle.base_messages.specs.Refusals.{not_0}
use Rattle.call_dealer.specs.Clock.{clock_in}
use Rattle.call_dealer.proofs.Clock.{bad_table, by_clock, told_row}
use Rattle.call_dealer.proofs.Dealer.deal_by_clock.Goals as goal

pub returns-in-Err : goal.returns-in-Err
returns-in-Err c =
    let a = c.args in
    let r =
    bad_table a.self (clock_in a.order) a.out0.now a.out1.now _
    (ap (λ (why : ℕ). record { why = why; place = c.in-Err.bad.place; threshold = no_threshold }) c.number.ensures
    ∙ c.in-Err.ensures.value)
    (λ z. not_0 c.in-Err.bad.why (sym c.number.ensures ∙ z)) in
    record { value = r.0; out0_after = r.1.0; out1_after = r.1.1 }

pub returns : goal.returns
returns c =
    let a = c.args in
    let done = c.deal-a.ensures in
    let row = c.unwrap_or-row.ensures in
    let chosen =
    ap (λ (r : Row). record { why = 0; place = r.place; threshold = r.threshold }) row
    ∙ sym (told_row c.in-Ok.chosen) ∙ c.in-Ok.ensures.value in
    let r =
    by_clock a.self (clock_in a.order) a.out0.now a.out1.now _ chosen refl
    _ _ _ _ done.value done.out0_after done.out1_after c.place_told.ensures in
    record { value = r.0; out0_after = r.1.0; out1_after = r.1.1 }
