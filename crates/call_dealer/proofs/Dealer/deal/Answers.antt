use mathlib.Core.Path.{refl, sym, ◌∙◌}
use Rattle.base_messages.specs.Refusals.{not_0}
use Rattle.call_dealer.specs.Dealer.{deal_in}
use Rattle.call_dealer.proofs.Laws.{deal_refused, dealt}
use Rattle.call_dealer.proofs.Dealer.deal.Goals as goal

-- It is refused: the state is as it was,
-- and so are both buffers.
pub returns-in-Err : goal.returns-in-Err
returns-in-Err c =
    let a = c.args in
    let r =
    deal_refused a.self (deal_in a.order) a.out0.now a.out1.now _ (c.number.ensures ∙ c.in-Err.ensures)
    (λ z. not_0 c.in-Err.refusal (sym c.number.ensures ∙ z)) in
    record { value = r.0; out0_after = r.1.0; out1_after = r.1.1 }

pub write_halves-requires : goal.write_halves-requires
write_halves-requires c = sym c.in_default.ensures

pub returns : goal.returns
returns c =
    let a = c.args in
    let written = c.write_halves.ensures in
    let r =
    dealt a.self (deal_in a.order) a.out0.now a.out1.now _ c.in_default.ensures _ _ refl
    written.out0_after written.out1_after in
    record { value = r.0; out0_after = r.1.0; out1_after = r.1.1 }
