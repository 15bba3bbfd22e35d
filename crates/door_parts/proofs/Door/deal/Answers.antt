use Rattle.call_dealer.specs.Dealer.{deal_in}
use Rattle.door_parts.proofs.Steps.{deal_step}
use Rattle.door_parts.proofs.Door.deal.Goals as goal

pub returns : goal.returns
returns c =
    let args = c.args in
    let deals = c.deal-a.ensures in
    record {
      value = deal_step args.self (deal_in args.order) args.out0.now args.out1.now deals.value;
      out0_after = deals.out0_after;
      out1_after = deals.out1_after;
    }
