use Rattle.call_dealer.specs.Clock.{clock_in}
use Rattle.door_parts.proofs.Steps.{clock_step}
use Rattle.door_parts.proofs.Door.deal_by_clock.Goals as goal

pub returns : goal.returns
returns c =
    let args = c.args in
    let deals = c.deal_by_clock-dealt.ensures in
    record {
      value = clock_step args.self (clock_in args.order) args.out0.now args.out1.now deals.value;
      out0_after = deals.out0_after;
      out1_after = deals.out1_after;
    }
