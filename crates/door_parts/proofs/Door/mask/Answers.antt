use mathlib.Core.Path.{ap, ◌∙◌}
use Rattle.call_party.specs.declared.Party.{Party}
use Rattle.call_party.specs.Party.{mask_out}
use Rattle.door_parts.proofs.Steps.{mask_step}
use Rattle.door_parts.proofs.Door.mask.Goals as goal

pub returns : goal.returns
returns c =
    let args = c.args in
    let masks = c.mask.ensures in
    let own = c.at-party.ensures in
    record {
      value = mask_step _ args.side own _ args.out.now masks.value c.on_box.ensures;
      out_after = masks.out_after ∙ ap (λ (s : Party). mask_out s args.v.now args.out.now) own;
    }
