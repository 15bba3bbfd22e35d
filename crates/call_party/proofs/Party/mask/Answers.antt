use mathlib.Core.Path.{◌∙◌}
use native.Mathlib.Omega.{arith}
use Rattle.call_party.proofs.Calls.{mask_fits_lem, mask_refused, out_refused, mask_taken, out_taken}
use Rattle.call_party.proofs.Party.mask.Goals as goal

pub write_masked-requires : goal.write_masked-requires
write_masked-requires c =
    let args = c.args in
    let f = mask_fits_lem args.self _ c.in_turn-turn.ensures args.v.now args.out.now _
    (c.why-refusal.ensures ∙ c.why_not_mask.ensures) c.if-refusal-eq0.true in
    (f.0, omega (arith, f.1), f.2)

pub masked_array-kept-requires : goal.masked_array-kept-requires
masked_array-kept-requires c =
    let args = c.args in
    let f = mask_fits_lem args.self _ c.in_turn-turn.ensures args.v.now args.out.now _
    (c.why-refusal.ensures ∙ c.why_not_mask.ensures) c.if-refusal-eq0.true in
    (f.0, omega (arith, f.1))

pub own-requires : goal.own-requires
own-requires c =
    let args = c.args in
    let f = mask_fits_lem args.self _ c.in_turn-turn.ensures args.v.now args.out.now _
    (c.why-refusal.ensures ∙ c.why_not_mask.ensures) c.if-refusal-eq0.true in
    omega (arith, f.1)

-- the vector is taken
pub returns-then-refusal-eq0 : goal.returns-then-refusal-eq0
returns-then-refusal-eq0 c =
    let args = c.args in
    let turn = c.in_turn-turn.ensures in
    let why = (c.why-refusal.ensures ∙ c.why_not_mask.ensures) in
    record {
      value =
          mask_taken args.self _ turn args.v.now args.out.now _ why _ _
          c.if-refusal-eq0.true c.masked_array-kept.ensures c.own.ensures;
      out_after =
          out_taken args.self _ turn args.v.now args.out.now _ why _
          c.if-refusal-eq0.true c.write_masked.ensures;
    }

-- it is refused
pub returns-else-refusal-eq0 : goal.returns-else-refusal-eq0
returns-else-refusal-eq0 c =
    let args = c.args in
    let turn = c.in_turn-turn.ensures in
    let why = (c.why-refusal.ensures ∙ c.why_not_mask.ensures) in
    record {
      value = mask_refused args.self _ turn args.v.now args.out.now _ why c.if-refusal-eq0.false;
      out_after = out_refused args.self _ turn args.v.now args.out.now _ why c.if-refusal-eq0.false;
    }
