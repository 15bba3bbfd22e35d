use mathlib.Core.Path.{sym, ◌∙◌}
use Rattle.std.proofs.Common.{rules}
use Rattle.test_halves.proofs.dealt.deal.Goals as goal

pub deal_in_range-requires : goal.deal_in_range-requires
deal_in_range-requires c =
    let coded = sym c.is_code.ensures ∙ c.if-is_code.true in
    let long = sym c.length_fits.ensures ∙ c.if-length_fits.true in
    let ordered = sym c.in_order.ensures ∙ c.if-in_order.true in
    (search rules, coded, long, ordered)
