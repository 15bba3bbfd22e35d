use mathlib.Core.Path.{refl}
use native.Mathlib.Omega.{arith}
use lib.ListN.{length}
use borrow.Author.Tests.{le-ltb, lt-ltb}
use Rattle.call_dealer.proofs.Laws.{short, few, unknown_code, bad_length, no_room, stale, out_of_range_lem}
use Rattle.call_dealer.proofs.Laws.{bad_marks_lem, deal_taken}
use Rattle.call_dealer.proofs.Dealer.why_not_deal.Goals as goal

pub returns-then-not-is_code : goal.returns-then-not-is_code
returns-then-not-is_code c = unknown_code c.args.self _ refl refl _ _ _ c.is_code.ensures c.if-not-is_code.true

pub returns-then-not-long-length_fits : goal.returns-then-not-long-length_fits
returns-then-not-long-length_fits c =
    bad_length c.args.self _ refl refl _ _ _ c.is_code.ensures c.if-not-is_code.false _
    c.length_fits.ensures c.if-not-long-length_fits.true

pub blocks_of-size-requires : goal.blocks_of-size-requires
blocks_of-size-requires c =
    let order = c.args.order in
    let fits = c.length_fits.ensures in
    omega (arith, (short (length order.seed.now) order.terms _ fits c.if-not-long-length_fits.false).1)

pub overflow_mul-size : goal.overflow_mul-size
overflow_mul-size c =
    let fits = c.length_fits.ensures in
    omega (
      arith,
      few (length c.args.order.seed.now) c.args.order.terms _ fits c.if-not-long-length_fits.false _
          c.blocks_of-size.ensures,
    )

pub returns-then-not-size-room0 : goal.returns-then-not-size-room0
returns-then-not-size-room0 c =
    no_room c.args.self _ refl refl _ _ _ c.is_code.ensures c.if-not-is_code.false _
    c.length_fits.ensures c.if-not-long-length_fits.false _ c.blocks_of-size.ensures c.if-not-size-room0.true

pub returns-then-not-last-number : goal.returns-then-not-last-number
returns-then-not-last-number c =
    stale c.args.self _ refl refl _ _ _ c.is_code.ensures c.if-not-is_code.false _
    c.length_fits.ensures c.if-not-long-length_fits.false _ c.blocks_of-size.ensures c.if-not-size-room0.false
    (le-ltb _ _ c.if-not-last-number.true)

pub returns-then-not-rule_fits : goal.returns-then-not-rule_fits
returns-then-not-rule_fits c =
    out_of_range_lem c.args.self _ refl refl _ _ _ c.is_code.ensures c.if-not-is_code.false _
    c.length_fits.ensures c.if-not-long-length_fits.false _ c.blocks_of-size.ensures c.if-not-size-room0.false
    (lt-ltb _ _ c.if-not-last-number.false) _ c.rule_fits.ensures c.if-not-rule_fits.true

pub returns-then-not-in_order : goal.returns-then-not-in_order
returns-then-not-in_order c =
    bad_marks_lem c.args.self _ refl refl _ _ _ c.is_code.ensures c.if-not-is_code.false _
    c.length_fits.ensures c.if-not-long-length_fits.false _ c.blocks_of-size.ensures c.if-not-size-room0.false
    (lt-ltb _ _ c.if-not-last-number.false) _ c.rule_fits.ensures c.if-not-rule_fits.false _ c.in_order.ensures
    c.if-not-in_order.true

pub returns : goal.returns
returns c =
    deal_taken c.args.self _ refl refl _ _ _ c.is_code.ensures c.if-not-is_code.false _
    c.length_fits.ensures c.if-not-long-length_fits.false _ c.blocks_of-size.ensures c.if-not-size-room0.false
    (lt-ltb _ _ c.if-not-last-number.false) _ c.rule_fits.ensures c.if-not-rule_fits.false _ c.in_order.ensures
    c.if-not-in_order.false
