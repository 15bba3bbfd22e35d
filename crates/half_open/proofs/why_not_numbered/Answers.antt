use mathlib.Core.Path.{ap}
use mathlib.Core.Bool.{not}
use borrow.Author.Tests.{le-ltb, lt-ltb}
use native.Mathlib.Omega.{arith}
use Rattle.half_open.proofs.Whole.{not_whole, stale, fresh, some_blocks}
use Rattle.half_open.proofs.why_not_numbered.Goals as goal

pub returns-then-not-is_whole-clause-value : goal.returns-then-not-is_whole-clause-value
returns-then-not-is_whole-clause-value c = not_whole _ _ _ c.is_whole.ensures (ap not c.if-not-is_whole.true)

pub load_number-number-requires : goal.load_number-number-requires
load_number-number-requires c =
    omega (
      arith,
      some_blocks c.args.h.now c.args.last _ c.is_whole.ensures (ap not c.if-not-is_whole.false),
    )

pub returns-then-not-last-number-clause-value : goal.returns-then-not-last-number-clause-value
returns-then-not-last-number-clause-value c =
    stale _ _ _ c.is_whole.ensures (ap not c.if-not-is_whole.false) _ c.load_number-number.ensures
    (ap not (le-ltb _ _ c.if-not-last-number.true))

pub returns-clause-value : goal.returns-clause-value
returns-clause-value c =
    fresh _ _ _ c.is_whole.ensures (ap not c.if-not-is_whole.false) _ c.load_number-number.ensures
    (ap not (lt-ltb _ _ c.if-not-last-number.false))
