use native.Mathlib.Omega.{arith}
use mathlib.Core.Path.{refl, sym, ◌∙◌}
use lib.Seq.{length-take-le}
use Rattle.std.proofs.lemmas.Result.{err_from_is_err_and}
use Rattle.half_open.proofs.Whole.{refuses, early_why, late_why, its_blocks, reads, examined_refused, examined_taken}
use Rattle.half_open.proofs.examine.Goals as goal

-- A half that is turned down:
-- its number is told, and no set.
pub returns-in_err-number : goal.returns-in_err-number
returns-in_err-number c =
    let p = err_from_is_err_and c.from_residual.result c.from_residual.ensures.1 in
    let some = refuses c.in_err-number.field-0.0 in
    rw (p.1, p.2) (examined_refused _ _ _ _ _ _ (early_why _ _ _ _ _ _ c.in_err-number.ensures.value some) some)

-- What is opened is of whole blocks:
-- neither too few nor too many.
pub why_not_within-requires : goal.why_not_within-requires
why_not_within-requires c =
    let blocks = its_blocks _ _ _ c.in_ok-number.ensures.value refl in
    (blocks.0, blocks.1)

pub returns-in_err-size : goal.returns-in_err-size
returns-in_err-size c =
    let p = err_from_is_err_and c.from_residual-in_err-size.result c.from_residual-in_err-size.ensures.1 in
    let why = late_why _ _ _ _ _ _ c.in_ok-number.ensures.value refl _ c.in_err-size.ensures.value in
    rw (p.1, p.2) (examined_refused _ _ _ _ _ _ why (refuses c.in_err-size.field-0.0))

pub slice_bounds-room-end : goal.slice_bounds-room-end
slice_bounds-room-end c =
    omega (arith, c.in_ok-size.ensures.room_after.0, (its_blocks _ _ _ c.in_ok-number.ensures.value refl).1)

pub slice_bounds-read_set-end : goal.slice_bounds-read_set-end
slice_bounds-read_set-end c =
    let blocks = its_blocks _ _ _ c.in_ok-number.ensures.value refl in
    sym (length-take-le _ _ (omega (arith, c.in_ok-size.ensures.room_after.0, blocks.1)))

pub read_set-requires : goal.read_set-requires
read_set-requires c =
    let blocks = its_blocks _ _ _ c.in_ok-number.ensures.value refl in
    let late = c.in_ok-size.ensures in
    reads _ _ _ _ _ late.value refl _ late.room_after.1
    (length-take-le _ _ (omega (arith, late.room_after.0, blocks.1)) ∙ late.room_after.0)

pub returns : goal.returns
returns c =
    let early = c.in_ok-number.ensures in
    let late = c.in_ok-size.ensures in
    examined_taken _ _ _ _ _ _ (late_why _ _ _ _ _ _ early.value refl _ late.value) refl _
    late.room_after.1 _ _ early.its_number c.read_set.ensures
