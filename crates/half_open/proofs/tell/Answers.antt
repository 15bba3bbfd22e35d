use native.Mathlib.Omega.{arith}
use mathlib.Core.Path.{refl, sym}
use lib.Seq.{length-take-le}
use Rattle.std.proofs.lemmas.Result.{err_from_is_err_and}
use Rattle.half_open.proofs.Whole.{refuses, early_why, late_why, its_blocks, has_terms, told_refused, told_taken}
use Rattle.half_open.proofs.tell.Goals as goal

-- A half that is turned down:
-- its number is told, and no terms.
pub returns-in_err-why_not_numbered : goal.returns-in_err-why_not_numbered
returns-in_err-why_not_numbered c =
    let p = err_from_is_err_and c.from_residual.result c.from_residual.ensures.1 in
    let some = refuses c.in_err-why_not_numbered.field-0.0 in
    rw (p.1, p.2) (told_refused _ _ _ _ _ _ (early_why _ _ _ _ _ _ c.in_err-why_not_numbered.ensures.value some) some)

-- What is opened is of whole blocks:
-- neither too few nor too many.
pub why_not_within-requires : goal.why_not_within-requires
why_not_within-requires c =
    let blocks = its_blocks _ _ _ c.in_ok-why_not_numbered.ensures.value refl in
    (blocks.0, blocks.1)

pub returns-in_err-size : goal.returns-in_err-size
returns-in_err-size c =
    let p = err_from_is_err_and c.from_residual-in_err-size.result c.from_residual-in_err-size.ensures.1 in
    let why = late_why _ _ _ _ _ _ c.in_ok-why_not_numbered.ensures.value refl _ c.in_err-size.ensures.value in
    rw (p.1, p.2) (told_refused _ _ _ _ _ _ why (refuses c.in_err-size.field-0.0))

pub slice_bounds-room-end : goal.slice_bounds-room-end
slice_bounds-room-end c =
    omega (arith, c.in_ok-size.ensures.room_after.0, (its_blocks _ _ _ c.in_ok-why_not_numbered.ensures.value refl).1)

pub slice_bounds-terms_in-end : goal.slice_bounds-terms_in-end
slice_bounds-terms_in-end c =
    let blocks = its_blocks _ _ _ c.in_ok-why_not_numbered.ensures.value refl in
    sym (length-take-le _ _ (omega (arith, c.in_ok-size.ensures.room_after.0, blocks.1)))

pub terms_in-requires : goal.terms_in-requires
terms_in-requires c =
    let early = c.in_ok-why_not_numbered.ensures.value in
    let late = c.in_ok-size.ensures.room_after in
    rw late.0 (has_terms _ _ _ early refl _ (omega (arith, (its_blocks _ _ _ early refl).1)))

pub returns : goal.returns
returns c =
    let early = c.in_ok-why_not_numbered.ensures in
    let late = c.in_ok-size.ensures in
    told_taken _ _ _ _ _ _ (late_why _ _ _ _ _ _ early.value refl _ late.value) refl _
    late.room_after.1 _ c.terms_in.ensures.0
