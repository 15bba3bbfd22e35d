use Rattle.std.proofs.Common.{◌≡◌, ◌+◌, length, sym, ap, ap₂, subst, ◌∙◌, arith, rules}
use Rattle.std.proofs.lemmas.List.{length_push}
use Rattle.std.proofs.lemmas.Slice.Zip.{zip_turn, zip_end}
use Rattle.call_day.specs.Turns.{lower_of, Tried, tried_none, tried_more}
use Rattle.call_day.specs.Claims.{all_rows}
use Rattle.call_day.proofs.Turns.{found_lowest}
use Rattle.call_day.proofs.Rows.first_bad_minute.Goals as goal

pub loop-first-init : goal.loop-first-init
loop-first-init c =
    let s = c.args.self in subst (Tried s.firsts.now s.lasts.now 0) (sym c.lower-lowest.ensures) (tried_none _ _)

pub overflow_add-last : goal.overflow_add-last
overflow_add-last c =
    let s = c.args.self in
    let at =
    zip_turn s.firsts.now s.lasts.now c.loop-first.yielded _ _ c.next.new.self _ (search rules) (search rules)
    c.loop-first.yielded_by _ c.in-Some.is c.next.ensures.steps in
    let fits = all_rows s.firsts.now s.lasts.now c.requires _ at.0 in
    record { fits = omega (arith, fits.in_day, at.3 0) }

pub loop-first-preserved : goal.loop-first-preserved
loop-first-preserved c =
    let s = c.args.self in
    let n = length c.loop-first.yielded in
    let at =
    zip_turn s.firsts.now s.lasts.now c.loop-first.yielded _ _ c.next.new.self _ (search rules) (search rules)
    c.loop-first.yielded_by _ c.in-Some.is c.next.ensures.steps in
    let lower = lower_of s.firsts.now s.lasts.now in
    let tried = tried_more s.firsts.now s.lasts.now n _ c.loop-first.invariant in
    let lowest =
    c.lower-lowest-in-loop-first-2.ensures
    ∙ ap₂ (λ k l. lower k (l + 1))
    (c.lower-lowest-in-loop-first.ensures ∙ ap (lower c.loop-first.lowest) (at.2 0)) (at.3 0) in
    rw (length_push c.loop-first.yielded (c.in-Some.first, c.in-Some.last), lowest) tried

pub returns : goal.returns
returns c =
    let s = c.args.self in
    let e =
    zip_end s.firsts.now s.lasts.now c.loop-first.yielded _ _ c.next.new.self _ (search rules) (search rules)
    c.loop-first.yielded_by c.in-None.is c.next.ensures.steps in
    let all : length c.loop-first.yielded ≡ length s.firsts.now = omega (arith, e, s.same_length) in
    found_lowest _ _ _ (subst (λ n. Tried s.firsts.now s.lasts.now n c.loop-first.lowest) all c.loop-first.invariant)
