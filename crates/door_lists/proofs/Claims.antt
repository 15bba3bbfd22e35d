-- Demand 3, whole: no wrong report, no reuse, always answered, never stuck, can be ended, can be dropped, not empty,
-- and what the verdict is. Assumes nothing.
use mathlib.Core.Path.{◌≡◌, refl, sym, ap, subst, ◌∙◌}
use mathlib.Core.Bool.{Bool, true, cond}
use mathlib.Core.List.{List, [], ◌∷◌}
use Prim.Native.Nat.{ℕ, ◌<◌, ◌≤◌}
use native.Mathlib.Omega.{arith}
use borrow.Author.Tests.{lt-ltb}
use lib.ListN.{replicate}
use Rattle.measure_table.specs.declared.Terms.{Terms}
use lib.IntN.{ℤ}
use Rattle.base_algebra.specs.Word.{signed}
use Rattle.measure_table.specs.declared.Rule.{Rule}
use Rattle.measure_table.specs.declared.Rule.TheVariants.{Threshold, Between}
use Rattle.measure_table.specs.Measure.{ordinary_mark, is_code, measure, meets, in_order, within}
use Rattle.measure_table.specs.Laws.{any_length, scalar_sign, distance_sign, reached_plain, reached_close}
use Rattle.half_deal.specs.Dealing.{Deal}
use Rattle.call_day.specs.Table.{day}
use Rattle.call_dealer.specs.Dealer.{half_size}
use Rattle.door_lists.specs.Lists.{Box, Starts, Started, beginning, Call, camera, office, joined, after, events}
use Rattle.door_lists.specs.Lists.{history, Admissible, deal}
use Rattle.door_lists.specs.Demand.{nothing_made, Answered, Free, NoWrongReport, NoReuse, AlwaysAnswered}
use Rattle.door_lists.specs.Demand.{verdict, NeverStuck, CanEnd, CanDrop, Example, OfMark, NotEmpty, VerdictIs}
use Rattle.door_lists.specs.Demand.{ByClock, Demand3}
use Rattle.door_lists.proofs.Once.{single}
use Rattle.door_lists.proofs.History.{look, in_deals, in_vectors}
use Rattle.door_lists.proofs.Invariant.{Inv, starts, door_long}
use Rattle.door_lists.proofs.Keeps.{keeps}
use Rattle.door_lists.proofs.Runs.{At, ready, run_goes, answered}
use Rattle.door_lists.proofs.Stuck.{never, room}
use Rattle.door_lists.proofs.Ends.{ended}
use Rattle.door_lists.proofs.Drops.{dropped_then}
use Rattle.door_lists.proofs.NotEmpty.{Sample, sample_any, sample_of, example, by_clock, some_starts}

pub always : (s : Starts) → Started s → (cs : List Call) → Admissible s cs
    → Inv s (history s cs) (after (beginning s) cs)
always s f [] a = starts s f
always s f (c ∷ cs) a =
    keeps s (history s cs) (after (beginning s) cs) (always s f cs a.0) (door_long s f) c a.1 a.2

no_wrong_report : NoWrongReport
unfolding NoWrongReport
no_wrong_report s f cs a n bit i =
    let I = always s f cs a in
    let r = look s (history s cs) (joined n bit) I.good i in
    let t = r.0 in
    record {
      d = t.of.d;
      x = t.v camera;
      y = t.v office;
      one_deal = single _ (I.deals_once n).few (in_deals (history s cs) n t.of);
      one_x = single _ ((I.box_is camera).ok.counted.vectors_once n).few
          (in_vectors (history s cs) camera n (t.v camera) (t.sents camera));
      one_y = single _ ((I.box_is office).ok.counted.vectors_once n).few
          (in_vectors (history s cs) office n (t.v office) (t.sents office));
      right = r.1;
    }

no_reuse : NoReuse
unfolding NoReuse
no_reuse s f cs a b n =
    let k = ((always s f cs a).box_is b).ok.counted in ((k.vectors_once n).few, (k.words_once n).few)

-- a run in the right order after such a list
pub begins : (s : Starts) → Started s → (cs : List Call) → Admissible s cs → (d : Deal) (v : Box → List ℕ)
    → Free s (history s cs) d.number → At s d v (after (beginning s) cs) nothing_made []
begins s f cs a d v F = ready s d v (history s cs) (after (beginning s) cs) (always s f cs a) F

always_answered : AlwaysAnswered
unfolding AlwaysAnswered
always_answered s f cs a d v R F rs g r c q =
    let w = after (beginning s) cs in
    let e = run_goes s d v (door_long s f) R w (begins s f cs a d v F) rs g r c q in
    subst (Answered d v c) (sym e) (answered s d v c g (events w rs) q)

never_stuck : NeverStuck
unfolding NeverStuck
never_stuck s f cs a d v R F = never s d v (door_long s f) R (after (beginning s) cs) (begins s f cs a d v F)

can_end : CanEnd
unfolding CanEnd
can_end s f cs a d v R F =
    let out : List ℕ = replicate (half_size d.terms.n) 0 in
    let enough = room (half_size d.terms.n) in
    ((deal d out out, (refl, refl, enough, enough)), ended s f cs a d v R F (begins s f cs a d v F))

can_drop : CanDrop
unfolding CanDrop
can_drop s f cs a b o =
    let h = history s cs in
    let (e, n) = dropped_then s h (after (beginning s) cs) (always s f cs a) b o in (ap (λ x. x ∷ h) e, n)

pub coded : (terms : Terms) → terms.code < 3 → is_code terms.code ≡ true
unfolding is_code
coded terms h = lt-ltb _ _ h

not_empty : NotEmpty
unfolding NotEmpty in_order
not_empty = (
  λ s f cs a n terms small c some most F.
      let run : (rule : Rule) (bit : ℕ) → Sample terms rule bit → Example s cs n terms rule bit =
      λ rule bit p.
      example n terms small (coded terms c) (any_length terms some most) rule bit p can_end s f cs a F in
      let at : (minute t bit : ℕ) → minute < day → Sample terms (Threshold t) bit → ByClock s cs n terms minute t bit =
      λ minute t bit h p.
      by_clock n terms small (coded terms c) (any_length terms some most) t bit p minute h can_end s f cs a F in
      let of_mark : (mark bit : ℕ) → mark ≤ 1 → bit ≤ 1 → OfMark s cs n terms mark bit =
      λ mark bit h k. let (rule, is, p) = sample_of terms some mark bit h k in (rule, is, run rule bit p) in (
        λ mark h. (of_mark mark 1 h (omega arith), of_mark mark 0 h (omega arith)),
        λ rule fits ordered. (_, run rule _ (sample_any terms rule fits ordered)),
        λ minute t h fits. (_, at minute t _ h (sample_any terms (Threshold t) fits refl)),
      ),
  some_starts,
)

verdict_is : VerdictIs
unfolding VerdictIs meets within
verdict_is d x y = (
  λ t is. (
    λ e. by_rule (Threshold t) is
        ∙ ap bit (reached_plain d.terms (scalar_sign d.terms ordinary_mark e) m (signed t)),
    λ h. by_rule (Threshold t) is ∙ ap bit (reached_close d.terms (distance_sign d.terms h) m (signed t)),
  ),
  λ p q is. by_rule (Between p q) is,
)
  where
    bit : Bool → ℕ
    bit b = cond b 1 0

    m : ℤ
    m = measure d.terms x y

    by_rule : (rule : Rule) → d.rule ≡ rule → verdict d x y ≡ bit (meets d.terms rule m)
    by_rule rule is = ap (λ (r : Rule). bit (meets d.terms r m)) is

pub demand_3 : Demand3
unfolding Demand3
demand_3 = (no_wrong_report, no_reuse, always_answered, never_stuck, can_end, can_drop, not_empty, verdict_is)
