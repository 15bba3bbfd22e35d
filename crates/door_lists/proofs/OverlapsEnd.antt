-- Two runs that overlap can both be made to their ends, the second loaded ahead at both boxes; and the promise of load
-- ahead, whole. Assumes nothing.
use mathlib.Core.Path.{◌≡◌, refl, sym, ap, ap₂, subst, ◌∙◌}
use mathlib.Core.List.{List, [], ◌∷◌, ◌++◌}
use Prim.Native.Nat.{ℕ, ◌^◌, ◌<◌}
use native.Mathlib.Omega.{arith}
use lib.ListN.{length, replicate}
use Rattle.measure_table.specs.Laws.{any_length}
use Rattle.half_deal.specs.Dealing.{Deal}
use Rattle.call_dealer.specs.Dealer.{half_size}
use Rattle.door_lists.specs.Lists.{Box, camera, office, World, Starts, beginning, Call, deal, load, mask}
use Rattle.door_lists.specs.Lists.{take, finish, join, Event, after, events, In, here, there, history, Admissible}
use Rattle.door_lists.specs.Demand.{onward, Answered, Free}
use Rattle.door_lists.specs.Overlap.{Both, nothing_yet, FirstReady, SecondReady, Overlap, begin, of_first}
use Rattle.door_lists.specs.Overlap.{of_second, Two, BothAnswered, NeitherStuck, BothEnded, BothCanEnd, LoadAhead}
use Rattle.door_lists.specs.Overlap.{TwoThereAre}
use Rattle.door_lists.proofs.Boxes.{both}
use Rattle.door_lists.proofs.Claims.{always, coded}
use Rattle.door_lists.proofs.Ends.{events_both, admitted, fitting, third}
use Rattle.door_lists.proofs.History.{door, half_of}
use Rattle.door_lists.proofs.Invariant.{door_long}
use Rattle.door_lists.proofs.Made.{said}
use Rattle.door_lists.proofs.NotEmpty.{sample_of, sample_deal, sample_range}
use Rattle.door_lists.proofs.Once.{in_left}
use Rattle.door_lists.proofs.Overlaps.{At, ready, running, first_goes, second_goes, drop_goes_on}
use Rattle.door_lists.proofs.OverlapsStuck.{never}
use Rattle.door_lists.proofs.Runs.{answered}
use Rattle.door_lists.proofs.Stuck.{room, mask_from, word_from, answer_from}

module _ (s : Starts) (cs : List Call) (d e : Deal) (v u : Box → List ℕ) (T : Two s cs d e v u) where
  abbrev world : World
  world = after (beginning s) cs

  long : length (door s) ≡ 16
  long = door_long s T.started

  A : At s d e v u T.above world nothing_yet []
  A = ready s d e v u T.above (history s cs) world (always s T.started cs T.admissible) T.free

  -- runs that are so far, with these calls and events
  record Reached (rs : List Call) (g : Both) (es : List Event) : Type 0 where
    overlap : Overlap (door s) d e v u world rs g
    admissible : Admissible s (rs ++ cs)
    events_are : events world rs ≡ es

  in_both : (rs : List Call) (x : Event) → In x (events world rs) → In x (history s (rs ++ cs))
  in_both rs x i = subst (In x) (sym (events_both (beginning s) rs cs)) (in_left (events world rs) (history s cs) i)

  next_first : {rs : List Call} {g : Both} {es : List Event} → Reached rs g es
      → (c : Call) → FirstReady (door s) d e v u g es c
      → Reached (c ∷ rs) (record { first = onward g.first c; second = g.second }) (said s d v c ∷ es)
  next_first {rs} {g} {es} t c q =
      let h : List Event = events world rs in
      let r : FirstReady (door s) d e v u g h c =
      subst (λ z. FirstReady (door s) d e v u g z c) (sym t.events_are) q in
      let x = first_goes s d e v u T.above long T.first_in_range T.second_in_range world A rs g
      t.overlap c r in
      record {
        overlap = of_first t.overlap c r;
        admissible = (
          t.admissible,
          fitting (door s) d v T.first_in_range.number_fits c g.first h r.0,
          admitted (door s) d v c g.first h (history s (rs ++ cs)) (in_both rs) r.0,
        );
        events_are = ap₂ ◌∷◌ x t.events_are;
      }

  next_second : {rs : List Call} {g : Both} {es : List Event} → Reached rs g es
      → (c : Call) → SecondReady (door s) d e v u g es c
      → Reached (c ∷ rs) (record { first = g.first; second = onward g.second c }) (said s e u c ∷ es)
  next_second {rs} {g} {es} t c q =
      let h : List Event = events world rs in
      let r : SecondReady (door s) d e v u g h c =
      subst (λ z. SecondReady (door s) d e v u g z c) (sym t.events_are) q in
      let x = second_goes s d e v u T.above long T.first_in_range T.second_in_range world A rs g
      t.overlap c r in
      record {
        overlap = of_second t.overlap c r;
        admissible = (
          t.admissible,
          fitting (door s) e u T.second_in_range.number_fits c g.second h r.0,
          admitted (door s) e u c g.second h (history s (rs ++ cs)) (in_both rs) r.0,
        );
        events_are = ap₂ ◌∷◌ x t.events_are;
      }

  history_is : {rs : List Call} {g : Both} {es : List Event} → Reached rs g es
      → history s (rs ++ cs) ≡ es ++ history s cs
  history_is {rs} t = events_both (beginning s) rs cs ∙ ap (λ h. h ++ history s cs) t.events_are

  both_ended : BothEnded s cs d e v u
  both_ended =
      let half : List ℕ = replicate (half_size d.terms.n) 0 in
      let out : List ℕ = replicate d.terms.n 0 in
      let half2 : List ℕ = replicate (half_size e.terms.n) 0 in
      let out2 : List ℕ = replicate e.terms.n 0 in
      let t0 : Reached [] nothing_yet [] =
      record { overlap = begin; admissible = T.admissible; events_are = refl } in
      let t1 = next_first t0 (deal d half half)
      ((refl, refl, room (half_size d.terms.n), room (half_size d.terms.n)), refl) in
      let t2 = next_first t1 (load camera (half_of s d camera)) ((refl, half_of s d, here refl, refl), refl) in
      let t3 = next_first t2 (load office (half_of s d office)) ((refl, half_of s d, there (here refl), refl), refl) in
      let t4 = next_second t3 (deal e half2 half2)
      ((refl, refl, room (half_size e.terms.n), room (half_size e.terms.n)), refl) in
      let t5 = next_second t4 (load camera (half_of s e camera)) ((refl, half_of s e, here refl, refl), omega arith) in
      let t6 = next_second t5 (load office (half_of s e office))
      ((refl, half_of s e, there (here refl), refl), omega arith) in
      let u1 = next_first t6 (mask camera (v camera) out) ((refl, refl, room d.terms.n), tt) in
      let u2 = next_first u1 (mask office (v office) out) ((refl, refl, room d.terms.n), tt) in
      let u3 = next_first u2 (take camera (mask_from s d v office)) ((refl, (refl, refl), (v office, here refl)), tt) in
      let u4 = next_first u3 (take office (mask_from s d v camera)) ((refl, (refl, refl), (v camera, third)), tt) in
      let u5 = next_first u4 (finish camera (word_from s d v office)) ((refl, (refl, refl), here refl), tt) in
      let u6 = next_first u5 (finish office (word_from s d v camera)) ((refl, (refl, refl), third), tt) in
      let u7 = next_first u6 (join (answer_from s d v camera) (answer_from s d v office))
      ((refl, (refl, refl), there (here refl), (refl, refl), here refl), refl) in
      let w1 = next_second u7 (mask camera (u camera) out2) ((refl, refl, room e.terms.n), omega arith) in
      let w2 = next_second w1 (mask office (u office) out2) ((refl, refl, room e.terms.n), omega arith) in
      let w3 = next_second w2 (take camera (mask_from s e u office))
      ((refl, (refl, refl), (u office, here refl)), omega arith) in
      let w4 = next_second w3 (take office (mask_from s e u camera))
      ((refl, (refl, refl), (u camera, third)), omega arith) in
      let w5 = next_second w4 (finish camera (word_from s e u office))
      ((refl, (refl, refl), here refl), omega arith) in
      let w6 = next_second w5 (finish office (word_from s e u camera)) ((refl, (refl, refl), third), omega arith) in
      let w7 = next_second w6 (join (answer_from s e u camera) (answer_from s e u office))
      ((refl, (refl, refl), there (here refl), (refl, refl), here refl), tt) in
      record {
        early = _;
        late = _ ∷ _ ∷ _ ∷ _ ∷ _ ∷ _ ∷ _ ∷ _ ∷ _ ∷ _ ∷ _ ∷ _ ∷ _ ∷ _ ∷ [];
        ahead = _;
        g = _;
        overlap_early = t6.overlap;
        overlap = w7.overlap;
        waiting = both _ ((omega arith, omega arith), refl) ((omega arith, omega arith), refl);
        whole = ((refl, both _ refl refl, refl), (refl, both _ refl refl, refl));
        admissible = w7.admissible;
        first_says = subst (In _) (sym (history_is w7))
            (there (there (there (there (there (there (there (here refl))))))));
        before = _;
        second_says = history_is w7;
        free = λ n l. subst (λ h. Free s h n) (sym (history_is w7)) (record {
          none_open = both _ (rw (T.free.none_open camera) refl) (rw (T.free.none_open office) refl);
          above_dealer = l;
          above_box = both _ l l;
          above_lock = l;
        });
      }

both_answered : BothAnswered
unfolding BothAnswered
both_answered s cs d e v u T rs g o =
    let w = after (beginning s) cs in
    let k = long s cs d e v u T in
    let R = T.first_in_range in
    let Q = T.second_in_range in
    let B = A s cs d e v u T in (
      λ c q. subst (Answered d v c) (sym (first_goes s d e v u T.above k R Q w B rs g o c q))
          (answered s d v c g.first (events w rs) q.0),
      λ c q. subst (Answered e u c) (sym (second_goes s d e v u T.above k R Q w B rs g o c q))
          (answered s e u c g.second (events w rs) q.0),
      λ b i. (drop_goes_on s d e v u T.above k R Q w B (after w rs) g (events w rs)
          (running s d e v u T.above k R Q w B o) b i).0,
    )

neither_stuck : NeitherStuck
unfolding NeitherStuck
neither_stuck s cs d e v u T =
    never s d e v u T.above (long s cs d e v u T) T.first_in_range T.second_in_range
    (after (beginning s) cs) (A s cs d e v u T)

both_can_end : BothCanEnd
unfolding BothCanEnd
both_can_end s cs d e v u T = both_ended s cs d e v u T

two_there_are : TwoThereAre
unfolding TwoThereAre
two_there_are s f cs a n m l small F p q mark mark' cp sp lp cq sq lq h h' =
    let below : n < 2 ^ 64 = omega (arith, l, small) in
    let (_, its_mark, first) = sample_of p sp mark 1 h (omega arith) in
    let (_, its_mark', second) = sample_of q sq mark' 0 h' (omega arith) in (
      sample_deal n p below (coded p cp) (any_length p sp lp) _ 1 first,
      sample_deal m q small (coded q cq) (any_length q sq lq) _ 0 second,
      first.v,
      second.v,
      record {
        started = f;
        admissible = a;
        first_in_range = sample_range n p below (coded p cp) (any_length p sp lp) _ 1 first;
        second_in_range = sample_range m q small (coded q cq) (any_length q sq lq) _ 0 second;
        free = F;
        above = l;
      },
      refl,
      refl,
      refl,
      refl,
      its_mark,
      its_mark',
      first.says,
      second.says,
    )

pub load_ahead : LoadAhead
unfolding LoadAhead
load_ahead = (both_answered, neither_stuck, both_can_end, two_there_are)
