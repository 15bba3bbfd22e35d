-- Each call keeps the invariant. Assumes nothing.
use mathlib.Core.Path.{◌≡◌, refl, sym, subst, ap, ap₂, ◌∙◌}
use mathlib.Core.Bool.{Bool, true, false, cond}
use mathlib.Core.List.{List, ◌∷◌}
use Prim.Native.Nat.{ℕ, ◌^◌, ◌<◌}
use native.Mathlib.Omega.{arith}
use borrow.Author.Tests.{eqb-true}
use lib.Dec.{eqb, eqb→eq}
use lib.ListN.{length}
use Rattle.base_algebra.specs.Word.{add}
use Rattle.measure_table.specs.Measure.{all_in_range}
use Rattle.base_messages.specs.Messages.{if_taken}
use Rattle.call_dealer.specs.Dealer as DealerCalls
use Rattle.half_deal.specs.Dealing.{Deal}
use Rattle.call_dealer.specs.Dealer.{why_not_deal}
use Rattle.call_dealer.specs.Laws.{deal_tells}
use Rattle.call_dealer.specs.Clock.{deal_at}
use Rattle.call_party.specs.declared.Party.{Party}
use Rattle.call_party.specs.declared.PartyAnswer.{PartyAnswer}
use Rattle.call_party.specs.declared.TrialAnswer.{TrialAnswer}
use Rattle.call_party.specs.Party as BoxCalls
use Rattle.call_lock.specs.declared.Lock.{Lock}
use Rattle.call_lock.specs.Lock as LockCalls
use Rattle.call_lock.specs.Lock.{why_not_join}
use Rattle.door_lists.specs.Lists.{Box, camera, office, other, World, Starts, Message, Call, deal, load, trial}
use Rattle.door_lists.specs.Lists.{deal_by_clock, mask, take, finish, drop, join, Event, dealt, tried, sent}
use Rattle.door_lists.specs.Lists.{joined, refused, vector, answer, put, event_of, on_box, written, step, Fits}
use Rattle.door_lists.specs.Lists.{SentAnswer, Admits}
use Rattle.door_lists.specs.Demand.{deals, last_dealt}
use Rattle.door_lists.proofs.Clock.{by_clock}
use Rattle.door_lists.proofs.Accepted.{Heard, join_tells}
use Rattle.door_lists.proofs.Dealt.{Sound, answer_by, answers_join}
use Rattle.door_lists.proofs.Once.{once_cond}
use Rattle.door_lists.proofs.History.{door, EventOk, Pair, look}
use Rattle.door_lists.proofs.Invariant.{BoxIs, dealer_with, lock_with, Inv, dealt_by, wrote, one_deal, one_pair}
use Rattle.door_lists.proofs.Boxes.{put_same, put_all}
use Rattle.door_lists.proofs.Parts.{other_away, dealt_away, joined_away, refused_away, tried_away, own_quiet}
use Rattle.door_lists.proofs.Parts.{Away, Quiet, deals_quiet, dealt_quiet, joined_quiet, refused_quiet}
use Rattle.door_lists.proofs.Parts.{tried_quiet}
use Rattle.door_lists.proofs.Kept.{told, box_away, Stepped, at_box, Masking, masking, Taking, taking, Finishing}
use Rattle.door_lists.proofs.Kept.{finishing, Dropping, dropping, Loading, loading}

module _ (S : Starts) (h : List Event) (w : World) (I : Inv S h w) where
  -- an event that is right and leaves every part alone, as a refusal does
  alone : (e : Event) → EventOk S h e → Quiet e → ((b : Box) → Away b e) → Inv S (e ∷ h) w
  alone e ok q away =
      record {
        good = (I.good, ok);
        deals_once = λ n. rw (deals_quiet q h n, dealt_quiet q h S.dealer_floor) (I.deals_once n);
        dealer_is = I.dealer_is ∙ ap (dealer_with S) (sym (dealt_quiet q h S.dealer_floor));
        box_is = λ b. box_away S h e b (w.box b) (away b) (I.box_is b);
        lock_is = I.lock_is ∙ ap (lock_with S) (sym (joined_quiet q h S.lock_floor));
      }

  still : (why : ℕ) → Inv S (refused why ∷ h) w
  still why = alone (refused why) tt (refused_quiet why) (refused_away why)

  -- an accepted trial too
  on_trial : (b : Box) (x : List ℕ) → Inv S ((step w (trial b x)).event ∷ h) (step w (trial b x)).world
  unfolding if_taken
  on_trial b x = go (eqb (BoxCalls.trial (w.box b) x).why 0)
    where
      a : TrialAnswer
      a = BoxCalls.trial (w.box b) x

      go : (t : Bool) → Inv S (cond t (tried b a.name a.terms) (refused a.why) ∷ h) w
      go true = alone (tried b a.name a.terms) tt (tried_quiet b _ _) (tried_away b _ _)
      go false = still a.why

  moved : (b : Box) (s : Party) (e : Event) → Stepped S h b s e
      → Inv S (e ∷ h) (record { dealer = w.dealer; box = put w.box b s; lock = w.lock })
  moved b s e k =
      let q = own_quiet b e k.0 in
      record {
        good = (I.good, k.1);
        deals_once = λ n. rw (deals_quiet q h n, dealt_quiet q h S.dealer_floor) (I.deals_once n);
        dealer_is = I.dealer_is ∙ ap (dealer_with S) (sym (dealt_quiet q h S.dealer_floor));
        box_is = put_all (BoxIs S (e ∷ h)) w.box b s k.2
            (box_away S h e (other b) (w.box (other b)) (other_away b e k.0) (I.box_is (other b)));
        lock_is = I.lock_is ∙ ap (lock_with S) (sym (joined_quiet q h S.lock_floor));
      }

  on_box_lem : (b : Box) (a : PartyAnswer) (s : Party) (e : Event)
      → a.party ≡ if_taken a.why s (w.box b) → (a.why ≡ 0 → Stepped S h b s e)
      → Inv S ((on_box w b a e).event ∷ h) (on_box w b a e).world
  unfolding if_taken
  on_box_lem b a s e q k =
      subst (λ z.
      Inv S (event_of a.why e ∷ h) (record { dealer = w.dealer; box = put w.box b z; lock = w.lock }))
      (sym q) (go (eqb a.why 0) refl)
    where
      go : (t : Bool) → eqb a.why 0 ≡ t
          → Inv S (cond t e (refused a.why) ∷ h)
          (record { dealer = w.dealer; box = put w.box b (cond t s (w.box b)); lock = w.lock })
      go true f = moved b s e (k (eqb-true _ _ f))
      go false f =
          let I = still a.why in
          record {
            good = I.good;
            deals_once = I.deals_once;
            dealer_is = I.dealer_is;
            box_is = λ c. subst (BoxIs S (refused a.why ∷ h) c) (sym (put_same w.box b c)) (I.box_is c);
            lock_is = I.lock_is;
          }

  -- ---- the dealer

  on_deal : length (door S) ≡ 16 → (d : Deal) (out0 out1 : List ℕ) → d.number < 2 ^ 64
      → Inv S ((step w (deal d out0 out1)).event ∷ h) (step w (deal d out0 out1)).world
  unfolding DealerCalls.deal if_taken
  on_deal long d out0 out1 fits = go (eqb (why_not_deal w.dealer d (length out0) (length out1)) 0) refl
    where
      go : (t : Bool) → eqb (why_not_deal w.dealer d (length out0) (length out1)) 0 ≡ t
          → Inv S (cond t (dealt d (written w.dealer d out0 out1))
          (refused (why_not_deal w.dealer d (length out0) (length out1))) ∷ h)
          (record { dealer = cond t (dealt_by S d w.dealer) w.dealer; box = w.box; lock = w.lock })
      go false f = still _
      go true f =
          let e = eqb-true _ _ f in
          let tells = deal_tells w.dealer d (length out0) (length out1) e in
          let k : Sound d = record {
            number_fits = fits;
            code_fits = tells.code_fits;
            length_fits_lem = tells.length_fits_lem;
            rule_fits_lem = tells.rule_fits_lem;
            in_order_lem = tells.in_order_lem;
          } in
          let above : last_dealt S.dealer_floor h < d.number =
          subst (λ s. s.last < d.number) I.dealer_is tells.above in
          record {
            good = (I.good, (k, wrote S long w.dealer _ I.dealer_is d k out0 out1 e));
            deals_once = λ n. once_cond d (deals n h) (eqb d.number n)
                (I.deals_once n) (λ t. omega (arith, eqb→eq d.number n t))
                (λ t q. omega (arith, eqb→eq d.number n t)) (λ q. omega arith);
            dealer_is = ap (dealt_by S d) I.dealer_is;
            box_is = λ b. box_away S h _ b (w.box b) (dealt_away d _ b) (I.box_is b);
            lock_is = I.lock_is;
          }

  -- ---- the lock

  abbrev joined_by : ℕ → Lock → Lock
  joined_by i s = record { name = s.name; last = i }

  abbrev why_not_join_lem : Message ℕ → Message ℕ → ℕ
  why_not_join_lem m n = why_not_join w.lock m.label m.name m.content n.label n.name n.content

  right_report : (m n : Message ℕ) (i : ℕ) → Admits (door S) h (join m n)
      → Heard 2 0 i (door S) m.label m.name → Heard 2 1 i (door S) n.label n.name
      → EventOk S h (joined i (add m.content n.content))
  right_report m n i ad f g =
      let r = look S h (sent camera i (answer m.content)) I.good (told S (SentAnswer h) 2 camera i m ad.0 f) in
      let s = look S h (sent office i (answer n.content)) I.good (told S (SentAnswer h) 2 office i n ad.1 g) in
      let t = r.0 in
      let ed = one_deal S h w I i s.0.of t.of in
      let ev = one_pair S h w I i s.0.v t.v s.0.sents t.sents in (
        t,
        ap₂ add r.1 (s.1 ∙ ap₂ (λ d v. answer_by d v office) ed ev) ∙ answers_join t.of.d
            t.v (look S h (dealt t.of.d t.of.f) I.good t.of.was).0 (ranged t),
      )
    where
      ranged : (t : Pair h i) (b : Box) → all_in_range t.of.d.terms (t.v b) ≡ true
      ranged t b =
          let r = look S h (sent b i (vector (t.v b) (t.sents b).0)) I.good (t.sents b).1 in
          subst (λ d. all_in_range d.terms (t.v b) ≡ true) (one_deal S h w I i r.0 t.of) r.1

  on_join : (m n : Message ℕ) → Admits (door S) h (join m n)
      → Inv S ((step w (join m n)).event ∷ h) (step w (join m n)).world
  unfolding LockCalls.join if_taken
  on_join m n ad = go (eqb (why_not_join_lem m n) 0) refl
    where
      go : (t : Bool) → eqb (why_not_join_lem m n) 0 ≡ t
          → Inv S (cond t (joined m.label.number (cond t (add m.content n.content) 0))
          (refused (why_not_join_lem m n)) ∷ h)
          (record { dealer = w.dealer; box = w.box; lock = cond t (joined_by m.label.number w.lock) w.lock })
      go false f = still _
      go true f =
          let tells =
          join_tells w.lock m.label m.name m.content n.label n.name n.content (eqb-true _ _ f) in
          let name : w.lock.name ≡ door S = ap (λ s. s.name) I.lock_is in
          record {
            good = (
              I.good,
              right_report m n m.label.number ad
                  (subst (λ z. Heard 2 0 m.label.number z m.label m.name) name tells.hears_0)
                  (subst (λ z. Heard 2 1 m.label.number z n.label n.name) name tells.hears_1),
            );
            deals_once = I.deals_once;
            dealer_is = I.dealer_is;
            box_is = λ b. box_away S h _ b (w.box b) (joined_away _ _ b) (I.box_is b);
            lock_is = ap (joined_by m.label.number) I.lock_is;
          }

  -- ---- every call

  pub keeps : length (door S) ≡ 16 → (c : Call) → Fits c → Admits (door S) h c
      → Inv S ((step w c).event ∷ h) (step w c).world
  unfolding BoxCalls.load BoxCalls.mask BoxCalls.take_vector BoxCalls.finish BoxCalls.drop_set
  keeps long (deal d out0 out1) fits ad = on_deal long d out0 out1 fits
  keeps long (deal_by_clock k out0 out1) fits ad =
      by_clock w k out0 out1 (λ x. Inv S (x.event ∷ h) x.world) (on_deal long (deal_at k) out0 out1 fits) still
  keeps long (load b x) fits ad =
      on_box_lem b (BoxCalls.load (w.box b) x) _ _ refl
      (at_box S h w I b (Loading S h w I b x) (loading S h w I long b x ad))
  keeps long (trial b x) fits ad = on_trial b x
  keeps long (mask b v out) fits ad =
      on_box_lem b (BoxCalls.mask (w.box b) v (length out)) _ _ refl
      (at_box S h w I b (Masking S h w I b v out) (masking S h w I b v out))
  keeps long (take b m) fits ad =
      on_box_lem b (BoxCalls.take_vector (w.box b) m.label m.name m.content) _ _ refl
      (at_box S h w I b (Taking S h w I b m) (taking S h w I b m ad))
  keeps long (finish b m) fits ad =
      on_box_lem b (BoxCalls.finish (w.box b) m.label m.name m.content) _ _ refl
      (at_box S h w I b (Finishing S h w I b m) (finishing S h w I b m ad))
  keeps long (drop b) fits ad =
      on_box_lem b (BoxCalls.drop_set (w.box b)) _ _ refl (at_box S h w I b (Dropping S h w I b) (dropping S h w I b))
  keeps long (join m n) fits ad = on_join m n ad
