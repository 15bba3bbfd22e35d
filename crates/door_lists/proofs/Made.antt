-- What each call of a run in the right order does, at the state that the run gives its part. Assumes nothing.
use mathlib.Core.Path.{◌≡◌, refl, sym, ap, ap₂, ◌∙◌, fun_ext}
use mathlib.Core.Bool.{Bool, true, false, cond}
use mathlib.Core.List.{List, [], ◌∷◌, ◌++◌}
use Prim.Native.Nat.{ℕ, zero, suc, ◌<◌, ◌≤◌}
use native.Mathlib.Omega.{arith}
use lib.ListN.{length}
use Rattle.base_algebra.specs.Word.{add}
use Rattle.measure_table.specs.Measure.{measure, meets}
use Rattle.half_content.specs.declared.Set.{Set}
use Rattle.half_content.specs.Content.{fill, no_set}
use Rattle.half_seal.specs.Claims.{half_taken, half_number, half_opened}
use Rattle.half_seal.specs.Half.{set_number, opened_set}
use Rattle.call_dealer.specs.declared.Dealer.{Dealer}
use Rattle.call_dealer.specs.Dealer as DealerCalls
use Rattle.half_deal.specs.Dealing.{Deal}
use Rattle.call_dealer.specs.Dealer.{half_size}
use Rattle.call_party.specs.declared.Party.{Party}
use Rattle.call_party.specs.declared.PartyAnswer.{PartyAnswer}
use Rattle.call_party.specs.Party as BoxCalls
use Rattle.call_party.specs.Laws.{water_of}
use Rattle.call_lock.specs.declared.Lock.{Lock}
use Rattle.call_lock.specs.Lock as LockCalls
use Rattle.door_lists.specs.Lists.{Box, camera, office, party_of, other, Starts, Message, Call, deal, load, mask}
use Rattle.door_lists.specs.Lists.{trial, take, finish, drop, join, Event, dealt, loaded, tried, sent, dropped}
use Rattle.door_lists.specs.Lists.{joined, vector, word, answer, written, masked_by, deal_by_clock}
use Rattle.door_lists.specs.Demand.{verdict, Labelled, InRange}
use Rattle.door_lists.proofs.Accepted.{Heard}
use Rattle.door_lists.proofs.Goes.{OpenAt, Behind, deal_goes, load_goes, mask_goes, take_goes, finish_goes}
use Rattle.door_lists.proofs.Goes.{drop_goes, join_goes}
use Rattle.door_lists.proofs.Dealt.{set_of, set_number_lem, set_terms, set_n, set_proper, Sound, mask_of, own_of}
use Rattle.door_lists.proofs.Dealt.{mask_long, word_by, answer_by, answers_join}
use Rattle.door_lists.proofs.History.{door, half_of}
use Rattle.door_lists.proofs.Slots.{Slot, fresh, masked, worded, set_in}
use Rattle.door_lists.proofs.Written.{new, masked_is}
use Rattle.door_lists.proofs.Invariant.{phase_of, first_in, Fresh, Long, showing, closing, loads, dealer_with}
use Rattle.door_lists.proofs.Invariant.{lock_with, dealt_by, wrote}
use Rattle.door_lists.proofs.Once.{All}
use Rattle.door_lists.proofs.Boxes.{party_fits, other_party}

bit_le : (b : Bool) → cond b 1 0 ≤ 1
bit_le true = omega arith
bit_le false = omega arith

module _ (S : Starts) (d : Deal) (v : Box → List ℕ) where
  -- what each of the run's own calls leaves in the list
  abbrev pub said : Call → Event
  said (deal e out0 out1) = dealt d (half_of S d)
  said (deal_by_clock k out0 out1) = dealt d (half_of S d)
  said (load b x) = loaded b d.number
  said (trial b x) = tried b (door S) d.terms
  said (mask b x out) = sent b d.number (vector (v b) (mask_of d b (v b)))
  said (take b m) = sent b d.number (word (word_by d v b))
  said (finish b m) = sent b d.number (answer (answer_by d v b))
  said (drop b) = dropped b
  said (join m n) = joined d.number (verdict d (v camera) (v office))

  -- a box's set after k of its calls
  abbrev pub slot_at : Box → ℕ → Slot
  slot_at b zero = fresh (set_of d b)
  slot_at b (suc zero) = masked (set_of d b) (fill (mask_of d b (v b))) (own_of d b (v b))
  slot_at b (suc (suc k)) = worded (set_of d b) (fill (mask_of d b (v b))) (own_of d b (v b)) (word_by d v b)

  -- the run's sets at a box after k of its calls: none before its load and after its last call
  abbrev pub slots_at : Box → ℕ → List Slot
  slots_at b zero = []
  slots_at b (suc zero) = slot_at b 0 ∷ []
  slots_at b (suc (suc zero)) = slot_at b 1 ∷ []
  slots_at b (suc (suc (suc zero))) = slot_at b 2 ∷ []
  slots_at b (suc (suc (suc (suc k)))) = []

  -- the box with it, where `ts` waits behind it
  abbrev pub shown : Box → ℕ → ℕ → List Slot → Party
  shown b k last ts = showing S b last (slot_at b k ∷ ts)

  module _ (long : length (door S) ≡ 16) (R : InRange d v) where
    pub sound : Sound d
    sound = record {
      number_fits = R.number_fits;
      code_fits = R.code_fits;
      length_fits_lem = R.length_fits_lem;
      rule_fits_lem = R.rule_fits_lem;
      in_order_lem = R.in_order_lem;
    }

    -- ---- each call, at the state that the run gives it

    pub open_at : (b : Box) (t : Slot) (last : ℕ) (ts : List Slot) → Behind d.number (first_in ts)
        → (k : ℕ) → 1 ≤ k → k ≤ 3 → phase_of t ≡ k → set_in t ≡ set_of d b
        → OpenAt k (showing S b last (t ∷ ts))
    open_at b t last ts W k some most p s =
        record {
          phase_is = p;
          some_phase = some;
          last_phase = most;
          party_fits = party_fits b;
          code_fits = rw (s, set_terms d b) R.code_fits;
          length_fits_lem = rw (s, set_terms d b) R.length_fits_lem;
          waiting_fits_lem = rw (s, set_number_lem d b) (W k some);
        }

    hears : {A : Type 0} (kind : ℕ) (b c : Box) (n : ℕ) (m : Message A)
        → party_of c ≡ n → Labelled (door S) kind c d.number m
        → Heard kind n (set_of d b).number (door S) m.label m.name
    hears kind b c n m e a =
        record {
          kind_is = ap (λ l. l.kind) a.0;
          sender_is = ap (λ l. l.sender) a.0 ∙ e;
          number_is = ap (λ l. l.number) a.0 ∙ sym (set_number_lem d b);
          name_is = a.1;
        }

    -- a box's call that is made: it is not refused, the box then stands so, and it leaves this event
    abbrev pub Made : PartyAnswer → Event → Party → Event → Type 0
    Made a e s g = (a.why ≡ 0) × (a.party ≡ s) × (e ≡ g)

    -- behind `ts`, of which none waits and all is sound
    pub load_made : (b : Box) (last : ℕ) (ts : List Slot) → length ts ≤ 1 → BoxCalls.sound (showing S b last ts) ≡ true
        → water_of (showing S b last ts) < d.number → (x : List ℕ) → x ≡ half_of S d b
        → Made (BoxCalls.load (showing S b last ts) x) (loaded b (set_number x))
        (showing S b d.number (ts ++ (slot_at b 0 ∷ []))) (said (load b x))
    unfolding BoxCalls.load no_set
    load_made b last ts few fits l x q =
        let s : Set = set_of d b in
        let k = set_proper d b sound in
        let above : water_of (showing S b last ts) < s.number = rw (set_number_lem d b) l in
        let z = load_goes (showing S b last ts) x (none_waits last ts few) fits
        (rw q (half_taken (S.key b) (door S) (party_of b) long s k (water_of (showing S b last ts)) above)) in
        let o : opened_set (S.key b) x ≡ s =
        ap (opened_set (S.key b)) q ∙ half_opened (S.key b) (door S) (party_of b) long s k in
        let n : set_number x ≡ d.number =
        ap set_number q ∙ half_number (S.key b) (door S) (party_of b) long s k ∙ set_number_lem d b in (
          z,
          new _ _ _ z ∙ ap (BoxCalls.loaded (showing S b last ts)) o ∙ loads S b last s ts few
              ∙ ap (λ l. showing S b l (ts ++ (fresh s ∷ []))) (set_number_lem d b),
          ap (loaded b) n,
        )
      where
        none_waits : (l : ℕ) (us : List Slot) → length us ≤ 1 → (showing S b l us).waiting.terms.n ≡ 0
        none_waits l [] f = refl
        none_waits l (t ∷ []) f = refl
        none_waits l (t ∷ u ∷ us) f = absurd (omega (arith, f))

    -- with `ts` behind its set
    module _ (b : Box) (last : ℕ) (ts : List Slot) (W : Behind d.number (first_in ts)) where
      pub mask_made : (x out : List ℕ) → x ≡ v b → d.terms.n ≤ length out
          → (let z : Party = shown b 0 last ts in
          Made (BoxCalls.mask z x (length out))
          (sent b z.check.set.number (vector x (masked_by z x out))) (shown b 1 last ts) (said (mask b x out)))
      unfolding BoxCalls.mask BoxCalls.masked
      mask_made x out q room =
          let z : Party = shown b 0 last ts in
          let o = open_at b (slot_at b 0) last ts W 1 (omega arith) (omega arith) refl refl in
          let k = mask_goes z x (length out) o (rw (q, set_n d b) (R.vector_long b))
          (rw (set_n d b) room) (rw (q, set_terms d b) (R.elements_fit b)) in (
            k,
            new _ _ _ k ∙ ap (BoxCalls.masked z) q,
            ap₂ (λ n m. sent b n (vector x m)) (set_number_lem d b) (masked_is z x out k)
                ∙ ap (λ y. sent b d.number (vector y (mask_of d b y))) q,
          )

      pub take_made : (m : Message (List ℕ)) → Labelled (door S) 0 (other b) d.number m
          → m.content ≡ mask_of d (other b) (v (other b))
          → (let z : Party = shown b 1 last ts in
          let a : PartyAnswer = BoxCalls.take_vector z m.label m.name m.content in
          Made a (sent b z.check.set.number (word a.word)) (shown b 2 last ts) (said (take b m)))
      unfolding BoxCalls.take_vector BoxCalls.worded
      take_made m a q =
          let z : Party = shown b 1 last ts in
          let n : length m.content ≡ (set_of d b).terms.n = ap length q
          ∙ mask_long (set_of d (other b)) (party_of (other b)) (v (other b)) ∙ set_n d (other b) ∙ sym (set_n d b) in
          let o = open_at b (slot_at b 1) last ts W 2 (omega arith) (omega arith) refl refl in
          let k = take_goes z m.label m.name m.content o long n
          (hears 0 b (other b) _ m (sym (other_party b)) a) in
          let u = ap (BoxCalls.word_of (set_of d b) (party_of b) (fill (mask_of d b (v b))) (own_of d b (v b))) q in (
            k,
            new _ _ _ k ∙ ap (BoxCalls.worded z) u,
            ap₂ (λ n w. sent b n (word w)) (set_number_lem d b) (new _ _ _ k ∙ u),
          )

      -- call 4 and drop leave what was behind
      module _ (few : length ts ≤ 1) (fr : All Fresh ts) (all_long : All Long ts) where
        closes_to : (k : ℕ) → BoxCalls.closed (shown b k last ts) ≡ showing S b last ts
        closes_to k = closing S b last (slot_at b k) ts (omega (arith, few)) fr all_long

        pub finish_made : (m : Message ℕ)
            → Labelled (door S) 1 (other b) d.number m → m.content ≡ word_by d v (other b)
            → (let z : Party = shown b 2 last ts in
            let a : PartyAnswer = BoxCalls.finish z m.label m.name m.content in
            Made a (sent b z.check.set.number (answer a.word)) (showing S b last ts) (said (finish b m)))
        unfolding BoxCalls.finish
        finish_made m a q =
            let z : Party = shown b 2 last ts in
            let o = open_at b (slot_at b 2) last ts W 3 (omega arith) (omega arith) refl refl in
            let k = finish_goes z m.label m.name o long (hears 1 b (other b) _ m (sym (other_party b)) a) in
            let u = ap (BoxCalls.answer_of (set_of d b) (party_of b) (word_by d v b)) q in (
              k,
              new _ _ _ k ∙ closes_to 2,
              ap₂ (λ n w. sent b n (answer w)) (set_number_lem d b) (new _ _ _ k ∙ u),
            )

        pub drop_made : (k : ℕ) → k ≤ 2
            → Made (BoxCalls.drop_set (shown b k last ts)) (dropped b) (showing S b last ts) (dropped b)
        unfolding BoxCalls.drop_set
        drop_made k most =
            let z = drop_goes _ _ (opened k most) in (z, new _ _ _ z ∙ closes_to k, refl)
          where
            opened : (j : ℕ) → j ≤ 2 → OpenAt (suc j) (shown b j last ts)
            opened zero m = open_at b (slot_at b 0) last ts W 1 (omega arith) (omega arith) refl refl
            opened (suc zero) m = open_at b (slot_at b 1) last ts W 2 (omega arith) (omega arith) refl refl
            opened (suc (suc zero)) m = open_at b (slot_at b 2) last ts W 3 (omega arith) (omega arith) refl refl
            opened (suc (suc (suc j))) m = absurd (omega (arith, m))

    -- the same of the dealer and of the lock
    pub deal_made : (s : Dealer) (last : ℕ) → s ≡ dealer_with S last → last < d.number
        → (out0 out1 : List ℕ) → half_size d.terms.n ≤ length out0 → half_size d.terms.n ≤ length out1
        → (let a = DealerCalls.deal s d (length out0) (length out1) in
        (a.why ≡ 0) × (a.dealer ≡ dealer_with S d.number)
        × (dealt d (written s d out0 out1) ≡ dealt d (half_of S d)))
    unfolding DealerCalls.deal
    deal_made s last e l out0 out1 r0 r1 =
        let k = deal_goes s d (length out0) (length out1) R.code_fits
        R.seed_long R.length_fits_lem r0 r1 (rw e l) R.rule_fits_lem R.in_order_lem in
        (k, new _ _ _ k ∙ ap (dealt_by S d) e, ap (dealt d) (fun_ext (wrote S long s last e d sound out0 out1 k)))

    pub join_made : (s : Lock) (last : ℕ) → s ≡ lock_with S last → last < d.number
        → (m n : Message ℕ) → Labelled (door S) 2 camera d.number m
        → Labelled (door S) 2 office d.number n → m.content ≡ answer_by d v camera → n.content ≡ answer_by d v office
        → (let a = LockCalls.join s m.label m.name m.content n.label n.name n.content in
        (a.why ≡ 0) × (a.lock ≡ lock_with S d.number) × (joined m.label.number a.bit ≡ said (join m n)))
    unfolding LockCalls.join
    join_made s last e l m n a b p q =
        let number : m.label.number ≡ d.number = ap (λ z. z.number) a.0 in
        let name : s.name ≡ door S = ap (λ z. z.name) e in
        let sum : add m.content n.content ≡ verdict d (v camera) (v office) =
        ap₂ add p q ∙ answers_join d v sound R.elements_fit in
        let at : (c : Box) (i : Message ℕ) → Labelled (door S) 2 c d.number i
        → Heard 2 (party_of c) m.label.number s.name i.label i.name = λ c i y. record {
          kind_is = ap (λ z. z.kind) y.0;
          sender_is = ap (λ z. z.sender) y.0;
          number_is = ap (λ z. z.number) y.0 ∙ sym number;
          name_is = y.1 ∙ sym name;
        } in
        let bit : add m.content n.content ≤ 1 =
        rw sum (bit_le (meets d.terms d.rule (measure d.terms (v camera) (v office)))) in
        let k = join_goes s m.label m.name m.content n.label n.name
        n.content (rw name long) (at camera m a) (at office n b) (rw (e, number) l) bit in
        (k, new _ _ _ k ∙ ap₂ (λ x y. record { name = x; last = y }) name number, ap₂ joined number (new _ _ _ k ∙ sum))
