-- An accepted call of a box keeps what the invariant says of it, and what it leaves in the list is right.
-- Assumes nothing.
use mathlib.Core.Path.{◌≡◌, refl, sym, subst, ap, ap₂, ◌∙◌}
use mathlib.Core.Bool.{true}
use mathlib.Core.List.{List, [], ◌∷◌, ◌++◌}
use Prim.Native.Nat.{ℕ, ◌*◌, ◌-◌, ◌/◌, ◌<◌, ◌≤◌}
use native.Mathlib.Omega.{arith}
use lib.ListN.{length, length-append}
use Rattle.measure_table.specs.Measure.{all_in_range}
use Rattle.half_content.specs.declared.Set.{Set}
use Rattle.half_content.specs.Content.{block_count, fill, Proper}
use Rattle.half_seal.specs.Claims.{length_half, half_number, half_opened, Wrote, only_whole}
use Rattle.half_seal.specs.Half.{block_at, set_number, opened_set}
use Rattle.half_deal.specs.Dealing.{Deal}
use Rattle.call_party.specs.declared.Party.{Party}
use Rattle.call_party.specs.Party as BoxCalls
use Rattle.call_party.specs.Party.{idle, why_not_load, why_not_mask, why_not_take, why_not_finish, why_not_drop}
use Rattle.call_party.specs.Party.{masked_vector}
use Rattle.call_party.specs.Laws.{water_of, load_tells}
use Rattle.door_lists.specs.Lists.{Box, camera, office, party_of, other, World, Starts, Message}
use Rattle.door_lists.specs.Lists.{Event, dealt, loaded, sent, dropped, vector, word, answer, masked_by, In}
use Rattle.door_lists.specs.Lists.{Written, Sent, SentVector, SentWord}
use Rattle.door_lists.proofs.Accepted.{Heard, mask_tells, take_tells, finish_tells}
use Rattle.door_lists.proofs.Accepted.{drop_tells}
use Rattle.door_lists.proofs.Dealt.{set_of, set_number_lem, set_terms, set_proper, Sound, mask_of, own_of, word_by}
use Rattle.door_lists.proofs.History.{door, half_of, EventOk, Dealt, Vector, look}
use Rattle.door_lists.proofs.Slots.{SlotOk}
use Rattle.door_lists.proofs.Slots.{Slot, fresh, masked, worded, Word, Slots, slots_away, slots_load, slots_mask}
use Rattle.door_lists.proofs.Slots.{slots_take, slots_close, slots_drop}
use Rattle.door_lists.proofs.Written.{new, masked_is}
use Rattle.door_lists.proofs.Invariant.{FreshBehind, Long, fitting_long, slots_fit, not_both, closing, loads}
use Rattle.door_lists.proofs.Invariant.{behind_next, behind_load, showing, last_at, BoxIs, Inv, one_deal}
use Rattle.door_lists.proofs.Invariant.{one_pair}
use Rattle.door_lists.proofs.Once.{All}
use Rattle.door_lists.proofs.Boxes.{other_party, party_of_lem}
use Rattle.door_lists.proofs.Parts.{Away, last_away, Own, own_load, own_sent, own_drop, last_loaded_lem}

-- a vector for box b and one for the other
two : Box → List ℕ → List ℕ → Box → List ℕ
two camera x y camera = x
two camera x y office = y
two office x y camera = y
two office x y office = x

two_sent : (h : List Event) (n : ℕ) (b : Box) (x y : List ℕ) → Vector h b n x → Vector h (other b) n y → (c : Box)
    → Vector h c n (two b x y c)
unfolding two
two_sent h n camera x y i j camera = i
two_sent h n camera x y i j office = j
two_sent h n office x y i j camera = j
two_sent h n office x y i j office = i

two_word : (d : Deal) (b : Box) (x y : List ℕ)
    → BoxCalls.word_of (set_of d b) (party_of b) (fill (mask_of d b x)) (own_of d b x) (mask_of d (other b) y)
    ≡ word_by d (two b x y) b
unfolding two
two_word d camera x y = refl
two_word d office x y = refl

module _ (S : Starts) where
  -- a message that a call hears under the door's name was sent by the box that it names
  pub told : {A : Type 0} (P : Box → ℕ → A → Type 0) (kind : ℕ) (b : Box) (n : ℕ) (m : Message A)
      → Sent (door S) kind P m
      → Heard kind (party_of b) n (door S) m.label m.name → P b n m.content
  told P kind b n m a g =
      let r = a g.kind_is g.name_is in
      subst (λ c. P c n m.content) (party_of_lem r.0 b (sym r.1 ∙ g.sender_is))
      (subst (λ j. P r.0 j m.content) g.number_is r.2)

  pub box_away : (h : List Event) (e : Event) (b : Box) (s : Party) → Away b e → BoxIs S h b s → BoxIs S (e ∷ h) b s
  box_away h e b s a k =
      let l = sym (last_away a h (S.box_floor b)) in
      record {
        slots = k.slots;
        few = k.few;
        behind = k.behind;
        shows = k.shows ∙ ap (λ z. showing S b z k.slots) l;
        ok = subst (λ z. Slots (e ∷ h) b z k.slots) l (slots_away h e b (last_at S b h) k.slots a k.ok);
      }

  -- an accepted call of box b: its event, and the box after it
  abbrev pub Stepped : List Event → Box → Party → Event → Type 0
  Stepped h b s e = Own b e × EventOk S h e × BoxIs S (e ∷ h) b s

  module _ (h : List Event) (w : World) (I : Inv S h w) where
    -- a box's state is what its sets show
    pub at_box : (b : Box) (P : Party → Type 0)
        → ((ts : List Slot) → length ts ≤ 2 → FreshBehind ts → Slots h b (last_at S b h) ts
        → P (showing S b (last_at S b h) ts))
        → P (w.box b)
    at_box b P f = let k = I.box_is b in subst P (sym k.shows) (f k.slots k.few k.behind k.ok)

    heard_by : {A : Type 0} (kind : ℕ) (b : Box) (n : ℕ) (m : Message A)
        → Heard kind (1 - party_of b) n (door S) m.label m.name
        → Heard kind (party_of (other b)) n (door S) m.label m.name
    heard_by kind b n m g = rw (other_party b) at g

    -- ---- call 2

    abbrev pub Masking : Box → List ℕ → List ℕ → Party → Type 0
    Masking b v out z =
        why_not_mask z v (length out) ≡ 0
        → Stepped h b (BoxCalls.masked z v) (sent b z.check.set.number (vector v (masked_by z v out)))

    pub masking : (b : Box) (v out : List ℕ)
        → (ts : List Slot) → length ts ≤ 2 → FreshBehind ts → Slots h b (last_at S b h) ts
        → Masking b v out (showing S b (last_at S b h) ts)
    unfolding idle BoxCalls.no_check BoxCalls.masked
    masking b v out [] few fr k e = absurd (omega (arith, (mask_tells _ v _ e).turn))
    masking b v out (masked s m o ∷ ts) few fr k e = absurd (omega (arith, (mask_tells _ v _ e).turn))
    masking b v out (worded s m o u ∷ ts) few fr k e = absurd (omega (arith, (mask_tells _ v _ e).turn))
    masking b v out (fresh s ∷ ts) few fr k e =
        let z : Party = showing S b (last_at S b h) (fresh s ∷ ts) in
        let t = k.holds.0.0 in
        let f = k.holds.0.1 in
        let r : all_in_range t.d.terms v ≡ true =
        subst (λ c. all_in_range c v ≡ true) (ap (λ y. y.terms) f ∙ set_terms t.d b)
        (mask_tells z v _ e).in_range_lem in
        subst (λ m. Stepped h b (BoxCalls.masked z v) (sent b s.number (vector v m))) (sym (masked_is z v out e)) (
          own_sent _ _,
          (t, r, ap (λ y. masked_vector y (party_of b) v) f),
          record { slots = _; few = few; behind = fr; shows = refl; ok = slots_mask h b (last_at S b h) s ts k v },
        )

    -- ---- call 3

    abbrev pub Taking : Box → Message (List ℕ) → Party → Type 0
    Taking b m z =
        why_not_take z m.label m.name m.content ≡ 0
        → Stepped h b (BoxCalls.worded z
        (BoxCalls.word_of z.check.set z.who.party z.check.masked z.check.own m.content))
        (sent b z.check.set.number (word (BoxCalls.take_vector z m.label m.name m.content).word))

    right_word : (b : Box) (s : Set) (a : List ℕ) (o : ℕ) (ts : List Slot) (c : List ℕ)
        → Slots h b (last_at S b h) (masked s a o ∷ ts) → SentVector h (other b) s.number c
        → Word h b s (BoxCalls.word_of s (party_of b) a o c)
    right_word b s a o ts c k i =
        let t = k.holds.0.0 in
        let x = k.holds.0.2 in
        let r = look S h (sent (other b) s.number (vector i.0 c)) I.good i.1 in
        let e = one_deal S h w I s.number r.0 t in
        let q : c ≡ mask_of t.d (other b) i.0 = r.2 ∙ ap (λ d. mask_of d (other b) i.0) e in (
          t,
          k.holds.0.1,
          two b x i.0,
          two_sent h s.number b x i.0 k.holds.0.3 (c, i.1),
          (λ j. BoxCalls.word_of (k.holds.0.1 j) (party_of b) (k.holds.0.4 j) (k.holds.0.5 j) (q j))
              ∙ two_word t.d b x i.0,
        )

    pub taking : (b : Box) (m : Message (List ℕ)) → Sent (door S) 0 (SentVector h) m
        → (ts : List Slot) → length ts ≤ 2 → FreshBehind ts → Slots h b (last_at S b h) ts
        → Taking b m (showing S b (last_at S b h) ts)
    unfolding idle BoxCalls.no_check BoxCalls.worded BoxCalls.take_vector
    taking b m ad [] few fr k e = absurd (omega (arith, (take_tells _ _ _ _ e).turn))
    taking b m ad (fresh s ∷ ts) few fr k e = absurd (omega (arith, (take_tells _ _ _ _ e).turn))
    taking b m ad (worded s a o u ∷ ts) few fr k e = absurd (omega (arith, (take_tells _ _ _ _ e).turn))
    taking b m ad (masked s a o ∷ ts) few fr k e =
        let z : Party = showing S b (last_at S b h) (masked s a o ∷ ts) in
        let g = right_word b s a o ts m.content k
        (told (SentVector h) 0 (other b) s.number m ad (heard_by 0 b s.number m (take_tells z _ _ _ e).hears)) in
        let u : ℕ = BoxCalls.word_of s (party_of b) a o m.content in
        subst (λ y. Stepped h b (BoxCalls.worded z u) (sent b s.number (word y))) (sym (new _ _ _ e)) (
          own_sent _ _,
          (record { of = g.0; v = g.2; sents = g.3 }, g.4),
          record {
            slots = _;
            few = few;
            behind = fr;
            shows = refl;
            ok = slots_take h b (last_at S b h) s a o ts k u g;
          },
        )

    -- ---- call 4 and drop

    -- what waits behind the open set has elements
    slots_long : (b : Box) (ts : List Slot) → All (SlotOk h b) ts → All Long ts
    slots_long b ts k = fitting_long ts (slots_fit S h I.good b ts k)

    abbrev pub Finishing : Box → Message ℕ → Party → Type 0
    Finishing b m z =
        why_not_finish z m.label m.name ≡ 0
        → Stepped h b (BoxCalls.closed z)
        (sent b z.check.set.number (answer (BoxCalls.finish z m.label m.name m.content).word))

    right_answer : (b : Box) (s : Set) (u c : ℕ) → Word h b s u → SentWord h (other b) s.number c
        → EventOk S h (sent b s.number (answer (BoxCalls.answer_of s (party_of b) u c)))
    right_answer b s u c g i =
        let r = look S h (sent (other b) s.number (word c)) I.good i in
        let t = g.0 in
        let v = g.2 in
        let ed = one_deal S h w I s.number r.0.of t in
        let ev = one_pair S h w I s.number r.0.v v r.0.sents g.3 in
        let q : c ≡ word_by t.d v (other b) = r.1 ∙ ap₂ (λ d v. word_by d v (other b)) ed ev in (
          record { of = t; v = v; sents = g.3 },
          ap₂ (BoxCalls.answer_of s (party_of b)) g.4 q
              ∙ ap (λ y. BoxCalls.answer_of y (party_of b) (word_by t.d v b) (word_by t.d v (other b))) g.1,
        )

    pub finishing : (b : Box) (m : Message ℕ) → Sent (door S) 1 (SentWord h) m
        → (ts : List Slot) → length ts ≤ 2 → FreshBehind ts → Slots h b (last_at S b h) ts
        → Finishing b m (showing S b (last_at S b h) ts)
    unfolding idle BoxCalls.no_check BoxCalls.finish
    finishing b m ad [] few fr k e = absurd (omega (arith, (finish_tells _ _ _ e).turn))
    finishing b m ad (fresh s ∷ ts) few fr k e = absurd (omega (arith, (finish_tells _ _ _ e).turn))
    finishing b m ad (masked s a o ∷ ts) few fr k e = absurd (omega (arith, (finish_tells _ _ _ e).turn))
    finishing b m ad (worded s a o u ∷ ts) few fr k e =
        let z : Party = showing S b (last_at S b h) (worded s a o u ∷ ts) in
        let y : ℕ = BoxCalls.answer_of s (party_of b) u m.content in
        let g = right_answer b s u m.content k.holds.0
        (told (SentWord h) 1 (other b) s.number m ad (heard_by 1 b s.number m (finish_tells z _ _ e).hears)) in
        subst (λ x. Stepped h b (BoxCalls.closed z) (sent b s.number (answer x))) (sym (new _ _ _ e)) (
          own_sent _ _,
          g,
          record {
            slots = ts;
            few = omega (arith, few);
            behind = behind_next ts fr;
            shows = closing S b (last_at S b h) (worded s a o u) ts few fr (slots_long b ts k.holds.1);
            ok = slots_close h b (last_at S b h) (worded s a o u) ts k s.number y;
          },
        )

    abbrev pub Dropping : Box → Party → Type 0
    Dropping b z = why_not_drop z ≡ 0 → Stepped h b (BoxCalls.closed z) (dropped b)

    pub dropping : (b : Box) (ts : List Slot) → length ts ≤ 2 → FreshBehind ts → Slots h b (last_at S b h) ts
        → Dropping b (showing S b (last_at S b h) ts)
    unfolding idle BoxCalls.no_check
    dropping b [] few fr k e = absurd (drop_tells _ e refl)
    dropping b (t ∷ ts) few fr k e = (
      own_drop,
      tt,
      record {
        slots = ts;
        few = omega (arith, few);
        behind = behind_next ts fr;
        shows = closing S b (last_at S b h) t ts few fr (slots_long b ts k.holds.1);
        ok = slots_drop h b (last_at S b h) t ts k;
      },
    )

    -- ---- load

    abbrev pub Loading : Box → List ℕ → Party → Type 0
    Loading b x z =
        why_not_load z x ≡ 0 → Stepped h b (BoxCalls.loaded z (opened_set z.who.key x)) (loaded b (set_number x))

    module _ (long : length (door S) ≡ 16) (b : Box) where
      -- the sets that were dealt to box b
      abbrev Mine : Set → Type 0
      Mine s = (d : Deal) × (f : Box → List ℕ) × In (dealt d f) h × (s ≡ set_of d b)

      sound : (d : Deal) (f : Box → List ℕ) → In (dealt d f) h → Sound d × (f b ≡ half_of S d b)
      sound d f i = let r = look S h (dealt d f) I.good i in (r.0, r.1 b)

      mine_proper : (s : Set) → Mine s → Proper s
      mine_proper s m = subst Proper (sym m.3) (set_proper m.0 b (sound m.0 m.1 m.2).0)

      abbrev mine_dealt : (s : Set) (n : ℕ) → Mine s → s.number ≡ n → Dealt h n
      mine_dealt s n m e =
          record { d = m.0; f = m.1; was = m.2; is = sym (ap (λ y. y.number) m.3 ∙ set_number_lem m.0 b) ∙ e }

      one_mine : (s t : Set) → Mine s → Mine t → s.number ≡ t.number → s ≡ t
      one_mine s t m n e =
          m.3
          ∙ ap (λ d. set_of d b)
          (one_deal S h w I t.number (mine_dealt s t.number m e) (mine_dealt t t.number n refl)) ∙ sym n.3

      mine_block : (x : List ℕ) → Written h b x → Wrote (S.key b) (door S) (party_of b) long Mine mine_proper one_mine x
      mine_block x (d, f, i, j, l, e) =
          let k = sound d f i in
          let size : length (f b) ≡ 512 * block_count (set_of d b).terms.n =
          ap length k.1 ∙ length_half (S.key b) (door S) (party_of b) long (set_of d b) (set_proper d b k.0) in
          record {
            set = set_of d b;
            dealt = (d, f, i, refl);
            place = j;
            among = omega arith;
            is = e ∙ ap (λ z. block_at z j) k.1;
          }

      last_own : (n : ℕ) → last_at S b (loaded b n ∷ h) ≡ n
      last_own n = last_loaded_lem b h (S.box_floor b) n

      pub loading : (x : List ℕ) → ((i : ℕ) → i < length x / 512 → Written h b (block_at x i))
          → (ts : List Slot) → length ts ≤ 2 → FreshBehind ts → Slots h b (last_at S b h) ts
          → Loading b x (showing S b (last_at S b h) ts)
      loading x ad ts two fr k e =
          let z : Party = showing S b (last_at S b h) ts in
          let tells = load_tells z x e in
          let few = not_both S b (last_at S b h) ts (slots_fit S h I.good b ts k.holds) tells.none_waits in
          let r = only_whole (S.key b) (door S) (party_of b) long Mine mine_proper one_mine
          (water_of z) x (λ i l. mine_block (block_at x i) (ad i l)) tells.examined in
          let s : Set = r.0 in
          let good : Proper s = mine_proper s r.1 in
          let n : set_number x ≡ s.number =
          ap set_number r.2 ∙ half_number (S.key b) (door S) (party_of b) long s good in
          let o : opened_set (S.key b) x ≡ s =
          ap (opened_set (S.key b)) r.2 ∙ half_opened (S.key b) (door S) (party_of b) long s good in
          let above : last_at S b h < s.number = subst (λ i. last_at S b h < i) n tells.above in
          let after : List Slot = ts ++ (fresh s ∷ []) in
          let ok : Slots (loaded b s.number ∷ h) b s.number after =
          slots_load h b (last_at S b h) ts k s above (mine_dealt s s.number r.1 refl) r.1.3 in
          let new : Stepped h b (BoxCalls.loaded z s) (loaded b s.number) = (
            own_load _,
            tt,
            record {
              slots = after;
              few = omega (arith, few, length-append ts (fresh s ∷ []));
              behind = behind_load s ts fr;
              shows = loads S b (last_at S b h) s ts few
                  ∙ ap (λ l. showing S b l after) (sym (last_own s.number));
              ok = subst (λ l. Slots (loaded b s.number ∷ h) b l after) (sym (last_own s.number)) ok;
            },
          ) in
          subst (λ y. Stepped h b (BoxCalls.loaded z y) (loaded b (set_number x))) (sym o)
          (subst (λ i. Stepped h b (BoxCalls.loaded z s) (loaded b i)) (sym n) new)
