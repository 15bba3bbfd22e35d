-- A box's sets as a list with rising numbers, each with how far it is, and what a box's events keep of it. How a state
-- shows this list is another file's matter. Assumes nothing.
use mathlib.Core.Path.{◌≡◌, refl, sym, ap, ◌∙◌}
use mathlib.Core.Bool.{cond}
use mathlib.Core.List.{List, [], ◌∷◌, ◌++◌, map}
use mathlib.Core.Logic.{◌⊎◌, inl, inr}
use Prim.Native.Nat.{ℕ, ◌≤◌, ◌<◌}
use native.Mathlib.Omega.{arith}
use lib.Dec.{eqb, eqb→eq}
use lib.ListN.{length, length-append}
use Rattle.measure_table.specs.Measure.{own_word}
use Rattle.half_content.specs.declared.Set.{Set}
use Rattle.half_content.specs.Content.{fill}
use Rattle.call_party.specs.Party.{masked_vector}
use Rattle.door_lists.specs.Lists.{Box, party_of, Event, Body, loaded, sent, dropped, vector, word, answer, here}
use Rattle.door_lists.specs.Lists.{there}
use Rattle.door_lists.specs.Demand.{vectors, sent_words, open_sets, held}
use Rattle.door_lists.proofs.Parts.{Away, vectors_away, words_away, open_away, held_away}
use Rattle.door_lists.proofs.Parts.{vectors_sent, words_sent, open_loaded, open_sent, open_dropped}
use Rattle.door_lists.proofs.Parts.{held_loaded, held_sent, held_dropped}
use Rattle.door_lists.proofs.Dealt.{set_of, mask_of, own_of, word_by}
use Rattle.door_lists.proofs.Once.{All, Once, once_map, once_cond, once_skip}
use Rattle.door_lists.proofs.History.{Dealt, Vector, dealt_later, sents_later}

-- a set after its load; with the masked vector's array and own; and with the word
pub data Slot : Type 0 where
  fresh : Set → Slot
  masked : Set → List ℕ → ℕ → Slot
  worded : Set → List ℕ → ℕ → ℕ → Slot

abbrev pub set_in : Slot → Set
set_in (fresh s) = s
set_in (masked s m o) = s
set_in (worded s m o w) = s

-- each was dealt, and holds what it should
abbrev pub Word : List Event → Box → Set → ℕ → Type 0
Word h b s w =
    (t : Dealt h s.number) × (s ≡ set_of t.d b) × (v : Box → List ℕ)
    × ((c : Box) → Vector h c s.number (v c)) × (w ≡ word_by t.d v b)

abbrev pub SlotOk : List Event → Box → Slot → Type 0
SlotOk h b (fresh s) = (t : Dealt h s.number) × (s ≡ set_of t.d b)
SlotOk h b (masked s m o) =
    (t : Dealt h s.number) × (s ≡ set_of t.d b) × (x : List ℕ)
    × Vector h b s.number x × (m ≡ fill (mask_of t.d b x)) × (o ≡ own_of t.d b x)
SlotOk h b (worded s m o w) = Word h b s w

-- their numbers rise, above lo and up to hi
abbrev pub Rising : ℕ → ℕ → List Slot → Type 0
Rising lo hi [] = lo ≤ hi
Rising lo hi (t ∷ ts) = (lo < (set_in t).number) × Rising (set_in t).number hi ts

abbrev pub Some : (Slot → Type 0) → List Slot → Type 0
Some P [] = ⊥
Some P (t ∷ ts) = P t ⊎ Some P ts

-- under n a masked vector, or a word, may still come
abbrev pub Unmasked : ℕ → Slot → Type 0
Unmasked n (fresh s) = s.number ≡ n
Unmasked n (masked s m o) = ⊥
Unmasked n (worded s m o w) = ⊥

abbrev pub Unworded : ℕ → Slot → Type 0
Unworded n (fresh s) = s.number ≡ n
Unworded n (masked s m o) = s.number ≡ n
Unworded n (worded s m o w) = ⊥

abbrev pub number_of : Slot → ℕ
number_of t = (set_in t).number

-- box b's sets after the events h, where its last number is `last`: their numbers, and what may still come under them
pub record Counted (h : List Event) (b : Box) (last : ℕ) (ts : List Slot) : Type 0 where
  pub low : ℕ
  pub rising : Rising low last ts
  pub count : length ts ≡ open_sets b h
  pub held_is : map number_of ts ≡ held b h
  pub vectors_once : (n : ℕ) → Once (vectors b n h) ((last < n) ⊎ Some (Unmasked n) ts)
  pub words_once : (n : ℕ) → Once (sent_words b n h) ((last < n) ⊎ Some (Unworded n) ts)

-- .. and what they hold
pub record Slots (h : List Event) (b : Box) (last : ℕ) (ts : List Slot) : Type 0 where
  pub holds : All (SlotOk h b) ts
  pub counted : Counted h b last ts

-- ---- an event that is not this box's

slot_later : (h : List Event) (e : Event) (b : Box) (t : Slot) → SlotOk h b t → SlotOk (e ∷ h) b t
slot_later h e b (fresh s) k = (dealt_later e k.0, k.1)
slot_later h e b (masked s m o) k = (dealt_later e k.0, k.1, k.2, (k.3.0, there k.3.1), k.4, k.5)
slot_later h e b (worded s m o w) k = (dealt_later e k.0, k.1, k.2, sents_later e k.3, k.4)

slots_later : (h : List Event) (e : Event) (b : Box) (ts : List Slot) → All (SlotOk h b) ts → All (SlotOk (e ∷ h) b) ts
slots_later h e b [] k = tt
slots_later h e b (t ∷ ts) k = (slot_later h e b t k.0, slots_later h e b ts k.1)

pub counted_away : (h : List Event) (e : Event) (b : Box) (last : ℕ) (ts : List Slot) → Away b e
    → Counted h b last ts → Counted (e ∷ h) b last ts
counted_away h e b last ts a k =
    record {
      low = k.low;
      rising = k.rising;
      count = rw (open_away a h) k.count;
      held_is = rw (held_away a h) k.held_is;
      vectors_once = λ n. rw (vectors_away a h n) (k.vectors_once n);
      words_once = λ n. rw (words_away a h n) (k.words_once n);
    }

pub slots_away : (h : List Event) (e : Event) (b : Box) (last : ℕ) (ts : List Slot) → Away b e → Slots h b last ts
    → Slots (e ∷ h) b last ts
slots_away h e b last ts a k =
    record { holds = slots_later h e b ts k.holds; counted = counted_away h e b last ts a k.counted }

-- ---- rising numbers

rising_le : (lo hi : ℕ) (ts : List Slot) → Rising lo hi ts → lo ≤ hi
rising_le lo hi [] r = r
rising_le lo hi (t ∷ ts) r = omega (arith, rising_le (set_in t).number hi ts r.1, r.0)

rising_some : (P : ℕ → Slot → Type 0) (f : (m : ℕ) (t : Slot) → P m t → (set_in t).number ≡ m)
    (m lo hi : ℕ) (ts : List Slot) → Rising lo hi ts → Some (P m) ts → lo < m
rising_some P f m lo hi [] r q = elim q [ ]
rising_some P f m lo hi (t ∷ ts) r (inl q) = omega (arith, f m t q, r.0)
rising_some P f m lo hi (t ∷ ts) r (inr q) = omega (arith, rising_some P f m (set_in t).number hi ts r.1 q, r.0)

unmasked_is : (m : ℕ) (t : Slot) → Unmasked m t → (set_in t).number ≡ m
unmasked_is m (fresh s) q = q
unmasked_is m (masked s x o) q = elim q [ ]
unmasked_is m (worded s x o w) q = elim q [ ]

unworded_is : (m : ℕ) (t : Slot) → Unworded m t → (set_in t).number ≡ m
unworded_is m (fresh s) q = q
unworded_is m (masked s x o) q = q
unworded_is m (worded s x o w) q = elim q [ ]

rising_load : (lo hi : ℕ) (s : Set) (ts : List Slot) → hi < s.number → Rising lo hi ts
    → Rising lo s.number (ts ++ (fresh s ∷ []))
rising_load lo hi s [] l r = (omega arith, omega arith)
rising_load lo hi s (t ∷ ts) l r = (r.0, rising_load (set_in t).number hi s ts l r.1)

some_load : (P : Slot → Type 0) (u : Slot) (ts : List Slot) → Some P (ts ++ (u ∷ [])) → Some P ts ⊎ P u
some_load P u [] (inl q) = inr q
some_load P u [] (inr q) = elim q [ ]
some_load P u (t ∷ ts) (inl q) = inl (inl q)
some_load P u (t ∷ ts) (inr q) =
    elim (some_load P u ts q) as (λ z. Some P (t ∷ ts) ⊎ P u) [ inl a ↦ inl (inr a) | inr a ↦ inr a ]

map_behind : (ts : List Slot) (s : Set) → map number_of (ts ++ (fresh s ∷ [])) ≡ map number_of ts ++ (s.number ∷ [])
map_behind [] s = refl
map_behind (t ∷ ts) s = ap (λ (l : List ℕ). number_of t ∷ l) (map_behind ts s)

pub all_load : (P : Slot → Type 0) (u : Slot) (ts : List Slot) → All P ts → P u → All P (ts ++ (u ∷ []))
all_load P u [] a q = (q, tt)
all_load P u (t ∷ ts) a q = (a.0, all_load P u ts a.1 q)

-- ---- this box's own events

module _ (h : List Event) (b : Box) (last : ℕ) where
  -- call 4 and drop end the first
  ended : {A B C : Type 0} → A ⊎ B → A ⊎ (C ⊎ B)
  ended (inl q) = inl q
  ended (inr q) = inr (inr q)

  pub counted_close : (t : Slot) (ts : List Slot) → Counted h b last (t ∷ ts) → (n a : ℕ)
      → Counted (sent b n (answer a) ∷ h) b last ts
  counted_close t ts k n a =
      record {
        low = (set_in t).number;
        rising = k.rising.1;
        count = omega (arith, open_sent b h n (answer a), k.count);
        held_is = rw (held_sent b h n (answer a), ← k.held_is) refl;
        vectors_once = λ m. rw (vectors_sent b h n (answer a) m) (once_skip _ (eqb n m) (k.vectors_once m) ended);
        words_once = λ m. rw (words_sent b h n (answer a) m) (once_skip _ (eqb n m) (k.words_once m) ended);
      }

  pub counted_drop : (t : Slot) (ts : List Slot) → Counted h b last (t ∷ ts) → Counted (dropped b ∷ h) b last ts
  counted_drop t ts k =
      record {
        low = (set_in t).number;
        rising = k.rising.1;
        count = omega (arith, open_dropped b h, k.count);
        held_is = rw (held_dropped b h, ← k.held_is) refl;
        vectors_once = λ m. once_map (k.vectors_once m) ended;
        words_once = λ m. once_map (k.words_once m) ended;
      }

  -- a load puts one behind the others
  pub counted_load : (ts : List Slot) → Counted h b last ts → (s : Set) → last < s.number
      → Counted (loaded b s.number ∷ h) b s.number (ts ++ (fresh s ∷ []))
  counted_load ts k s l =
      record {
        low = k.low;
        rising = rising_load k.low last s ts l k.rising;
        count = omega (arith, open_loaded b h s.number, k.count, length-append ts (fresh s ∷ []));
        held_is = map_behind ts s ∙ ap (λ (l : List ℕ). l ++ (s.number ∷ [])) k.held_is
            ∙ sym (held_loaded b h s.number);
        vectors_once = λ m. once_map (k.vectors_once m) (before m (Unmasked m) (λ q. q));
        words_once = λ m. once_map (k.words_once m) (before m (Unworded m) (λ q. q));
      }
    where
      before : (m : ℕ) (P : Slot → Type 0) → (P (fresh s) → s.number ≡ m)
          → (s.number < m) ⊎ Some P (ts ++ (fresh s ∷ [])) → (last < m) ⊎ Some P ts
      before m P f (inl q) = inl (omega arith)
      before m P f (inr q) =
          elim (some_load P (fresh s) ts q) as (λ z. (last < m) ⊎ Some P ts)
          [ inl a ↦ inr a | inr a ↦ inl (omega (arith, f a)) ]

  -- calls 2 and 3 act on the first: what they send was free under its number, and is not from then on
  send : {A : Type 0} (P : ℕ → Slot → Type 0) (f : (m : ℕ) (t : Slot) → P m t → (set_in t).number ≡ m)
      (n m : ℕ) (t u : Slot) (ts : List Slot) → Rising n last ts
      → (n ≡ m → P m t) → (P m u → ⊥) → (x : A) (l : List A) → Once l ((last < m) ⊎ Some (P m) (t ∷ ts))
      → Once (cond (eqb n m) (x ∷ []) [] ++ l) ((last < m) ⊎ Some (P m) (u ∷ ts))
  send P f n m t u ts r was not_now x l o =
      once_cond x l (eqb n m) o (λ p. inr (inl (was (eqb→eq n m p)))) (λ p q. never (eqb→eq n m p) q) rest
    where
      never : n ≡ m → (last < m) ⊎ Some (P m) (u ∷ ts) → ⊥
      never e (inl q) = omega (arith, rising_le n last ts r)
      never e (inr (inl q)) = not_now q
      never e (inr (inr q)) = omega (arith, rising_some P f m n last ts r q)

      rest : (last < m) ⊎ Some (P m) (u ∷ ts) → (last < m) ⊎ Some (P m) (t ∷ ts)
      rest (inl q) = inl q
      rest (inr (inl q)) = absurd (not_now q)
      rest (inr (inr q)) = inr (inr q)

  pub counted_mask : (s : Set) (ts : List Slot) → Counted h b last (fresh s ∷ ts) → (x y m : List ℕ) (o : ℕ)
      → Counted (sent b s.number (vector x y) ∷ h) b last (masked s m o ∷ ts)
  counted_mask s ts k x y m o =
      let n : ℕ = s.number in
      let sends : Body = vector x y in
      record {
        low = k.low;
        rising = k.rising;
        count = omega (arith, open_sent b h n sends, k.count);
        held_is = rw (held_sent b h n sends) k.held_is;
        vectors_once = λ i. rw (vectors_sent b h n sends i)
            (send Unmasked unmasked_is n i (fresh s) (masked s m o) ts
            k.rising.1 (λ p. p) (λ q. q) x _ (k.vectors_once i));
        words_once = λ i. rw (words_sent b h n sends i) (once_skip _ (eqb n i) (k.words_once i) (λ q. q));
      }

  pub counted_take : (s : Set) (m : List ℕ) (o : ℕ) (ts : List Slot) → Counted h b last (masked s m o ∷ ts) → (w u : ℕ)
      → Counted (sent b s.number (word u) ∷ h) b last (worded s m o w ∷ ts)
  counted_take s m o ts k w u =
      let n : ℕ = s.number in
      record {
        low = k.low;
        rising = k.rising;
        count = omega (arith, open_sent b h n (word u), k.count);
        held_is = rw (held_sent b h n (word u)) k.held_is;
        vectors_once = λ i. rw (vectors_sent b h n (word u) i) (once_skip _ (eqb n i) (k.vectors_once i) (λ q. q));
        words_once = λ i. rw (words_sent b h n (word u) i)
            (send Unworded unworded_is n i (masked s m o) (worded s m o w) ts
            k.rising.1 (λ p. p) (λ q. q) u _ (k.words_once i));
      }

  -- the same with what the sets hold

  pub slots_close : (t : Slot) (ts : List Slot) → Slots h b last (t ∷ ts) → (n a : ℕ)
      → Slots (sent b n (answer a) ∷ h) b last ts
  slots_close t ts k n a =
      record { holds = slots_later h _ b ts k.holds.1; counted = counted_close t ts k.counted n a }

  pub slots_drop : (t : Slot) (ts : List Slot) → Slots h b last (t ∷ ts) → Slots (dropped b ∷ h) b last ts
  slots_drop t ts k =
      record { holds = slots_later h _ b ts k.holds.1; counted = counted_drop t ts k.counted }

  pub slots_load : (ts : List Slot) → Slots h b last ts → (s : Set)
      → last < s.number → (t : Dealt h s.number) → s ≡ set_of t.d b
      → Slots (loaded b s.number ∷ h) b s.number (ts ++ (fresh s ∷ []))
  slots_load ts k s l t e =
      record {
        holds = all_load (SlotOk (loaded b s.number ∷ h) b) (fresh s) ts
            (slots_later h _ b ts k.holds) (dealt_later _ t, e);
        counted = counted_load ts k.counted s l;
      }

  pub slots_mask : (s : Set) (ts : List Slot) → Slots h b last (fresh s ∷ ts) → (x : List ℕ)
      → Slots (sent b s.number (vector x (masked_vector s (party_of b) x)) ∷ h) b last
      (masked s (fill (masked_vector s (party_of b) x)) (own_word s.terms x) ∷ ts)
  slots_mask s ts k x =
      let t = k.holds.0.0 in
      let e = k.holds.0.1 in
      record {
        holds = (
          (
            dealt_later _ t,
            e,
            x,
            (masked_vector s (party_of b) x, here refl),
            ap (λ z. fill (masked_vector z (party_of b) x)) e,
            ap (λ z. own_word z.terms x) e,
          ),
          slots_later h _ b ts k.holds.1,
        );
        counted = counted_mask s ts k.counted x _ _ _;
      }

  pub slots_take : (s : Set) (m : List ℕ) (o : ℕ) (ts : List Slot)
      → Slots h b last (masked s m o ∷ ts) → (w : ℕ) → Word h b s w
      → Slots (sent b s.number (word w) ∷ h) b last (worded s m o w ∷ ts)
  slots_take s m o ts k w g =
      record {
        holds = ((dealt_later _ g.0, g.1, g.2, sents_later _ g.3, g.4), slots_later h _ b ts k.holds.1);
        counted = counted_take s m o ts k.counted w w;
      }
