-- A list's events alone: each is right by those before it. Assumes nothing.
use mathlib.Core.Path.{◌≡◌, refl, sym, subst}
use mathlib.Core.Bool.{true}
use mathlib.Core.List.{List, [], ◌∷◌}
use Prim.Native.Nat.{ℕ}
use lib.Dec.{eqb, eqb_refl}
use Rattle.measure_table.specs.Measure.{all_in_range}
use Rattle.base_messages.specs.Messages.{padded}
use Rattle.half_seal.specs.Half.{half}
use Rattle.half_deal.specs.Dealing.{Deal}
use Rattle.door_lists.specs.Lists.{Box, camera, office, party_of, Starts, Event, dealt, loaded, tried, sent}
use Rattle.door_lists.specs.Lists.{dropped, joined, refused, vector, word, answer, In, here, there}
use Rattle.door_lists.specs.Demand.{deals_in, Sending, sends_by, collect}
use Rattle.door_lists.specs.Demand.{deal_of, sent_of, vector_of, deals, vectors, verdict}
use Rattle.door_lists.proofs.Boxes.{own_box}
use Rattle.door_lists.proofs.Dealt.{set_of, Sound, mask_of, word_by, answer_by}
use Rattle.door_lists.proofs.Once.{in_collect, in_cond}

-- a deal of n, and a box's vector under n
pub record Dealt (h : List Event) (n : ℕ) : Type 0 where
  pub d : Deal
  pub f : Box → List ℕ
  pub was : In (dealt d f) h
  pub is : d.number ≡ n

abbrev pub Vector : List Event → Box → ℕ → List ℕ → Type 0
Vector h b n x = (m : List ℕ) × In (sent b n (vector x m)) h

-- a deal of n, and both boxes' vectors under n
pub record Pair (h : List Event) (n : ℕ) : Type 0 where
  pub of : Dealt h n
  pub v : Box → List ℕ
  pub sents : (b : Box) → Vector h b n (v b)

abbrev pub dealt_later : {h : List Event} {n : ℕ} (e : Event) → Dealt h n → Dealt (e ∷ h) n
dealt_later e t = record { d = t.d; f = t.f; was = there t.was; is = t.is }

abbrev pub sents_later : {h : List Event} {n : ℕ} {v : Box → List ℕ} (e : Event)
    → ((b : Box) → Vector h b n (v b)) → (b : Box) → Vector (e ∷ h) b n (v b)
sents_later e s b = ((s b).0, there (s b).1)

abbrev pub pair_later : {h : List Event} {n : ℕ} (e : Event) → Pair h n → Pair (e ∷ h) n
pair_later e t = record { of = dealt_later e t.of; v = t.v; sents = sents_later e t.sents }

-- ---- what is right, at a door that started so

module _ (S : Starts) where
  abbrev pub door : List ℕ
  door = padded S.name

  abbrev pub half_of : Deal → Box → List ℕ
  half_of d b = half (S.key b) door (party_of b) (set_of d b)

  abbrev pub EventOk : List Event → Event → Type 0
  EventOk h (dealt d f) = Sound d × ((b : Box) → f b ≡ half_of d b)
  EventOk h (loaded b n) = Unit {0}
  EventOk h (tried b name t) = Unit {0}
  EventOk h (sent b n (vector x m)) = (t : Dealt h n) × (all_in_range t.d.terms x ≡ true) × (m ≡ mask_of t.d b x)
  EventOk h (sent b n (word w)) = (t : Pair h n) × (w ≡ word_by t.of.d t.v b)
  EventOk h (sent b n (answer a)) = (t : Pair h n) × (a ≡ answer_by t.of.d t.v b)
  EventOk h (dropped b) = Unit {0}
  EventOk h (joined n bit) = (t : Pair h n) × (bit ≡ verdict t.of.d (t.v camera) (t.v office))
  EventOk h (refused why) = Unit {0}

  abbrev pub Good : List Event → Type 0
  Good [] = Unit {0}
  Good (e ∷ h) = Good h × EventOk h e

  ok_later : (h : List Event) (e g : Event) → EventOk h g → EventOk (e ∷ h) g
  ok_later h e (dealt d f) r = r
  ok_later h e (loaded b n) r = r
  ok_later h e (tried b name t) r = r
  ok_later h e (sent b n (vector x m)) r = (dealt_later e r.0, r.1, r.2)
  ok_later h e (sent b n (word w)) r = (pair_later e r.0, r.1)
  ok_later h e (sent b n (answer a)) r = (pair_later e r.0, r.1)
  ok_later h e (dropped b) r = r
  ok_later h e (joined n bit) r = (pair_later e r.0, r.1)
  ok_later h e (refused why) r = r

  pub look : (h : List Event) (e : Event) → Good h → In e h → EventOk h e
  look [] e k i = elim i [ ]
  look (g ∷ h) e k (here p) = ok_later h g e (subst (EventOk h) (sym p) k.1)
  look (g ∷ h) e k (there i) = ok_later h g e (look h e k.0 i)

-- ---- among the deals of n, and among a box's vectors under n

pub in_deals : (h : List Event) (n : ℕ) (t : Dealt h n) → In t.d (deals n h)
in_deals h n t =
    let d = t.d in
    let among : In d (collect deals_in h) = in_collect deals_in (dealt d t.f) h (here refl) t.was in
    in_collect (deal_of n) d _ (in_cond (eqb d.number n) (d ∷ []) (rw t.is (eqb_refl n)) (here refl)) among

pub in_vectors : (h : List Event) (b : Box) (n : ℕ) (x : List ℕ) → Vector h b n x → In x (vectors b n h)
in_vectors h b n x t =
    let s : Sending = record { number = n; body = vector x t.0 } in
    let its_own : In s (sends_by b (sent b n s.body)) = rw (own_box b) (here refl) in
    let among : In s (collect (sends_by b) h) = in_collect (sends_by b) _ h its_own t.1 in
    in_collect (sent_of vector_of n) s _ (in_cond (eqb n n) (x ∷ []) (eqb_refl n) (here refl)) among
