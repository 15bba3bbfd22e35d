-- What the parts of a door are to compute from a deal and the two boxes' vectors, and that the two answers then sum to
-- the right bit. Assumes nothing.
use mathlib.Core.Path.{◌≡◌, refl, ap, ◌∙◌}
use mathlib.Core.Bool.{Bool, true, false, cond}
use mathlib.Core.List.{List}
use Prim.Native.Nat.{ℕ, ◌^◌, ◌%◌, ◌<◌}
use native.Mathlib.Omega.{arith}
use lib.ListN.{length}
use Rattle.base_algebra.specs.Word.{add}
use Rattle.base_algebra.specs.Bit.{only}
use Rattle.base_words.specs.List.{length_tab}
use Rattle.measure_table.specs.declared.Terms.{Terms}
use Rattle.measure_table.specs.Measure.{is_code, length_fits, all_in_range, rule_fits, in_order, own_word, carried}
use Rattle.share_vectors.specs.Share.{plus, share}
use Rattle.share_vectors.specs.Share as Share
use Rattle.half_content.specs.declared.Set.{Set}
use Rattle.half_content.specs.Content.{fill, Proper}
use Rattle.half_deal.specs.Dealing.{Deal, dealt_set, set_from}
use Rattle.half_deal.specs.Laws.{share_fill_x, share_fill_y}
use Rattle.half_deal.proofs.DealtSet.{proper, dealt_join}
use Rattle.call_party.specs.Party.{masked_vector, box_share, word_of, answer_of}
use Rattle.door_lists.specs.Lists.{Box, camera, office, party_of, other}
use Rattle.door_lists.specs.Demand.{verdict}
use Rattle.door_lists.proofs.Boxes.{party_fits}

-- the set that a box gets
abbrev pub set_of : Deal → Box → Set
set_of d b = dealt_set d (party_of b)

pub set_number_lem : (d : Deal) (b : Box) → (set_of d b).number ≡ d.number
unfolding dealt_set set_from
set_number_lem d b = refl

pub set_terms : (d : Deal) (b : Box) → (set_of d b).terms ≡ d.terms
unfolding dealt_set set_from
set_terms d b = refl

pub set_n : (d : Deal) (b : Box) → (set_of d b).terms.n ≡ d.terms.n
set_n d b = ap (λ (t : Terms). t.n) (set_terms d b)

-- what an accepted deal is known by, apart from its number's order
pub record Sound (d : Deal) : Type 0 where
  pub number_fits : d.number < 2 ^ 64
  pub code_fits : is_code d.terms.code ≡ true
  pub length_fits_lem : length_fits d.terms ≡ true
  pub rule_fits_lem : rule_fits d.terms d.rule ≡ true
  pub in_order_lem : in_order d.rule ≡ true

pub set_proper : (d : Deal) (b : Box) → Sound d → Proper (set_of d b)
set_proper d b k = proper d (party_of b) k.number_fits k.code_fits k.length_fits_lem k.in_order_lem (party_fits b)

-- a box's masked vector and own
abbrev pub mask_of : Deal → Box → List ℕ → List ℕ
mask_of d b x = masked_vector (set_of d b) (party_of b) x

abbrev pub own_of : Deal → Box → List ℕ → ℕ
own_of d b x = own_word (set_of d b).terms x

pub mask_long : (s : Set) (party : ℕ) (x : List ℕ) → length (masked_vector s party x) ≡ s.terms.n
unfolding masked_vector plus
mask_long s party x = length_tab _ s.terms.n

-- a box's word and answer
abbrev pub word_by : Deal → (Box → List ℕ) → Box → ℕ
word_by d v b =
    word_of (set_of d b) (party_of b) (fill (mask_of d b (v b))) (own_of d b (v b)) (mask_of d (other b) (v (other b)))

abbrev pub answer_by : Deal → (Box → List ℕ) → Box → ℕ
answer_by d v b = answer_of (set_of d b) (party_of b) (word_by d v b) (word_by d v (other b))

-- ---- the two answers' sum

module _ (d : Deal) (v : Box → List ℕ) where
  abbrev m : Box → List ℕ
  m b = plus d.terms.n (carried d.terms (party_of b) (v b)) (set_of d b).mask

  mask_is : (b : Box) → mask_of d b (v b) ≡ m b
  unfolding masked_vector
  mask_is b = ap (λ (t : Terms). plus t.n (carried t (party_of b) (v b)) (set_of d b).mask) (set_terms d b)

  abbrev plain : Box → ℕ
  plain b =
      let s : Set = set_of d b in
      Share.box_word d.terms s.mark (share (party_of b) d.terms.n s.c (m camera) (m office) s.x s.y)
      (own_word d.terms (v b)) s.r

  -- a box's word with this share
  abbrev with_share : Box → ℕ → ℕ
  with_share b k = Share.box_word d.terms (set_of d b).mark k (own_word d.terms (v b)) (set_of d b).r

  word_is : (b : Box) → word_by d v b ≡ plain b
  unfolding word_of box_share
  word_is camera =
      rw (mask_is camera, mask_is office, set_terms d camera)
      (ap (with_share camera)
      (share_fill_x 0 d.terms.n _ (m camera) (m office) _ _))
  word_is office =
      rw (mask_is camera, mask_is office, set_terms d office)
      (ap (with_share office)
      (share_fill_y 1 d.terms.n _ (m camera) (m office) _ _))

  swap : (a b : ℕ) → add a b ≡ add b a
  unfolding add
  swap a b = ap (λ (k : ℕ). k % 2 ^ 32) (omega arith)

  as_bit : (b : Bool) → only b 1 ≡ cond b 1 0
  unfolding only
  as_bit true = refl
  as_bit false = refl

  pub answers_join : Sound d → ((b : Box) → all_in_range d.terms (v b) ≡ true)
      → add (answer_by d v camera) (answer_by d v office) ≡ verdict d (v camera) (v office)
  unfolding answer_of
  answers_join k r =
      rw (word_is camera, word_is office, swap (plain office) (plain camera))
      (dealt_join d (v camera) (v office) k.length_fits_lem (r camera) (r office) k.rule_fits_lem k.in_order_lem
      ∙ as_bit _)
