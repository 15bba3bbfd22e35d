-- The claims are not empty: at every measure and length both reports can be had, by a threshold and between two marks,
-- every rule has a run, and there are accepted starts.
-- Assumes nothing.
use mathlib.Core.Path.{◌≡◌, refl, ap, ap₂, ◌∙◌, subst}
use mathlib.Core.Bool.{true, cond, ◌&&◌}
use mathlib.Core.List.{List, [], ◌∷◌}
use Prim.Native.Nat.{ℕ, zero, suc, ◌^◌, ◌<◌, ◌≤◌}
use native.Mathlib.Omega.{arith}
use lib.IntN.{ℤ, pos, neg_ℤ, ◌+ℤ◌, ◌*ℤ◌}
use lib.ListN.{length, replicate, length-replicate}
use Rattle.base_algebra.specs.Integer.{ringℤ, reifyℤ}
use Rattle.base_algebra.specs.Word.{signed}
use Rattle.base_algebra.specs.Sum.{sumℤ}
use Rattle.measure_table.specs.Measure.{row, scalar_product, squared_euclid, hamming, element, measure, reached}
use Rattle.measure_table.specs.Measure.{ordinary_mark, is_code, length_fits, within, in_range, all_in_range}
use Rattle.measure_table.specs.Measure.{threshold_fits}
use Rattle.measure_table.specs.Measure.{meets, rule_fits, in_order, mark_of}
use Rattle.measure_table.specs.declared.Terms.{Terms}
use Rattle.measure_table.specs.declared.Rule.{Rule}
use Rattle.measure_table.specs.declared.Rule.TheVariants.{Threshold, Between}
use Rattle.measure_table.specs.Laws.{scalar_sign, distance_sign, reached_plain, reached_close, reached_equal}
use Rattle.measure_table.specs.Measure as Measure
use Rattle.base_words.specs.List.{same}
use Rattle.base_messages.specs.Messages.{unless, name_fits, padded, printable, is_key}
use Rattle.call_party.specs.Party.{start_party, why_not_party}
use Rattle.call_lock.specs.Lock.{start_lock, why_not_lock}
use Rattle.half_deal.specs.Dealing.{Deal, deal_from}
use Rattle.call_day.specs.Table.{Fault}
use Rattle.call_day.specs.Table.{day}
use Rattle.call_day.specs.Claims.{InRow, whole_day, whole_day_lem}
use Rattle.call_day.proofs.Claims.{taken_good}
use Rattle.call_dealer.specs.Dealer.{start_dealer, why_not_dealer, half_size}
use Rattle.call_dealer.specs.Clock.{ClockDeal, clock_from}
use Rattle.door_lists.specs.Lists.{Box, camera, office, party_of, Starts, Started, Call, deal_by_clock, history}
use Rattle.door_lists.specs.Lists.{Admissible}
use Rattle.door_lists.specs.Demand.{Begins, InRange, Free, CanEnd, Example, ByClock}
use Rattle.door_lists.proofs.Boxes.{both}
use Rattle.door_lists.proofs.Stuck.{room}

-- ---- two vectors of zeros: their measure is 0 under every code, and T = 0 is reached

abbrev zeros : ℕ → List ℕ
zeros l = replicate l 0

no_element : (l i : ℕ) → element (zeros l) i ≡ pos 0
unfolding element signed
no_element zero i = refl
no_element (suc l) zero = refl
no_element (suc l) (suc i) = no_element l i

no_sum : (f : ℕ → ℤ) → ((i : ℕ) → f i ≡ pos 0) → (n : ℕ) → sumℤ f n ≡ pos 0
unfolding sumℤ
no_sum f z zero = refl
no_sum f z (suc n) = ap₂ ◌+ℤ◌ (no_sum f z n) (z n)

by_zero : (z : ℤ) → z *ℤ pos 0 ≡ pos 0
by_zero z = ringℤ (z ∷ []) (search reifyℤ depth 20 fits 5000) refl

-- the product of any vector with zeros
no_product : (v : List ℕ) (l n : ℕ) → sumℤ (λ i. element v i *ℤ element (zeros l) i) n ≡ pos 0
no_product v l n = no_sum _ (λ i. ap (λ (z : ℤ). element v i *ℤ z) (no_element l i) ∙ by_zero (element v i)) n

no_measure : (code l n : ℕ) → measure (record { code = code; n = n }) (zeros l) (zeros l) ≡ pos 0
unfolding measure Measure.own Measure.cross row scalar_product squared_euclid hamming
no_measure zero l n = rw (no_product (zeros l) l n) refl
no_measure (suc zero) l n = rw (no_product (zeros l) l n) refl
no_measure (suc (suc code)) l n = rw (no_product (zeros l) l n) refl

-- ---- a 1 in the first place, and zeros: the measure is 0 under the scalar product, where T = 1 is not reached, and 1
-- under a distance, where T = 0 is not

abbrev far : ℕ → List ℕ
far zero = []
far (suc l) = 1 ∷ zeros l

apart : ℕ → ℤ
apart zero = pos 0
apart (suc code) = pos 1

beyond : ℕ → ℕ
beyond zero = 1
beyond (suc code) = 0

-- a sum whose first term alone is not 0
first_alone : (f : ℕ → ℤ) → ((i : ℕ) → f (suc i) ≡ pos 0) → (n : ℕ) → sumℤ f (suc n) ≡ f 0
unfolding sumℤ
first_alone f z zero = none (f 0)
  where
    none : (a : ℤ) → pos 0 +ℤ a ≡ a
    none a = ringℤ (a ∷ []) (search reifyℤ depth 20 fits 5000) refl
first_alone f z (suc n) = ap₂ ◌+ℤ◌ (first_alone f z n) (z n) ∙ none (f 0)
  where
    none : (a : ℤ) → a +ℤ pos 0 ≡ a
    none a = ringℤ (a ∷ []) (search reifyℤ depth 20 fits 5000) refl

far_square : (l : ℕ) → sumℤ (λ i. element (far (suc l)) i *ℤ element (far (suc l)) i) (suc l) ≡ pos 1
unfolding element signed
far_square l = first_alone _ (λ i. ap₂ ◌*ℤ◌ (no_element l i) (no_element l i)) l

-- own, own and -2 times the product: the same sums under both distances
far_distance : (l : ℕ)
    → sumℤ (λ i. element (far (suc l)) i *ℤ element (far (suc l)) i) (suc l)
    +ℤ sumℤ (λ i. element (zeros (suc l)) i *ℤ element (zeros (suc l)) i) (suc l)
    +ℤ neg_ℤ (pos 2) *ℤ sumℤ (λ i. element (far (suc l)) i *ℤ element (zeros (suc l)) i) (suc l)
    ≡ pos 1
far_distance l = rw (
  far_square l,
  no_product (zeros (suc l)) (suc l) (suc l),
  no_product (far (suc l)) (suc l) (suc l),
) refl

far_measure : (code l : ℕ)
    → measure (record { code = code; n = suc l }) (far (suc l)) (zeros (suc l)) ≡ apart code
unfolding measure Measure.own Measure.cross row scalar_product squared_euclid hamming apart
far_measure zero l = rw (no_product (far (suc l)) (suc l) (suc l)) refl
far_measure (suc zero) l = far_distance l
far_measure (suc (suc code)) l = far_distance l

-- ---- they are in range

bit_fits : (code n : ℕ)
    → (let terms : Terms = record { code = code; n = n } in
    (in_range terms 0 ≡ true) × (in_range terms 1 ≡ true)
    × (threshold_fits terms 0 ≡ true) × (threshold_fits terms (beyond code) ≡ true) × (threshold_fits terms 1 ≡ true))
unfolding in_range threshold_fits within row scalar_product squared_euclid hamming signed beyond
bit_fits zero n = (refl, refl, refl, refl, refl)
bit_fits (suc zero) n = (refl, refl, refl, refl, refl)
bit_fits (suc (suc code)) n = (refl, refl, refl, refl, refl)

zeros_fit : (terms : Terms) (l : ℕ) → all_in_range terms (zeros l) ≡ true
unfolding all_in_range
zeros_fit terms zero = refl
zeros_fit terms (suc l) = ap₂ ◌&&◌ (bit_fits terms.code terms.n).0 (zeros_fit terms l)

far_fits : (terms : Terms) (l : ℕ) → all_in_range terms (far l) ≡ true
unfolding all_in_range
far_fits terms zero = refl
far_fits terms (suc l) = ap₂ ◌&&◌ (bit_fits terms.code terms.n).1 (zeros_fit terms l)

far_long : (l : ℕ) → length (far l) ≡ l
far_long zero = refl
far_long (suc l) = ap suc (length-replicate {A = ℕ} l 0)

-- ---- two vectors in range of which the lock is to say this bit by this rule

pub record Sample (terms : Terms) (rule : Rule) (bit : ℕ) : Type 0 where
  pub v : Box → List ℕ
  pub rule_fits_lem : rule_fits terms rule ≡ true
  pub in_order_lem : in_order rule ≡ true
  pub vector_long : (b : Box) → length (v b) ≡ terms.n
  pub elements_fit : (b : Box) → all_in_range terms (v b) ≡ true
  pub says : cond (meets terms rule (measure terms (v camera) (v office))) 1 0 ≡ bit

-- vectors of zeros, by any rule
pub sample_any : (terms : Terms) (rule : Rule) → rule_fits terms rule ≡ true → in_order rule ≡ true
    → Sample terms rule (cond (meets terms rule (pos 0)) 1 0)
sample_any terms rule fits ordered =
    record {
      v = λ b. zeros terms.n;
      rule_fits_lem = fits;
      in_order_lem = ordered;
      vector_long = λ b. length-replicate {A = ℕ} terms.n 0;
      elements_fit = λ b. zeros_fit terms terms.n;
      says = rw (no_measure terms.code terms.n terms.n) refl;
    }

sample_1 : (terms : Terms) → Sample terms (Threshold 0) 1
unfolding signed rule_fits in_order meets
sample_1 terms =
    subst (Sample terms (Threshold 0)) (rw (reached_equal terms (pos 0)) refl)
    (sample_any terms (Threshold 0) (bit_fits terms.code terms.n).2 refl)

-- a measure of 0 lies from 0 to 0, and not from 1 to 1
between_1 : (terms : Terms) → Sample terms (Between 0 0) 1
unfolding signed rule_fits in_order meets within
between_1 terms =
    sample_any terms (Between 0 0)
    (ap₂ ◌&&◌ (bit_fits terms.code terms.n).2 (bit_fits terms.code terms.n).2) refl

between_0 : (terms : Terms) → Sample terms (Between 1 1) 0
unfolding signed rule_fits in_order meets within
between_0 terms =
    sample_any terms (Between 1 1)
    (ap₂ ◌&&◌ (bit_fits terms.code terms.n).4 (bit_fits terms.code terms.n).4) refl

far_says : (code n : ℕ) → 1 ≤ n
    → (let terms : Terms = record { code = code; n = n } in
    ◌≡◌ {A = ℕ} (cond (reached terms (measure terms (far n) (zeros n)) (signed (beyond code))) 1 0) 0)
unfolding beyond signed apart
far_says code zero h = absurd (omega arith)
far_says zero (suc l) h =
    let terms : Terms = record { code = 0; n = suc l } in
    rw (far_measure 0 l, reached_plain terms (scalar_sign terms ordinary_mark refl) (pos 0) (pos 1)) refl
far_says (suc code) (suc l) h =
    let terms : Terms = record { code = suc code; n = suc l } in
    let distance : suc code ≡ 0 → ⊥ = λ e. absurd (omega (arith, e)) in
    rw (far_measure (suc code) l, reached_close terms (distance_sign terms distance) (pos 1) (pos 0)) refl

abbrev far_and_zeros : ℕ → Box → List ℕ
far_and_zeros l camera = far l
far_and_zeros l office = zeros l

sample_0 : (terms : Terms) → 1 ≤ terms.n → Sample terms (Threshold (beyond terms.code)) 0
unfolding rule_fits in_order meets
sample_0 terms h =
    record {
      v = far_and_zeros terms.n;
      rule_fits_lem = (bit_fits terms.code terms.n).3;
      in_order_lem = refl;
      vector_long = both _ (far_long terms.n) (length-replicate {A = ℕ} terms.n 0);
      elements_fit = both _ (far_fits terms terms.n) (zeros_fit terms terms.n);
      says = far_says terms.code terms.n h;
    }

-- one of either mark and either bit
pub sample_of : (terms : Terms) → 1 ≤ terms.n → (mark bit : ℕ) → mark ≤ 1 → bit ≤ 1
    → (rule : Rule) × (mark_of rule ≡ mark) × Sample terms rule bit
unfolding mark_of
sample_of terms some zero zero h k = (_, refl, sample_0 terms some)
sample_of terms some zero (suc zero) h k = (_, refl, sample_1 terms)
sample_of terms some (suc zero) zero h k = (_, refl, between_0 terms)
sample_of terms some (suc zero) (suc zero) h k = (_, refl, between_1 terms)
sample_of terms some zero (suc (suc bit)) h k = absurd (omega (arith, k))
sample_of terms some (suc zero) (suc (suc bit)) h k = absurd (omega (arith, k))
sample_of terms some (suc (suc mark)) bit h k = absurd (omega (arith, h))

-- ---- a run with them, under any number

module _ (n : ℕ) (terms : Terms) (small : n < 2 ^ 64) (coded : is_code terms.code ≡ true)
    (long : length_fits terms ≡ true) (rule : Rule) (bit : ℕ) (p : Sample terms rule bit) where
  abbrev pub sample_deal : Deal
  sample_deal = deal_from n (replicate 32 0) terms rule

  pub sample_range : InRange sample_deal p.v
  sample_range =
      record {
        number_fits = small;
        code_fits = coded;
        seed_long = refl;
        length_fits_lem = long;
        vector_long = p.vector_long;
        rule_fits_lem = p.rule_fits_lem;
        in_order_lem = p.in_order_lem;
        elements_fit = p.elements_fit;
      }

  -- .. which begins with a call that it may begin with
  begins_with : CanEnd → (s : Starts) → Started s → (cs : List Call) → Admissible s cs → Free s (history s cs) n
      → (first : Call) → Begins (padded s.name) sample_deal p.v first
      → (e : Example s cs n terms rule bit) × (e.first ≡ first)
  unfolding CanEnd
  begins_with ends s f cs a F first r = (
    record {
      d = sample_deal;
      v = p.v;
      number_is = refl;
      terms_are = refl;
      rule_is = refl;
      in_range_lem = sample_range;
      first = first;
      ended = (ends s f cs a sample_deal p.v sample_range F).1 first r;
      says = p.says;
    },
    refl,
  )

  pub example : CanEnd → (s : Starts) → Started s → (cs : List Call) → Admissible s cs → Free s (history s cs) n
      → Example s cs n terms rule bit
  unfolding CanEnd
  example ends s f cs a F =
      let (first, r) = (ends s f cs a sample_deal p.v sample_range F).0 in (begins_with ends s f cs a F first r).0

-- .. by the clock: a table of one row
module _ (n : ℕ) (terms : Terms) (small : n < 2 ^ 64) (coded : is_code terms.code ≡ true)
    (long : length_fits terms ≡ true) (t bit : ℕ) (p : Sample terms (Threshold t) bit)
    (minute : ℕ) (h : minute < day) where
  abbrev sample_clock : ClockDeal
  sample_clock = clock_from n (replicate 32 0) terms (whole_day t) minute

  pub by_clock : CanEnd → (s : Starts) → Started s → (cs : List Call) → Admissible s cs → Free s (history s cs) n
      → ByClock s cs n terms minute t bit
  by_clock ends s f cs a F =
      let out : List ℕ = replicate (half_size terms.n) 0 in
      let enough = room (half_size terms.n) in
      let good = taken_good (whole_day t) (ap (λ (v : Fault). v.why) (whole_day_lem t)) in
      let row : InRow (0 ∷ []) (1439 ∷ []) minute 0 =
      record { row = omega arith; from = omega arith; to = omega arith } in
      let (e, first_is) =
      begins_with n terms small coded long (Threshold t) bit p ends s f cs a F (deal_by_clock sample_clock out out)
      (refl, good, h, 0, row, refl, enough, enough) in
      (sample_clock, refl, e, out, out, first_is)

-- ---- a door named "A", with floors of zero

zero_starts : Starts
zero_starts =
    record {
      name = 65 ∷ [];
      key = λ b. replicate 32 (party_of b);
      dealer_floor = 0;
      box_floor = λ b. 0;
      lock_floor = 0;
    }

pub some_starts : (s : Starts) × Started s × Free s [] 1
unfolding zero_starts start_dealer start_party start_lock why_not_dealer
    why_not_party why_not_lock name_fits printable is_key same unless
some_starts = (
  zero_starts,
  record { dealer_taken = refl; box_taken = both _ refl refl; lock_taken = refl },
  record { none_open = λ b. refl; above_dealer = omega arith; above_box = λ b. omega arith; above_lock = omega arith },
)
