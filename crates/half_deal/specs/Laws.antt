-- What holds of the words that a deal draws, and of vectors in arrays, whose fill is not seen. What they come to, for a
-- dealt set, is in `proofs/DealtSet.antt`. For every set seed. Assumes nothing. [SPEC 9.1, 18.7]
use Rattle.std.specs.Prelude.{◌≡◌, refl, List, [], ◌∷◌, ◌++◌, ℕ, zero, suc, ◌+◌, ◌-◌, ◌*◌, ◌^◌, ◌<◌, ◌≤◌, length}
use Rattle.std.specs.Prelude.{get_or, drop, replicate}
use Rattle.std.proofs.Common.{ap, ap₂, arith, get_or-drop}
use Rattle.base_algebra.specs.Word.{add, sub, mul, add_lt}
use Rattle.base_algebra.specs.Bit.{only, odd}
use Rattle.base_algebra.specs.Sum.{sum_ext}
use Rattle.base_words.specs.List.{tab, length_tab, tab_ext}
use Rattle.base_words.specs.Bytes.{words_at, Below, Words}
use Rattle.chacha20_stream.specs.Keystream.{key_word, stream}
use Rattle.dcf_node.specs.Bounds.{take_below, block_below}
use Rattle.measure_table.specs.Measure.{most_elements}
use Rattle.share_vectors.specs.Share.{plus, inner, other_c, share}
use Rattle.half_content.specs.Content.{part, fill}
use Rattle.half_content.specs.Pieces.{length_part}
use Rattle.half_deal.specs.Dealing.{set_words}

-- ---- words

-- what a rule makes of words
tab_below : (f : ℕ → ℕ) (n : ℕ) → ((i : ℕ) → f i < 2 ^ 32) → Below (tab f n)
unfolding tab
tab_below f zero h i = omega arith
tab_below f (suc n) h i = more (tab f n) (tab_below f n h) i
  where
    more : (l : List ℕ) → Below l → Below (l ++ (f n ∷ []))
    more [] k zero = h n
    more [] k (suc i) = omega arith
    more (e ∷ l) k zero = k zero
    more (e ∷ l) k (suc i) = more l (λ j. k (suc j)) i

pub dealt_below : (seed : List ℕ) (n i : ℕ) → get_or (set_words seed n) i 0 < 2 ^ 32
unfolding set_words stream key_word
dealt_below seed n i =
    tab_below (key_word (words_at 8 seed) 0 (1 ∷ 0 ∷ 0 ∷ [])) (4 * n + 19)
    (λ j. block_below (words_at 8 seed) _ (1 ∷ 0 ∷ 0 ∷ []) _) i

pub dealt_long : (seed : List ℕ) (n : ℕ) → length (set_words seed n) ≡ 4 * n + 19
unfolding set_words stream
dealt_long seed n = length_tab (key_word (words_at 8 seed) 0 (1 ∷ 0 ∷ 0 ∷ [])) (4 * n + 19)

pub part_words : (at n : ℕ) (w : List ℕ) → at + n ≤ length w → Below w → Words n (part at n w)
unfolding part
part_words at n w fits h =
    record {
      long = length_part w at n fits;
      below = take_below n (drop at w) (λ i. rw (get_or-drop at w i 0) (h (at + i)));
    }

pub plus_words : (n : ℕ) (a b : List ℕ) → Words n (plus n a b)
unfolding plus
plus_words n a b = record { long = length_tab _ n; below = tab_below _ n (λ i. add_lt (get_or a i 0) (get_or b i 0)) }

-- ---- an array's fill is not seen: a list and its array agree at every place

record Same (a b : List ℕ) : Type 0 where
  at : (i : ℕ) → get_or a i 0 ≡ get_or b i 0

itself : (l : List ℕ) → Same l l
itself l = record { at = λ i. refl }

pub get_or_fill : (l : List ℕ) (i : ℕ) → get_or (fill l) i 0 ≡ get_or l i 0
unfolding fill
get_or_fill l i = go (most_elements - length l) l i
  where
    zeros : (k i : ℕ) → ◌≡◌ {A = ℕ} (get_or (replicate k 0) i 0) 0
    zeros zero i = refl
    zeros (suc k) zero = refl
    zeros (suc k) (suc i) = zeros k i

    go : (k : ℕ) (l : List ℕ) (i : ℕ) → get_or (l ++ replicate k 0) i 0 ≡ get_or l i 0
    go k [] i = zeros k i
    go k (e ∷ l) zero = refl
    go k (e ∷ l) (suc i) = go k l i

filled : (l : List ℕ) → Same (fill l) l
filled l = record { at = get_or_fill l }

pub plus_fill : (n : ℕ) (a b : List ℕ) → plus n a (fill b) ≡ plus n a b
unfolding plus
plus_fill n a b = tab_ext _ _ n (λ i h. ap (add (get_or a i 0)) (get_or_fill b i))

inner_same : (n : ℕ) {a a' b b' : List ℕ} → Same a a' → Same b b' → inner n a b ≡ inner n a' b'
unfolding inner
inner_same n ea eb = sum_ext _ _ n (λ i h. ap₂ mul (ea.at i) (eb.at i))

pub other_c_fill : (n : ℕ) (a b : List ℕ) (c : ℕ) → other_c n (fill a) (fill b) c ≡ other_c n a b c
unfolding other_c
other_c_fill n a b c = ap (λ p. sub p c) (inner_same n (filled a) (filled b))

module _ (party n c : ℕ) where
  share_same : {mx mx' my my' sx sx' sy sy' : List ℕ} → Same mx mx' → Same my my' → Same sx sx' → Same sy sy'
      → share party n c mx my sx sy ≡ share party n c mx' my' sx' sy'
  unfolding share
  share_same emx emy esx esy =
      λ i.
      add (sub (sub c (inner_same n emx esy i)) (inner_same n emy esx i)) (only (odd party) (inner_same n emx emy i))

  module _ (mx my sx sy : List ℕ) where
    -- a box's state keeps its own masked vector in an array: MX at the camera box, MY at the office box
    pub share_fill_x : share party n c (fill mx) my sx sy ≡ share party n c mx my sx sy
    share_fill_x = share_same (filled mx) (itself my) (itself sx) (itself sy)

    pub share_fill_y : share party n c mx (fill my) sx sy ≡ share party n c mx my sx sy
    share_fill_y = share_same (itself mx) (filled my) (itself sx) (itself sy)

    -- a set's shares stand in arrays
    pub share_fills : share party n c mx my (fill sx) (fill sy) ≡ share party n c mx my sx sy
    share_fills = share_same (itself mx) (itself my) (filled sx) (filled sy)
