-- Claim half: the half that a deal writes for a party is taken there and opens to the dealt set; and of any whole
-- blocks that some deals of distinct numbers wrote for that party, only one deal's whole half is taken. A deal is its
-- set here. And a half from before 02, §4, is refused by 11. Assumes nothing.
use Rattle.std.specs.Prelude.{◌≡◌, Bool, eqb, leb, take}
use Rattle.std.proofs.Math.Path.{refl, sym, ap, ap₂, subst}
use Rattle.std.proofs.Common.{◌∙◌, take_all, take-take, take-add}
use Rattle.std.proofs.Math.Bool.{true, false}
use mathlib.Core.List.{List, ◌++◌}
use Prim.Native.Nat.{ℕ, zero, suc, ◌+◌, ◌*◌, ◌-◌, ◌/◌, ◌%◌, ◌^◌, ◌<◌, ◌≤◌}
use native.Mathlib.Omega.{arith}
use borrow.Author.Tests.{eq-eqb, eqb-true, leb-true, le-leb, lt-ltb, ltb-true, ltb-false}
use Rattle.std.proofs.Math.Dec.{ltb}
use Rattle.std.proofs.Math.ListN.{length}
use Rattle.base_algebra.specs.Bit.{both}
use Rattle.base_words.specs.Numbers.{number}
use Rattle.base_messages.specs.Messages.{bad_content, unless}
use Rattle.base_messages.specs.Laws.{passed}
use Rattle.half_content.specs.declared.Set.{Set}
use Rattle.half_content.specs.Content.{block_bytes, text_bytes, most_blocks, part}
use Rattle.half_content.specs.Content.{block_count, plain, length_in, content_fits, Proper}
use Rattle.half_content.specs.Pieces.{part_is, length_part}
use Rattle.half_content.specs.Laws.{head_is, fits_tells, length_in_plain, length_in_take, set_in_plain, fits_plain}
use Rattle.half_content.specs.Older.{older_plain}
use Rattle.half_content.proofs.Laws.{few_blocks, length_plain}
use Rattle.half_content.proofs.Older.{older_refused}
use Rattle.half_seal.specs.Half.{block, text_at, first_blocks, half, block_at, set_number, block_fits, first_fit}
use Rattle.half_seal.specs.Half.{opened_blocks, whole_blocks, why_not_opened, why_not, opened_set}
use Rattle.half_seal.specs.Laws.{length_blocks, block_at_lem, set_of_block, index_of_block, are_fit, are_opened}

-- ---- a set's own half

-- block 0 has the number
number_of : (h : List ℕ) → set_number h ≡ number (part 0 8 (block_at h 0))
unfolding set_number block_at part
number_of h = ap number (sym (take-take 8 block_bytes h (omega arith)))

module _ (key name : List ℕ) (party : ℕ) (named : length name ≡ 16) where
  -- ---- any text of whole blocks, sealed under a number

  module _ (set count : ℕ) (text : List ℕ) (whole : length text ≡ text_bytes * count)
      (some : (3 ≤ count) × (count ≤ most_blocks)) (number_fits : set < 2 ^ 64) where
    abbrev sealed : List ℕ
    sealed = first_blocks key set text count

    length_sealed : length sealed ≡ block_bytes * count
    length_sealed = length_blocks key set text count (omega (arith, whole))

    sealed_at : (i : ℕ) → i < count → block_at sealed i ≡ block key set i (text_at text i)
    sealed_at i l = block_at_lem key set text count i (omega (arith, whole)) l

    sealed_number : set_number sealed ≡ set
    sealed_number =
        number_of sealed
        ∙ ap (λ (b : List ℕ). number (part 0 8 b)) (sealed_at 0 (omega (arith, some.0)))
        ∙ set_of_block key set 0 (text_at text 0)
        (length_part text (text_bytes * 0) text_bytes (omega (arith, whole, some.0))) number_fits

    sealed_count : length sealed / block_bytes ≡ count
    sealed_count = omega (arith, length_sealed)

    sealed_opens : opened_blocks key sealed count ≡ text
    sealed_opens =
        are_opened key set text sealed count (omega (arith, whole)) sealed_at
        ∙ take_all (text_bytes * count) text (omega (arith, whole))

    -- where the last number is below its own, 11 alone is left to be asked
    pub sealed_examined : (last : ℕ) → last < set
        → why_not key name party last sealed ≡ unless (content_fits name party count text) bad_content 0
    unfolding why_not why_not_opened whole_blocks unless
    sealed_examined last l =
        let none : length sealed % block_bytes ≡ 0 = omega (arith, length_sealed) in
        rw (
          sealed_count,
          eq-eqb (length sealed % block_bytes) 0 none,
          le-leb 3 count some.0,
          le-leb count most_blocks some.1,
          sealed_number,
          lt-ltb last set l,
          are_fit key set text sealed count (omega (arith, whole)) number_fits (omega (arith, some.1))
              sealed_number sealed_at,
          sealed_opens,
        )
        refl

  module _ (s : Set) (p : Proper s) where
    abbrev text : List ℕ
    text = plain name party s

    abbrev count : ℕ
    count = block_count s.terms.n

    long : length text ≡ text_bytes * count
    long = length_plain name party s named p

    some_blocks : (3 ≤ count) × (count ≤ most_blocks)
    some_blocks = few_blocks s p

    pub length_half : length (half key name party s) ≡ block_bytes * count
    unfolding half
    length_half = length_sealed s.number count text long some_blocks p.number_fits

    are : (i : ℕ) → i < count → block_at (half key name party s) i ≡ block key s.number i (text_at text i)
    unfolding half
    are = sealed_at s.number count text long some_blocks p.number_fits

    pub half_number : set_number (half key name party s) ≡ s.number
    unfolding half
    half_number = sealed_number s.number count text long some_blocks p.number_fits

    -- it is taken where the last number is below its own ..
    pub half_taken : (last : ℕ) → last < s.number → why_not key name party last (half key name party s) ≡ 0
    unfolding half unless
    half_taken last l =
        sealed_examined s.number count text long some_blocks p.number_fits last l
        ∙ rw (fits_plain name party s named p) refl

    -- .. and opens to the set
    pub half_opened : opened_set key (half key name party s) ≡ s
    unfolding opened_set half
    half_opened =
        rw (
          sealed_count s.number count text long some_blocks p.number_fits,
          sealed_number s.number count text long some_blocks p.number_fits,
          sealed_opens s.number count text long some_blocks p.number_fits,
        )
        (set_in_plain name party s named p)

    -- a half from before 02, §4, whose content ended with the final word, is refused by 11 ("01's eleventh refusal
    -- takes in .. another w under mark 0"), whatever its number of blocks [SPEC 9.7, 23.11]
    pub older_half_refused : (fill blocks last : ℕ)
        → length (older_plain name party s named p fill) ≡ text_bytes * blocks → 3 ≤ blocks → blocks ≤ most_blocks
        → last < s.number
        → why_not key name party last (first_blocks key s.number (older_plain name party s named p fill) blocks)
        ≡ bad_content
    unfolding unless
    older_half_refused fill blocks last whole three most l =
        sealed_examined s.number blocks (older_plain name party s named p fill) whole (three, most) p.number_fits
        last l
        ∙ rw (older_refused name party s named p fill blocks) refl

  -- ---- nothing else is taken

  -- what acceptance tells
  record Taken (h : List ℕ) : Type 0 where
    whole : length h ≡ block_bytes * (length h / block_bytes)
    three : 3 ≤ length h / block_bytes
    fit : first_fit key h (length h / block_bytes) ≡ true
    content : content_fits name party (length h / block_bytes) (opened_blocks key h (length h / block_bytes)) ≡ true

  taken : (last : ℕ) (h : List ℕ) → why_not key name party last h ≡ 0 → Taken h
  unfolding why_not why_not_opened whole_blocks
  taken last h e =
      let w = passed _ e in
      let n = passed _ w.1 in
      let f = passed _ n.1 in
      let c = passed _ f.1 in
      let a = both (eqb (length h % block_bytes) 0) _ w.0 in
      let b = both (leb 3 (length h / block_bytes)) _ a.1 in
      record {
        whole = omega (arith, eqb-true (length h % block_bytes) 0 a.0);
        three = leb-true 3 (length h / block_bytes) b.0;
        fit = f.0;
        content = c.0;
      }

  -- block i of those that fit
  fits_at : (h : List ℕ) (k i : ℕ) → first_fit key h k ≡ true → i < k
      → block_fits key (set_number h) i (block_at h i) ≡ true
  unfolding first_fit
  fits_at h zero i e l = absurd (omega arith)
  fits_at h (suc k) i e l =
      last_or (ltb i k) refl (both (first_fit key h k) (block_fits key (set_number h) k (block_at h k)) e)
      (λ e l. fits_at h k i e l)
    where
      last_or : (t : Bool) → ltb i k ≡ t
          → (first_fit key h k ≡ true) × (block_fits key (set_number h) k (block_at h k) ≡ true)
          → (first_fit key h k ≡ true → i < k → block_fits key (set_number h) i (block_at h i) ≡ true)
          → block_fits key (set_number h) i (block_at h i) ≡ true
      last_or true q b before = before b.0 (ltb-true i k q)
      last_or false q b before =
          let same : k ≡ i = omega (arith, ltb-false i k q) in
          subst (λ (j : ℕ). block_fits key (set_number h) j (block_at h j) ≡ true) same b.1

  -- blocks that are a list's, all of it, make the list
  made : (set : ℕ) (p h : List ℕ) (k : ℕ) → block_bytes * k ≤ length h
      → ((i : ℕ) → i < k → block_at h i ≡ block key set i (text_at p i))
      → take (block_bytes * k) h ≡ first_blocks key set p k
  unfolding first_blocks block_at
  made set p h zero l f = refl
  made set p h (suc k) l f =
      let more : block_bytes * suc k ≡ block_bytes * k + block_bytes = omega arith in
      rw more
      (take-add (block_bytes * k) block_bytes h
      ∙ ap₂ (λ (a b : List ℕ). a ++ b) (made set p h k (omega arith) (λ i g. f i (omega arith)))
      (part_is (block_bytes * k) block_bytes h ∙ f k (omega arith)))

  -- some deals, whose sets' numbers are distinct
  module _ (D : Set → Type 0) (sound : (s : Set) → D s → Proper s)
      (one : (s t : Set) → D s → D t → s.number ≡ t.number → s ≡ t) where
    -- a block that some deal wrote for this party
    pub record Wrote (b : List ℕ) : Type 0 where
      pub set : Set
      pub dealt : D set
      pub place : ℕ
      pub among : place < block_count set.terms.n
      pub is : b ≡ block_at (half key name party set) place

    module _ (h : List ℕ) (wrote : (i : ℕ) → i < length h / block_bytes → Wrote (block_at h i)) (t : Taken h) where
      -- a block that fits stands at its place, under the number of block 0
      placed : (i : ℕ) (l : i < length h / block_bytes)
          → ((wrote i l).place ≡ i) × ((wrote i l).set.number ≡ set_number h)
      unfolding block_fits
      placed i l =
          let w = wrote i l in
          let s = w.set in
          let p = sound s w.dealt in
          let k = w.place in
          let text = plain name party s in
          let fits = fits_at h (length h / block_bytes) i t.fit l in
          let a = both (eqb (number (part 8 4 (block_at h i))) i) _ fits in
          let b = both (eqb (number (part 0 8 (block_at h i))) (set_number h)) _ a.1 in
          let whole : text_bytes * k + text_bytes ≤ length text =
          omega (arith, length_plain name party s named p, w.among) in
          let at : block_at h i ≡ block key s.number k (text_at text k) = w.is ∙ are s p k w.among in
          let size = length_part text (text_bytes * k) text_bytes whole in
          let small : k < 2 ^ 32 = omega (arith, w.among, (some_blocks s p).1) in (
            sym (index_of_block key s.number k (text_at text k) size small)
                ∙ ap (λ (b : List ℕ). number (part 8 4 b)) (sym at) ∙ eqb-true _ i a.0,
            sym (set_of_block key s.number k (text_at text k) size p.number_fits)
                ∙ ap (λ (b : List ℕ). number (part 0 8 b)) (sym at) ∙ eqb-true _ (set_number h) b.0,
          )

      none : 0 < length h / block_bytes
      none = omega (arith, t.three)

      -- the deal whose block 0 it is
      abbrev deal : Set
      deal = (wrote 0 none).set

      proper : Proper deal
      proper = sound deal (wrote 0 none).dealt

      all_its : (i : ℕ) (l : i < length h / block_bytes)
          → (i < block_count deal.terms.n)
          × (block_at h i ≡ block key deal.number i (text_at (plain name party deal) i))
      all_its i l =
          let w = wrote i l in
          let same : w.set ≡ deal =
          one w.set deal w.dealt (wrote 0 none).dealt ((placed i l).1 ∙ sym (placed 0 none).1) in
          let among : i < block_count deal.terms.n =
          subst (λ (s : Set). i < block_count s.terms.n) same
          (subst (λ (k : ℕ). k < block_count w.set.terms.n) (placed i l).0 w.among) in (
            among,
            w.is ∙ ap₂ (λ (s : Set) (k : ℕ). block_at (half key name party s) k) same (placed i l).0
                ∙ are deal proper i among,
          )

      -- as many blocks as it has
      counts : length h / block_bytes ≡ block_count deal.terms.n
      counts =
          let k = length h / block_bytes in
          let text = plain name party deal in
          let last : k - 1 < k = omega (arith, t.three) in
          let fewer : k ≤ block_count deal.terms.n = omega (arith, (all_its (k - 1) last).0) in
          let enough : text_bytes * k ≤ length text = omega (arith, length_plain name party deal named proper) in
          let opened : opened_blocks key h k ≡ take (text_bytes * k) text =
          are_opened key deal.number text h k enough (λ i l. (all_its i l).1) in
          let n : length_in (opened_blocks key h k) ≡ deal.terms.n =
          ap length_in opened ∙ length_in_take (text_bytes * k) text (omega (arith, head_is 0, t.three))
          ∙ length_in_plain name party deal named proper in
          let e = (fits_tells name party k (opened_blocks key h k) t.content).counted in
          sym (sym (ap block_count n) ∙ e)

      is_its : h ≡ half key name party deal
      unfolding half
      is_its =
          sym (take_all (block_bytes * (length h / block_bytes)) h (omega (arith, t.whole)))
          ∙ made deal.number (plain name party deal) h (length h / block_bytes) (omega (arith, t.whole))
          (λ i l. (all_its i l).1)
          ∙ ap (first_blocks key deal.number (plain name party deal)) counts

    -- Of whole blocks each of which some deal wrote for this party, what is taken is one deal's whole half
    pub only_whole : (last : ℕ) (h : List ℕ) → ((i : ℕ) → i < length h / block_bytes → Wrote (block_at h i))
        → why_not key name party last h ≡ 0 → (s : Set) × D s × (h ≡ half key name party s)
    only_whole last h wrote e =
        let t = taken last h e in
        (deal h wrote t, (wrote 0 (none h wrote t)).dealt, is_its h wrote t)
