-- Laws of blocks: what stands where in a block and in a half, and that a sealed block opens. Assumes nothing.
use Rattle.std.specs.Prelude.{◌≡◌, Bool, List, ◌++◌, ltb, take, drop}
use Rattle.std.proofs.Math.Path.{refl, ap}
use Rattle.std.proofs.Common.{sym, ◌∙◌, append_assoc, length-drop, drop-drop, take_all, take-add}
use Rattle.std.proofs.Math.Bool.{true, false}
use Prim.Native.Nat.{ℕ, zero, suc, ◌+◌, ◌*◌, ◌^◌, ◌<◌, ◌≤◌}
use native.Mathlib.Omega.{arith}
use borrow.Author.Tests.{eq-eqb, ltb-true, ltb-false}
use borrow.Rule.Slice.PartMut.{put_mid}
use Rattle.std.proofs.Math.ListN.{length, length-append}
use Rattle.std.proofs.lemmas.List.{take-append-le, drop-append-le}
use Rattle.std.proofs.Math.Seq.{drop-append-add}
use Rattle.base_words.specs.Numbers.{bytes, number, length_bytes, number_four, number_eight}
use Rattle.base_words.specs.List.{over, over_eq}
use Rattle.poly1305_mac.specs.Laws.{length_mac}
use Rattle.aead_seal.specs.Aead.{cipher, tag_for, opens, poly_key, mac_data}
use Rattle.aead_seal.specs.Claims.{length_cipher, opens_if, cipher_twice}
use Rattle.half_content.specs.Content.{block_bytes, text_bytes, part}
use Rattle.half_content.specs.Pieces.{length_part}
use Rattle.half_seal.specs.Half.{header, block, text_at, first_blocks, block_at, block_fits, first_fit, set_number}
use Rattle.half_seal.specs.Half.{opened_blocks}

-- ---- parts of a list made of two

pub part_front : (a b : List ℕ) (at n : ℕ) → at + n ≤ length a → part at n (a ++ b) ≡ part at n a
unfolding part
part_front a b at n h =
    ap (take n) (drop-append-le at a b (omega arith)) ∙ take-append-le n (drop at a) b (omega (arith, length-drop at a))

pub part_back : (a b : List ℕ) (k at n : ℕ) → k ≡ length a + at → part k n (a ++ b) ≡ part at n b
unfolding part
part_back a b k at n e = ap (λ (i : ℕ). take n (drop i (a ++ b))) e ∙ ap (take n) (drop-append-add a b at)

pub part_all : (a : List ℕ) (n : ℕ) → length a ≡ n → part 0 n a ≡ a
unfolding part
part_all a n e = take_all n a (omega arith)

-- ---- a block

pub length_header : (set i : ℕ) → length (header set i) ≡ 12
unfolding header
length_header set i = omega (arith, length-append (bytes 8 set) (bytes 4 i), length_bytes 8 set, length_bytes 4 i)

pub length_tag : (key nonce aad text : List ℕ) → length (tag_for key nonce aad text) ≡ 16
unfolding tag_for
length_tag key nonce aad text = length_mac (poly_key key nonce) (mac_data aad text)

module _ (key : List ℕ) (set i : ℕ) (text : List ℕ) (long : length text ≡ text_bytes) where
  abbrev h : List ℕ
  h = header set i

  abbrev sealed : List ℕ
  sealed = cipher key h text

  abbrev tag : List ℕ
  tag = tag_for key h h sealed

  length_sealed : length sealed ≡ text_bytes
  length_sealed = length_cipher key h text ∙ long

  pub length_block : length (block key set i text) ≡ block_bytes
  unfolding block
  length_block = omega (
    arith,
    length-append h (sealed ++ tag),
    length-append sealed tag,
    length_header set i,
    length_sealed,
    length_tag key h h sealed,
  )

  pub block_header : part 0 12 (block key set i text) ≡ h
  unfolding block
  block_header =
      part_front h (sealed ++ tag) 0 12 (omega (arith, length_header set i)) ∙ part_all h 12 (length_header set i)

  pub block_set : part 0 8 (block key set i text) ≡ bytes 8 set
  unfolding block header
  block_set =
      part_front h (sealed ++ tag) 0 8 (omega (arith, length_header set i))
      ∙ part_front (bytes 8 set) (bytes 4 i) 0 8 (omega (arith, length_bytes 8 set))
      ∙ part_all (bytes 8 set) 8 (length_bytes 8 set)

  pub block_index : part 8 4 (block key set i text) ≡ bytes 4 i
  unfolding block header
  block_index =
      part_front h (sealed ++ tag) 8 4 (omega (arith, length_header set i))
      ∙ part_back (bytes 8 set) (bytes 4 i) 8 0 4 (omega (arith, length_bytes 8 set))
      ∙ part_all (bytes 4 i) 4 (length_bytes 4 i)

  pub block_sealed : part 12 text_bytes (block key set i text) ≡ sealed
  unfolding block
  block_sealed =
      part_back h (sealed ++ tag) 12 0 text_bytes (omega (arith, length_header set i))
      ∙ part_front sealed tag 0 text_bytes (omega (arith, length_sealed)) ∙ part_all sealed text_bytes length_sealed

  pub block_tag : part (12 + text_bytes) 16 (block key set i text) ≡ tag
  unfolding block
  block_tag =
      part_back h (sealed ++ tag) (12 + text_bytes) text_bytes 16 (omega (arith, length_header set i))
      ∙ part_back sealed tag text_bytes 0 16 (omega (arith, length_sealed))
      ∙ part_all tag 16 (length_tag key h h sealed)

  -- its number and index are read back
  pub set_of_block : set < 2 ^ 64 → number (part 0 8 (block key set i text)) ≡ set
  set_of_block l = ap number block_set ∙ number_eight set l

  pub index_of_block : i < 2 ^ 32 → number (part 8 4 (block key set i text)) ≡ i
  index_of_block l = ap number block_index ∙ number_four i l

  -- it opens, to the text that was sealed
  pub block_opens : (let b : List ℕ = block key set i text in
      opens key (part 0 12 b) (part 0 12 b) (part 12 text_bytes b) (part (12 + text_bytes) 16 b)) ≡ true
  block_opens =
      rw (block_header, block_sealed, block_tag) (opens_if key h h sealed tag (omega (arith, length_sealed)) refl)

  pub block_text : cipher key (part 0 12 (block key set i text)) (part 12 text_bytes (block key set i text)) ≡ text
  block_text = rw (block_header, block_sealed) (cipher_twice key h text)

  pub block_fits_lem : set < 2 ^ 64 → i < 2 ^ 32 → block_fits key set i (block key set i text) ≡ true
  unfolding block_fits
  block_fits_lem l m = rw (index_of_block m, set_of_block l, eq-eqb i i refl, eq-eqb set set refl) block_opens

-- ---- blocks one after the other

module _ (key : List ℕ) (set : ℕ) (p : List ℕ) where
  -- block i, and the first k of them
  abbrev one : ℕ → List ℕ
  one i = block key set i (text_at p i)

  abbrev first : ℕ → List ℕ
  first k = first_blocks key set p k

  length_text : (i : ℕ) → text_bytes * suc i ≤ length p → length (text_at p i) ≡ text_bytes
  length_text i h = length_part p (text_bytes * i) text_bytes (omega arith)

  length_one : (i : ℕ) → text_bytes * suc i ≤ length p → length (one i) ≡ block_bytes
  length_one i h = length_block key set i (text_at p i) (length_text i h)

  pub length_blocks : (k : ℕ) → text_bytes * k ≤ length p → length (first k) ≡ block_bytes * k
  unfolding first_blocks
  length_blocks zero h = refl
  length_blocks (suc k) h =
      omega (arith, length-append (first k) (one k), length_blocks k (omega arith), length_one k h)

  -- block i of them
  one_more : (k i : ℕ) (t : Bool) → ltb i k ≡ t → text_bytes * suc k ≤ length p → i < suc k
      → (i < k → block_at (first k) i ≡ one i) → block_at (first (suc k)) i ≡ one i
  unfolding first_blocks block_at
  one_more k i true e h l before =
      let below : i < k = ltb-true i k e in
      let inside : block_bytes * i + block_bytes ≤ length (first k) = omega (arith, length_blocks k (omega arith)) in
      part_front (first k) (one k) (block_bytes * i) block_bytes inside ∙ before below
  one_more k i false e h l before =
      let same : i ≡ k = omega (arith, ltb-false i k e) in
      let past : block_bytes * i ≡ length (first k) + 0 = omega (arith, length_blocks k (omega arith)) in
      part_back (first k) (one k) (block_bytes * i) 0 block_bytes past ∙ part_all (one k) block_bytes (length_one k h)
      ∙ ap one (sym same)

  pub block_at_lem : (k i : ℕ) → text_bytes * k ≤ length p → i < k → block_at (first k) i ≡ one i
  block_at_lem zero i h l = absurd (omega arith)
  block_at_lem (suc k) i h l = one_more k i (ltb i k) refl h l (λ below. block_at_lem k i (omega arith) below)

  -- blocks handed in that are these, one after the other: they fit, and open to what was sealed
  module _ (h : List ℕ) where
    abbrev Are : ℕ → Type 0
    Are k = (i : ℕ) → i < k → block_at h i ≡ one i

    pub are_fit : (k : ℕ) → text_bytes * k ≤ length p → set < 2 ^ 64 → k ≤ 2 ^ 32 → set_number h ≡ set → Are k
        → first_fit key h k ≡ true
    unfolding first_fit
    are_fit zero l s m e f = refl
    are_fit (suc k) l s m e f =
        rw (are_fit k (omega arith) s (omega arith) e (λ i g. f i (omega arith)), e, f k (omega arith))
        (block_fits_lem key set k (text_at p k) (length_text k l) s (omega arith))

    pub are_opened : (k : ℕ) → text_bytes * k ≤ length p → Are k → opened_blocks key h k ≡ take (text_bytes * k) p
    unfolding opened_blocks part
    are_opened zero l f = refl
    are_opened (suc k) l f =
        let more : text_bytes * suc k ≡ text_bytes * k + text_bytes = omega arith in
        let before = are_opened k (omega arith) (λ i g. f i (omega arith)) in
        rw (before, f k (omega arith), block_text key set k (text_at p k) (length_text k l), more)
        (sym (take-add (text_bytes * k) text_bytes p))

-- a part put back is written over what was there
pub put_over : (a k : ℕ) (xs ys : List ℕ) → length ys ≡ k → a + k ≤ length xs → put_mid a k xs ys ≡ over a ys xs
put_over a k xs ys e h =
    ap (λ (l : List ℕ). take a xs ++ (ys ++ l)) (drop-drop k a xs ∙ ap (λ (n : ℕ). drop (a + n) xs) (sym e))
    ∙ sym (over_eq ys xs a (omega arith) ∙ append_assoc (take a xs) ys (drop (a + length ys) xs))
