-- What the code of sealing and opening blocks comes to. Assumes nothing.
use mathlib.Core.Path.{◌≡◌, refl, sym, ap, ap₂, ◌∙◌}
use mathlib.Core.List.{List, [], ◌∷◌, ◌++◌, append_assoc, append-nil}
use Prim.Native.Nat.{ℕ, zero, suc, ◌+◌, ◌*◌, ◌-◌, ◌/◌, ◌%◌, ◌^◌, ◌≤◌}
use native.Mathlib.Omega.{arith}
use native.Mathlib.Numerals.{add-one}
use borrow.Author.Tests.{le-leb}
use borrow.Rule.Slice.PartMut.{put_mid}
use lib.ListN.{length, take-append-drop, take, drop, replicate, length-append, length-drop, drop_of_length-le}
use lib.Seq.{length-take-le, take_at, drop_at}
use Rattle.base_words.specs.List.{over, over_all, over_after, over_next, flat}
use Rattle.base_words.specs.Bytes.{le32, bytes_of}
use Rattle.aead_seal.specs.Aead.{cipher, tag_for, within, sealed, handed, sealed_text}
use Rattle.std.specs.Prelude.{Option, Some, IsSome, unwrap_or}
use Rattle.aead_seal.specs.Claims.{length_cipher}
use Rattle.half_content.specs.declared.Set.{Set}
use Rattle.half_content.specs.Content.{block_bytes, text_bytes, room_bytes, part, fields, size, block_count, Proper}
use Rattle.half_content.proofs.Laws.{few_blocks, take_laid}
use Rattle.half_content.specs.Pieces.{length_part}
use Rattle.aead_one_time.specs.OneTime.{nonce_of}
use Rattle.half_seal.specs.Half.{header, block, text_at, first_blocks, half}
use Rattle.half_seal.specs.OneTime.{header_words}
use Rattle.half_seal.specs.Laws.{part_front, length_tag, length_block, length_blocks, put_over}

pub header_law : (a i x y : ℕ) (out t : List ℕ) → x ≡ a % 2 ^ 32 → y ≡ a / 2 ^ 32
    → length out ≡ 12 → t ≡ over 0 (bytes_of (x ∷ y ∷ i ∷ [])) out → t ≡ header a i
unfolding bytes_of le32 nonce_of
header_law a i x y out t ex ey size e =
    e ∙ over_all (bytes_of (x ∷ y ∷ i ∷ [])) out (sym size) ∙ (λ j. nonce_of (ex j) (ey j) i) ∙ header_words a i

-- ---- a block

module _ (key h text out0 : List ℕ) (lh : length h ≡ 12) (lt : length text ≡ text_bytes)
    (lo : length out0 ≡ block_bytes) where
  abbrev rest : List ℕ
  rest = drop text_bytes (drop 12 out0)

  -- after the two copies
  two : (out1 out2 : List ℕ) → out1 ≡ over 0 h out0 → out2 ≡ over 12 text out1 → out2 ≡ h ++ (text ++ rest)
  two out1 out2 e f =
      let first : out1 ≡ h ++ drop 12 out0 =
      e ∙ over_after [] h out0 0 refl (omega arith) ∙ ap (λ (k : ℕ). h ++ drop k out0) lh in
      f ∙ ap (over 12 text) first ∙ over_after h text (drop 12 out0) 12 lh (omega (arith, length-drop 12 out0))
      ∙ ap (λ (k : ℕ). h ++ (text ++ drop k (drop 12 out0))) lt

  module _ (out1 out2 y out : List ℕ) (o : Option (List ℕ)) (tag : List ℕ)
      (e1 : out1 ≡ over 0 h out0) (e2 : out2 ≡ over 12 text out1) where
    middle : take text_bytes (drop 12 out2) ≡ text
    middle =
        ap (λ (l : List ℕ). take text_bytes (drop 12 l)) (two out1 out2 e1 e2)
        ∙ ap (take text_bytes) (drop_at h (text ++ rest) 12 lh) ∙ take_at text rest text_bytes lt

    put : length y ≡ text_bytes → put_mid 12 text_bytes out2 y ≡ h ++ (y ++ rest)
    put ly =
        ap (λ (l : List ℕ). put_mid 12 text_bytes l y) (two out1 out2 e1 e2)
        ∙ ap₂ (λ (a b : List ℕ). a ++ (y ++ b)) (take_at h (text ++ rest) 12 lh)
        (ap (drop text_bytes) (drop_at h (text ++ rest) 12 lh) ∙ drop_at text rest text_bytes lt)

    length_rest : length rest ≡ 16
    length_rest = omega (arith, length-drop text_bytes (drop 12 out0), length-drop 12 out0)

    sealed_is : y ≡ sealed_text key h (take text_bytes (drop 12 out2)) → y ≡ cipher key h text
    unfolding sealed_text within
    sealed_is e = e ∙ ap (sealed_text key h) middle ∙ rw (le-leb (length text) ((2 ^ 32 - 1) * 64) (omega arith)) refl

    is_sealed : o ≡ handed (sealed key h h (take text_bytes (drop 12 out2)))
        → o ≡ Some (tag_for key h h (cipher key h text))
    unfolding sealed within
    is_sealed e =
        e ∙ ap (λ (l : List ℕ). handed (sealed key h h l)) middle
        ∙ rw (le-leb (length text) ((2 ^ 32 - 1) * 64) (omega arith)) refl

    pub has_tag : o ≡ handed (sealed key h h (take text_bytes (drop 12 out2))) → IsSome o
    has_tag e = rw (is_sealed e) refl

    tag_is : o ≡ handed (sealed key h h (take text_bytes (drop 12 out2)))
        → o ≡ Some tag → tag ≡ tag_for key h h (cipher key h text)
    tag_is e t = ap (λ (x : Option (List ℕ)). unwrap_or x []) (sym t ∙ is_sealed e)

    pub length_put : y ≡ sealed_text key h (take text_bytes (drop 12 out2))
        → length (put_mid 12 text_bytes out2 y) ≡ block_bytes
    length_put e =
        let ly : length y ≡ text_bytes = ap length (sealed_is e) ∙ length_cipher key h text ∙ lt in
        ap length (put ly) ∙ omega (arith, length-append h (y ++ rest), length-append y rest, length_rest)

    pub length_tag_is : o ≡ handed (sealed key h h (take text_bytes (drop 12 out2))) → o ≡ Some tag → length tag ≡ 16
    length_tag_is e t = ap length (tag_is e t) ∙ length_tag key h h (cipher key h text)

    pub write_law : y ≡ sealed_text key h (take text_bytes (drop 12 out2))
        → o ≡ handed (sealed key h h (take text_bytes (drop 12 out2))) → o ≡ Some tag
        → out ≡ over (12 + text_bytes) tag (put_mid 12 text_bytes out2 y)
        → out ≡ h ++ (cipher key h text ++ tag_for key h h (cipher key h text))
    write_law e g t f =
        let ly : length y ≡ text_bytes = ap length (sealed_is e) ∙ length_cipher key h text ∙ lt in
        let lf : length (h ++ y) ≡ (12 + text_bytes) = omega (arith, length-append h y) in
        let end : length rest ≤ length tag = omega (arith, length_rest, length_tag_is g t) in
        f ∙ ap (over (12 + text_bytes) tag) (put ly ∙ sym (append_assoc h y rest))
        ∙ over_after (h ++ y) tag rest (12 + text_bytes) lf (omega (arith, length_rest, length_tag_is g t))
        ∙ append_assoc h y (tag ++ drop (length tag) rest)
        ∙ ap (λ (l : List ℕ). h ++ (y ++ l))
        (ap (λ (l : List ℕ). tag ++ l) (drop_of_length-le rest end) ∙ append-nil tag)
        ∙ ap₂ (λ (a b : List ℕ). h ++ (a ++ b)) (sealed_is e) (tag_is g t)

  pub is_block : (set i : ℕ) → h ≡ header set i
      → h ++ (cipher key h text ++ tag_for key h h (cipher key h text)) ≡ block key set i text
  unfolding block
  is_block set i e = ap (λ (l : List ℕ). l ++ (cipher key l text ++ tag_for key l l (cipher key l text))) e

-- ---- blocks one after the other

-- one block more
pub blocks_more : (key p out0 out b : List ℕ) (set i k m : ℕ) → text_bytes * (i + 1) ≤ length p
    → block_bytes * (i + 1) ≤ length out0 → length out ≡ length out0 → k ≡ text_bytes → m ≡ block_bytes
    → out ≡ over 0 (first_blocks key set p i) out0 → b ≡ block key set i (take k (drop (text_bytes * i) p))
    → put_mid (block_bytes * i) m out b ≡ over 0 (first_blocks key set p (i + 1)) out0
unfolding first_blocks part
blocks_more key p out0 out b set i k m lp lo same ek em e eb =
    let one : List ℕ = block key set i (text_at p i) in
    let is : b ≡ one = eb ∙ ap (λ (n : ℕ). block key set i (take n (drop (text_bytes * i) p))) ek in
    let long : length b ≡ block_bytes =
    ap length is ∙ length_block key set i (text_at p i) (length_part p (text_bytes * i) text_bytes (omega arith)) in
    let put : put_mid (block_bytes * i) m out b ≡ over (0 + block_bytes * i) one out =
    put_over (block_bytes * i) m out b (long ∙ sym em) (omega arith)
    ∙ ap₂ (λ (n : ℕ) (l : List ℕ). over n l out) (omega arith) is in
    rw (add-one i)
    (over_next (first_blocks key set p i) one out0 out (put_mid (block_bytes * i) m out b) 0 (block_bytes * i)
    (length_blocks key set p i (omega arith)) e put)

-- ---- a half

-- blocks of a front that holds them
first_blocks_take : (key p : List ℕ) (set m k : ℕ) → m ≤ length p → text_bytes * k ≤ m
    → first_blocks key set p k ≡ first_blocks key set (take m p) k
unfolding first_blocks
first_blocks_take key p set m zero h l = refl
first_blocks_take key p set m (suc k) h l =
    let front : text_at p k ≡ text_at (take m p) k =
    ap (part (text_bytes * k) text_bytes) (sym (take-append-drop m p))
    ∙ part_front (take m p) (drop m p) (text_bytes * k) text_bytes (omega (arith, length-take-le m p h)) in
    ap₂ (λ (a b : List ℕ). a ++ block key set k b) (first_blocks_take key p set m k h (omega arith)) front

module _ (key name : List ℕ) (party : ℕ) (s : Set) (named : length name ≡ 16) (p : Proper s) where
  pub half_law : (laid out0 out : List ℕ) (count : ℕ)
      → laid ≡ flat (fields name party s) ++ replicate (room_bytes - size s.terms.n) 0 → length laid ≡ room_bytes
      → count ≡ block_count s.terms.n
      → out ≡ over 0 (first_blocks key s.number laid count) out0 → out ≡ over 0 (half key name party s) out0
  unfolding half
  half_law laid out0 out count e size ec eo =
      eo
      ∙ ap (λ (l : List ℕ). over 0 l out0)
      (ap (first_blocks key s.number laid) ec
      ∙ first_blocks_take key laid s.number (text_bytes * block_count s.terms.n) (block_count s.terms.n)
      (omega (arith, few_blocks s p)) (omega arith)
      ∙ ap (λ (l : List ℕ). first_blocks key s.number l (block_count s.terms.n))
      (ap (take (text_bytes * block_count s.terms.n)) e ∙ take_laid name party s named p))
