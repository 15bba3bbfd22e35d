-- What claim comparison (`proofs/Claims.antt`) knows of a key's seeds and corrections. And a node in bytes. Assumes
-- nothing.
use Rattle.std.specs.Prelude.{◌≡◌, refl, Bool, true, false, List, [], ◌∷◌, ℕ, zero, suc, ◌+◌, ◌*◌, ◌/◌, ◌%◌, ◌^◌, ◌<◌}
use Rattle.std.specs.Prelude.{length, get_or, take, eqb}
use Rattle.std.proofs.Common.{◌∙◌, ap, arith, length-append, length-take-le}
use Rattle.base_algebra.specs.Word.{add_lt}
use Rattle.base_algebra.specs.Bit.{only, odd}
use Rattle.base_words.specs.Bytes.{le32, bytes_of, word_at, get_or_bytes_of, take_bytes_of, word_at_bytes_of}
use Rattle.chacha20_rounds.specs.Rounds.{added, block_from, length_block_from}
use Rattle.chacha20_block.specs.ChaCha20.{block, start, length_block}
use Rattle.dcf_function.specs.Dcf as D
use Rattle.dcf_node.specs.Node.{child, node_nonce, length_nonce, opened_block, node}
use Rattle.dcf_node.specs.Node.{packed, unpacked, corrections}

-- ---- a child's seed has eight words, whatever was opened

block_long : (level : ℕ) (s : List ℕ) (counter : ℕ) → length (opened_block level s counter) ≡ 8 + length s
unfolding opened_block block start
block_long level s counter =
    let n : List ℕ = node_nonce level in
    let from_start = length_block_from (start s counter n) in
    let from_seed = length-append s (counter ∷ n) in
    from_start ∙ omega (arith, from_seed, length_nonce level)

pub seed_length : (i : ℕ) (s : List ℕ) (d : Bool) → length (node i s d).seed ≡ 8
unfolding node child
seed_length i s d = long _ (block_long _ s (only d 1))
  where
    long : (b : List ℕ) → length b ≡ 8 + length s → length (take 8 b) ≡ 8
    long b l = length-take-le 8 b (omega arith)

-- ---- a stored correction is the one that was made

pub unpack : (c : D.Correction (List ℕ)) → unpacked (packed c) ≡ c
unfolding packed unpacked odd only
unpack c =
    λ i.
    record { seed = c.seed; word = c.word; left = low c.left c.right i; right = high c.left c.right i }
  where
    low : (l r : Bool) → odd (only l 1 + 2 * only r 1) ≡ l
    low true true = refl
    low true false = refl
    low false true = refl
    low false false = refl

    high : (l r : Bool) → odd ((only l 1 + 2 * only r 1) / 2) ≡ r
    high true true = refl
    high true false = refl
    high false true = refl
    high false false = refl

pub length_corrections : (k0 k1 : List ℕ) (r n : ℕ) → length (corrections k0 k1 r n) ≡ n
unfolding corrections
length_corrections k0 k1 r zero = refl
length_corrections k0 k1 r (suc n) =
    length-append (corrections k0 k1 r n) _ ∙ omega (arith, length_corrections k0 k1 r n)

-- ---- a node in bytes: "Bytes 0 to 31 are the child seed, 32 to 35 its word v, the lowest bit of byte 36 its flag"
-- [SPEC 6.3 to 6.5]

pub blockword_lt : (s t : List ℕ) (i : ℕ) → get_or (added s t) i 0 < 2 ^ 32
unfolding added
blockword_lt [] t i = omega arith
blockword_lt (a ∷ s) [] i = omega arith
blockword_lt (a ∷ s) (b ∷ t) zero = add_lt a b
blockword_lt (a ∷ s) (b ∷ t) (suc i) = blockword_lt s t i

pub in_bytes : (i : ℕ) (s : List ℕ) (d : Bool) → length s ≡ 8
    → (let b : List ℕ = bytes_of (block s (only d 1) (node_nonce (i + 1))) in
    let k : D.Child (List ℕ) = node i s d in
    (bytes_of k.seed ≡ take 32 b) × (word_at b 32 ≡ k.word) × (odd (get_or b 36 0) ≡ k.flag))
unfolding node child opened_block block block_from odd le32
in_bytes i s d h = (take_bytes_of 8 w, word_at_bytes_of w 8 (omega (arith, long)) (blockword_lt _ _ 8), low_bit)
  where
    w : List ℕ
    w = block s (only d 1) (node_nonce (i + 1))

    long : length w ≡ 16
    long = length_block s (only d 1) (node_nonce (i + 1)) h (length_nonce (i + 1))

    low : (x : ℕ) → odd (x % 256) ≡ odd x
    low x = ap (λ (y : ℕ). eqb y 1) (let e : x % 256 % 2 ≡ x % 2 = omega arith in e)

    low_bit : odd (get_or (bytes_of w) 36 0) ≡ odd (get_or w 9 0)
    low_bit = ap odd (get_or_bytes_of w 36 (omega (arith, long))) ∙ low (get_or w 9 0)
