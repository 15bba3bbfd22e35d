-- A key in the ranges of its fields, whatever the key seeds and the point: 32 corrections, each of a seed of eight
-- words, a word and two flags, and a final word. And the seeds that are opened, in key making and in walks, have eight
-- words. What rests on which correction stands where is in `proofs/Bounds.antt`. Assumes nothing.
use Rattle.std.specs.Prelude.{◌≡◌, refl, Bool, true, false, not, length, take}
use Rattle.std.proofs.Common.{sym, ap, ◌∙◌, arith}
use mathlib.Core.List.{List, [], ◌∷◌, zip_with}
use Prim.Native.Nat.{ℕ, zero, suc, ◌+◌, ◌*◌, ◌^◌, ◌<◌, ◌≤◌}
use Rattle.std.proofs.Math.Nat.{suc_inj}
use Rattle.std.proofs.lemmas.Nat.{xor_lt}
use Rattle.base_algebra.specs.Word.{sub, neg_lt, add_lt, sub_lt}
use Rattle.base_algebra.specs.Bit.{only, bit_le}
use Rattle.base_words.specs.Bytes.{Below, Words}
use Rattle.base_words.specs.Xor.{xors}
use Rattle.chacha20_rounds.specs.Rounds.{block_from}
use Rattle.chacha20_block.specs.ChaCha20.{block}
use Rattle.dcf_function.specs.Dcf as D
use Rattle.dcf_node.specs.declared.Correction.{Correction}
use Rattle.dcf_node.specs.declared.Key.{Key}
use Rattle.dcf_node.specs.Node.{child, node_nonce, opened_block, node, first, packed, key_for}
use Rattle.dcf_node.specs.Node.{correction_at, walk_of}
use Rattle.dcf_node.specs.Claims.{seed_length, length_corrections, blockword_lt}

pub take_below : (n : ℕ) (l : List ℕ) → Below l → Below (take n l)
take_below zero l h i = omega arith
take_below (suc n) [] h i = omega arith
take_below (suc n) (x ∷ l) h zero = h zero
take_below (suc n) (x ∷ l) h (suc i) = take_below n l (λ j. h (suc j)) i

pub block_below : (key : List ℕ) (counter : ℕ) (nonce : List ℕ) → Below (block key counter nonce)
unfolding block block_from
block_below key counter nonce i = blockword_lt _ _ i

-- ---- the xor of two children's seeds

seed_below : (i : ℕ) (s : List ℕ) (d : Bool) → Below (node i s d).seed
unfolding node child opened_block
seed_below i s d = take_below 8 (opened_block _ s (only d 1)) (block_below s (only d 1) (node_nonce _))

length_xors : (a b : List ℕ) → length a ≡ length b → length (xors a b) ≡ length b
unfolding xors zip_with
length_xors [] [] h = refl
length_xors [] (y ∷ b) h = absurd (omega arith)
length_xors (x ∷ a) [] h = absurd (omega arith)
length_xors (x ∷ a) (y ∷ b) h = ap suc (length_xors a b (suc_inj h))

xors_below : (a b : List ℕ) → Below a → Below b → Below (xors a b)
unfolding xors zip_with
xors_below [] b h k i = omega arith
xors_below (x ∷ a) [] h k i = omega arith
xors_below (x ∷ a) (y ∷ b) h k zero = xor_lt 32 x y (h zero) (k zero)
xors_below (x ∷ a) (y ∷ b) h k (suc i) = xors_below a b (λ j. h (suc j)) (λ j. k (suc j)) i

-- ---- seeds of eight words

child_eight : (i : ℕ) (s : List ℕ) (d : Bool) → Words 8 (node i s d).seed
child_eight i s d = record { long = seed_length i s d; below = seed_below i s d }

xors_eight : (a b : List ℕ) → Words 8 a → Words 8 b → Words 8 (xors a b)
xors_eight a b ha hb =
    record {
      long = length_xors a b (ha.long ∙ sym hb.long) ∙ hb.long;
      below = xors_below a b ha.below hb.below;
    }

pub correction_eight : (i : ℕ) (b : Bool) (g : D.Making (List ℕ))
    → Words 8 (D.level_correction xors node first i b g).seed
unfolding D.level_correction D.correction
correction_eight i b g = xors_eight _ _ (child_eight i g.s0 (not b)) (child_eight i g.s1 (not b))

next_eight : (c : D.Correction (List ℕ)) (t : Bool) (k : D.Child (List ℕ)) → Words 8 c.seed → Words 8 k.seed
    → Words 8 (D.next_seed xors c t k)
unfolding D.next_seed D.corrected
next_eight c true k hc hk = xors_eight k.seed c.seed hk hc
next_eight c false k hc hk = hk

-- ---- a correction

pub record Fits (c : Correction) : Type 0 where
  pub seed_fits : Words 8 c.seed
  pub word_below : c.word < 2 ^ 32
  pub flags_below : c.flags < 4

pub level_fits : (i : ℕ) (b : Bool) (g : D.Making (List ℕ)) → Fits (packed (D.level_correction xors node first i b g))
unfolding packed D.level_correction D.correction
level_fits i b g =
    record {
      seed_fits = correction_eight i b g;
      word_below = add_lt _ _;
      flags_below = two _ _;
    }
  where
    two : (l r : Bool) → only l 1 + 2 * only r 1 < 4
    two l r = omega (arith, bit_le l, bit_le r)

-- ---- a key

signed_lt : (t : Bool) (a b : ℕ) → D.by_sign t (sub a b) < 2 ^ 32
unfolding D.by_sign
signed_lt true a b = neg_lt (sub a b)
signed_lt false a b = sub_lt a b

pub key_long : (k0 k1 : List ℕ) (r : ℕ) → length (key_for k0 k1 r).corrections ≡ 32
unfolding key_for
key_long k0 k1 r = length_corrections k0 k1 r 32

pub last_below : (k0 k1 : List ℕ) (r : ℕ) → (key_for k0 k1 r).last < 2 ^ 32
unfolding key_for D.final_word D.last_word
last_below k0 k1 r = signed_lt _ _ _

-- ---- the seeds that are opened, where the key seeds have eight words

module _ (k0 k1 : List ℕ) (point : ℕ) where
  pub making_eight : Words 8 k0 → Words 8 k1 → (i : ℕ)
      → (let g : D.Making (List ℕ) = D.making xors node first k0 k1 (D.bits 32 point) i in
      Words 8 g.s0 × Words 8 g.s1)
  unfolding D.making D.next_making D.kept
  making_eight h0 h1 zero = (h0, h1)
  making_eight h0 h1 (suc i) = (
    next_eight _ _ _ (correction_eight i _ _) (child_eight i _ _),
    next_eight _ _ _ (correction_eight i _ _) (child_eight i _ _),
  )

pub walk_eight : (party : ℕ) (key : Key) (seed : List ℕ) (u : ℕ) → Words 8 seed
    → ((i : ℕ) → i < 32 → Words 8 (correction_at key.corrections i).seed) → (i : ℕ) → i ≤ 32
    → Words 8 (walk_of party key seed u i).seed
unfolding walk_of D.walk D.next_walk D.taken
walk_eight party key seed u h fits zero l = h
walk_eight party key seed u h fits (suc i) l =
    next_eight _ _ _ (fits i (omega arith)) (child_eight i _ _)
