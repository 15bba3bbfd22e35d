-- Each level its own nonce (02, §3): the nonce in bytes, and that in every key and every walk the root's children are
-- of level 1, and so on to 32. That no two levels have the same, and that a child is read off RFC 8439's block under
-- it, stands in `proofs/Nonces.antt`. Assumes nothing. [SPEC 6.2 to 6.8, 7.2, 7.3, 8.1, 8.3]
use Rattle.std.specs.Prelude.{◌≡◌, Bool, true, false, ℕ, suc, ◌+◌, replicate}
use Rattle.std.proofs.Math.Path.{refl}
use mathlib.Core.List.{List, ◌++◌}
use Rattle.base_algebra.specs.Bit.{only, odd}
use Rattle.base_words.specs.Bytes.{le32, bytes_of}
use Rattle.base_words.specs.Xor.{xors}
use Rattle.chacha20_block.specs.ChaCha20.{block}
use Rattle.dcf_function.specs.Dcf as D
use Rattle.dcf_node.specs.declared.Key.{Key}
use Rattle.dcf_node.specs.Node.{child, node_nonce, opened_block, node, first, key_for, correction_at}
use Rattle.dcf_node.specs.Node.{walk_of, value_at}

-- ---- the nonce

-- "nonce bytes 4 to 7 hold the level as a little-endian word", and the others are zero
abbrev pub nonce_of : ℕ → List ℕ
nonce_of level = replicate 4 0 ++ (le32 level ++ replicate 4 0)

pub nonce_bytes : (level : ℕ) → bytes_of (node_nonce level) ≡ nonce_of level
unfolding node_nonce bytes_of le32
nonce_bytes level = refl

-- ---- a child

-- that of a side, of level i + 1: "The counters stay 0 and 1"
abbrev pub opened : ℕ → List ℕ → D.Opened (List ℕ)
opened i seed side = child (block seed (only side 1) (node_nonce (i + 1)))

-- ---- "Key making and key walking both follow"

-- key making begins at both roots; bit i of the point, from the highest, opens both parties' seeds into children of
-- level i + 1, for the correction and for what is kept; and a key has what 32 levels gave
module _ (k0 k1 : List ℕ) (point : ℕ) where
  abbrev g : ℕ → D.Making (List ℕ)
  g i = D.making xors node first k0 k1 (D.bits 32 point) i

  abbrev c : ℕ → D.Correction (List ℕ)
  c i = D.key_correction xors node first k0 k1 (D.bits 32 point) i

  pub making_root : g 0 ≡ record { s0 = k0; s1 = k1; t0 = false; t1 = true; v = 0 }
  unfolding D.making
  making_root = refl

  pub correction_level : (i : ℕ)
      → c i ≡ D.correction xors (D.bits 32 point i) (g i) (opened i (g i).s0) (opened i (g i).s1)
  unfolding D.key_correction D.level_correction node opened_block
  correction_level i = refl

  pub making_level : (i : ℕ)
      → g (suc i) ≡ D.kept xors (c i) (D.bits 32 point i) (g i) (opened i (g i).s0) (opened i (g i).s1)
  unfolding D.making D.next_making D.key_correction D.level_correction node opened_block
  making_level i = refl

  pub key_last : (key_for k0 k1 point).last ≡ D.last_word xors node first (g 32)
  unfolding key_for D.final_word
  key_last = refl

-- a walk begins at the party's root; bit i of u opens its seed into a child of level i + 1; and a value is what 32
-- levels gave
module _ (party : ℕ) (key : Key) (seed : List ℕ) (u : ℕ) where
  abbrev w : ℕ → D.Walk (List ℕ)
  w i = walk_of party key seed u i

  pub walk_root : w 0 ≡ record { seed = seed; flag = odd party; total = 0 }
  unfolding walk_of D.walk
  walk_root = refl

  pub walk_level : (i : ℕ)
      → (let side : Bool = D.bits 32 u i in
      w (suc i) ≡ D.taken xors (correction_at key.corrections i) side (opened i (w i).seed side) (w i))
  unfolding walk_of D.walk D.next_walk node opened_block
  walk_level i = refl

  pub walk_value : value_at party key seed u ≡ D.by_sign (odd party) (D.total xors node first key.last (w 32))
  unfolding value_at walk_of D.value
  walk_value = refl
