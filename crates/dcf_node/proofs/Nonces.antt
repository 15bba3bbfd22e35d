-- Each level its own nonce (02, §3): that no two levels have the same, that a child is read off RFC 8439's block under
-- its level's, and what a key's corrections are (`specs/Nonce.antt` has the rest). Assumes nothing.
-- [SPEC 6.2 to 6.8, 7.3]
use Rattle.std.specs.Prelude.{◌≡◌, Bool, ℕ, ◌+◌, ◌^◌, ◌<◌, get_or, take}
use Rattle.std.proofs.Math.Path.{ap₂}
use Rattle.std.proofs.Common.{sym, ap, ◌∙◌, arith}
use mathlib.Core.List.{List, [], ◌∷◌}
use Rattle.base_algebra.specs.Bit.{only, odd}
use Rattle.base_words.specs.List.{tab}
use Rattle.base_words.specs.Bytes.{le32, bytes_of, word_at, words_at, word_at_bytes_of, Words, words_back}
use Rattle.base_words.specs.Xor.{xors}
use Rattle.chacha20_block.specs.ChaCha20.{block, block_bytes}
use Rattle.dcf_function.specs.Dcf as D
use Rattle.dcf_node.specs.Node.{node_nonce, opened_block, node, first, key_for, correction_at}
use Rattle.dcf_node.specs.Claims.{in_bytes}
use Rattle.dcf_node.proofs.Claims.{at_level}
use Rattle.dcf_node.specs.Nonce.{nonce_of, opened}

module _ (level : ℕ) (fits : level < 2 ^ 32) where
  -- the level is read off bytes 4 to 7
  pub level_in : word_at (bytes_of (node_nonce level)) 4 ≡ level
  unfolding node_nonce
  level_in = word_at_bytes_of (node_nonce level) 1 (omega arith) fits

  -- the three words as the cipher reads them from the nonce's bytes
  nonce_words : words_at 3 (nonce_of level) ≡ node_nonce level
  unfolding node_nonce words_at tab word_at bytes_of le32
  nonce_words = λ i. 0 ∷ level_in i ∷ 0 ∷ []

-- "opens every tree level under a separate nonce"
pub separate : (a b : ℕ) → a < 2 ^ 32 → b < 2 ^ 32 → bytes_of (node_nonce a) ≡ bytes_of (node_nonce b) → a ≡ b
separate a b ha hb e = sym (level_in a ha) ∙ ap (λ (n : List ℕ). word_at n 4) e ∙ level_in b hb

-- a child is read off RFC 8439's block of a key of 32 bytes and this nonce of 12. That the seeds which are opened have
-- eight words, if the key seeds do, is Bounds.`making_eight`, `walk_eight`
module _ (i : ℕ) (level : i < 32) (seed : List ℕ) (long : Words 8 seed) (side : Bool) where
  abbrev counter : ℕ
  counter = only side 1

  rfc_block : bytes_of (block seed counter (node_nonce (i + 1)))
      ≡ block_bytes (bytes_of seed) counter (nonce_of (i + 1))
  unfolding block_bytes
  rfc_block =
      ap₂ (λ (k n : List ℕ). bytes_of (block k counter n)) (sym (words_back 8 seed long))
      (sym (nonce_words (i + 1) (omega arith)))

  pub opened_bytes :
      (let b : List ℕ = block_bytes (bytes_of seed) counter (nonce_of (i + 1)) in
      let k : D.Child (List ℕ) = opened i seed side in
      (bytes_of k.seed ≡ take 32 b) × (word_at b 32 ≡ k.word) × (odd (get_or b 36 0) ≡ k.flag))
  unfolding node opened_block
  opened_bytes = rw (sym rfc_block) (in_bytes i seed side long.long)

-- a key has what 32 levels gave
module _ (k0 k1 : List ℕ) (point : ℕ) where
  abbrev c : ℕ → D.Correction (List ℕ)
  c i = D.key_correction xors node first k0 k1 (D.bits 32 point) i

  pub key_corrections : (i : ℕ) → i < 32 → correction_at (key_for k0 k1 point).corrections i ≡ c i
  unfolding key_for
  key_corrections i h = at_level k0 k1 point 32 i h
