-- A level of a walk, from what the code's calls answer, and its end. Assumes nothing.
use mathlib.Core.Path.{◌≡◌, refl, sym, ◌∙◌, ap}
use mathlib.Core.Bool.{Bool}
use mathlib.Core.List.{List}
use Prim.Native.Nat.{ℕ, ◌+◌, ◌≤◌}
use native.Mathlib.Omega.{arith}
use native.Mathlib.Numerals.{add-one}
use lib.ListN.{get_or}
use Rattle.base_algebra.specs.Bit.{only, odd, odd_only}
use Rattle.base_words.specs.Xor.{xors}
use Rattle.chacha20_rounds.specs.Rounds.{block_from}
use Rattle.chacha20_block.specs.ChaCha20.{start, block}
use Rattle.dcf_function.specs.Dcf as D
use Rattle.dcf_function.specs.Dcf.{by_sign, bits, taken}
use Rattle.dcf_node.specs.Node.{child, node_nonce, opened_block, node, first}
use Rattle.dcf_node.specs.Node.{none, unpacked, correction_at, as_walk, walk_of, value_at}
use Rattle.dcf_node.specs.declared.Correction.{Correction}
use Rattle.dcf_node.specs.declared.Key.{Key}
use Rattle.dcf_node.specs.declared.Walk.{Walk}

-- a block under a level's nonce n
pub opened : (level : ℕ) (n seed b : List ℕ) (d : ℕ) → n ≡ node_nonce level → b ≡ block seed d n
    → b ≡ opened_block level seed d
unfolding opened_block
opened level n seed b d en eb = eb ∙ ap (block seed d) en

-- a level, by a block made from its starting state under that nonce
pub from_start : (c : D.Correction (List ℕ)) (e : Bool) (w x : D.Walk (List ℕ)) (level : ℕ) (n seed s b : List ℕ)
    → (d : ℕ) → n ≡ node_nonce level → s ≡ start seed d n → b ≡ block_from s → x ≡ taken xors c e (child b) w
    → x ≡ taken xors c e (child (opened_block level seed d)) w
unfolding block
from_start c e w x level n seed s b d en es eb ex =
    ex ∙ ap (λ (k : List ℕ). taken xors c e (child k) w) (opened level n seed b d en (eb ∙ ap block_from es))

module _ (p : ℕ) (key : Key) (seed : List ℕ) (u : ℕ) where
  pub starts : as_walk (record { seed = seed; flag = p; total = 0 }) ≡ walk_of p key seed u 0
  unfolding as_walk walk_of D.walk
  starts = refl

  pub one_more : (i d : ℕ) (w x : Walk) (c : Correction) (b : List ℕ)
      → as_walk w ≡ walk_of p key seed u i → c ≡ get_or key.corrections i none
      → d ≡ only (bits 32 u i) 1 → b ≡ opened_block (i + 1) w.seed d
      → as_walk x ≡ taken xors (unpacked c) (odd d) (child b) (as_walk w) → as_walk x ≡ walk_of p key seed u (i + 1)
  unfolding walk_of D.walk D.next_walk correction_at node as_walk
  one_more i d w x c b ew ec ed eb ex =
      let bit : odd d ≡ bits 32 u i = ap odd ed ∙ odd_only (bits 32 u i) in
      let at : child b ≡ node i w.seed (bits 32 u i) = ap child (eb ∙ ap (opened_block (i + 1) w.seed) ed) in
      let stored : D.Correction (List ℕ) = correction_at key.corrections i in
      ex ∙ (λ j. taken xors (unpacked (ec j)) (bit j) (at j) (as_walk w))
      ∙ ap (λ (y : D.Walk (List ℕ)). taken xors stored (bits 32 u i) (node i y.seed (bits 32 u i)) y) ew
      ∙ ap (walk_of p key seed u) (sym (add-one i))

  pub ends : (i r : ℕ) (w : Walk) → i ≤ 32 → 32 ≤ i → as_walk w ≡ walk_of p key seed u i
      → r ≡ by_sign (odd p) (D.total xors node first key.last (as_walk w)) → r ≡ value_at p key seed u
  unfolding walk_of value_at D.value
  ends i r w h k ew er =
      let e : i ≡ 32 = omega arith in
      er ∙ ap (λ (y : D.Walk (List ℕ)). by_sign (odd p) (D.total xors node first key.last y)) (rw e at ew)
