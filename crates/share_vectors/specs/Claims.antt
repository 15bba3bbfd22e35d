-- That the formulas are equal to the papers'; and, for claim join law (`proofs/Claims.antt`), that two answers sum to
-- what the ideal gate gives, which is whether the point is within the width. Assumes nothing.
use Rattle.std.specs.Prelude.{◌≡◌, List, [], ◌∷◌, pos, neg_ℤ}
use Rattle.std.proofs.Math.Path.{refl, ap}
use Rattle.std.proofs.Common.{◌∙◌, arith}
use Prim.Native.Nat.{ℕ, ◌+◌, ◌^◌, ◌<◌}
use Rattle.base_algebra.specs.Ring.{ring}
use Rattle.base_algebra.specs.Word.{words, add, sub, neg, mul, ◌≈◌, add_lt, sub_lt, same_word}
use Rattle.base_algebra.specs.Bit.{only, less, odd}
use Rattle.dcf_function.specs.Interval.{interval}
use Rattle.dcf_node.specs.Node.{key_for, value_at}
use Rattle.dcf_node.proofs.Claims.{shares}
use Rattle.dcf_node.specs.declared.Key.{Key}
use Rattle.measure_table.specs.declared.Terms.{Terms}
use Rattle.measure_table.specs.Measure.{sign, ordinary_width}
use Rattle.measure_table.specs.Measure.{k_word}
use Rattle.measure_table.specs.Laws.{sign_word_plain, sign_word_close}
use Rattle.share_vectors.specs.Share.{other_r, box_word, answer, ideal_gate}

-- ---- the papers' own formulas. With sign 1 they are 01's ..

module _ (terms : Terms) (mark : ℕ) (plain : sign terms mark ≡ pos 1) where
  -- "its word: k × (share) + own + its r" [SPEC 17.4]
  pub word_plain : (s own r : ℕ) → box_word terms mark s own r ≡ add (add (mul (k_word terms) s) own) r
  unfolding box_word
  word_plain s own r =
      ap (λ (g : ℕ). add (mul g (add (mul (k_word terms) s) own)) r) (sign_word_plain terms mark plain)
      ∙ same_word (once (k_word terms) s own r) (add_lt _ _) (add_lt _ _)
    where
      once : (k s o r : ℕ) → add (mul 1 (add (mul k s) o)) r ≈ add (add (mul k s) o) r
      once k s o r = ring (k ∷ s ∷ o ∷ r ∷ []) (search words depth 40 fits 5000) refl

  -- "r1 = r - T - r0" [SPEC 5.8]
  pub other_r_plain : (r t r0 : ℕ) → other_r terms mark r t r0 ≡ sub (sub r t) r0
  unfolding other_r
  other_r_plain r t r0 =
      ap (λ (g : ℕ). sub (sub r (mul g t)) r0) (sign_word_plain terms mark plain)
      ∙ same_word (once r t r0) (sub_lt _ _) (sub_lt _ _)
    where
      once : (r t r0 : ℕ) → sub (sub r (mul 1 t)) r0 ≈ sub (sub r t) r0
      once r t r0 = ring (r ∷ t ∷ r0 ∷ []) (search words depth 40 fits 5000) refl

-- .. and with sign -1 those of 02, §2

module _ (terms : Terms) (mark : ℕ) (close : sign terms mark ≡ neg_ℤ (pos 1)) where
  -- "a box's word is its r minus (k × (share) + own)" [SPEC 17.4]
  pub word_close : (s own r : ℕ) → box_word terms mark s own r ≡ sub r (add (mul (k_word terms) s) own)
  unfolding box_word
  word_close s own r =
      ap (λ (g : ℕ). add (mul g (add (mul (k_word terms) s) own)) r) (sign_word_close terms mark close)
      ∙ same_word (turned (k_word terms) s own r) (add_lt _ _) (sub_lt _ _)
    where
      turned : (k s o r : ℕ) → add (mul (neg 1) (add (mul k s) o)) r ≈ sub r (add (mul k s) o)
      turned k s o r = ring (k ∷ s ∷ o ∷ r ∷ []) (search words depth 40 fits 5000) refl

  -- "r1 = r + T - r0" [SPEC 5.8]
  pub other_r_close : (r t r0 : ℕ) → other_r terms mark r t r0 ≡ sub (add r t) r0
  unfolding other_r
  other_r_close r t r0 =
      ap (λ (g : ℕ). sub (sub r (mul g t)) r0) (sign_word_close terms mark close)
      ∙ same_word (turned r t r0) (sub_lt _ _) (sub_lt _ _)
    where
      turned : (r t r0 : ℕ) → sub (sub r (mul (neg 1) t)) r0 ≈ sub (add r t) r0
      turned r t r0 = ring (r ∷ t ∷ r0 ∷ []) (search words depth 40 fits 5000) refl

half : (z : ℕ) → sub z (2 ^ 31) ≡ add z (2 ^ 31)
unfolding add sub
half z = omega arith

-- "its answer is value at Z + 2^31 minus value at Z, and party 1 adds 1 if Z < 2^31" [SPEC 18.3, 18.4]
pub answer_ordinary : (party : ℕ) (key : Key) (seed : List ℕ) (z : ℕ)
    → answer ordinary_width party key seed z
    ≡ add
    (sub (value_at party key seed (add z (2 ^ 31))) (value_at party key seed z))
    (only (odd party) (less z (2 ^ 31)))
unfolding answer add
answer_ordinary party key seed z = rw (half z) refl

-- ---- the gate

-- Over any width, any key seeds, any point r and any z, the two answers sum to what the ideal gate gives ..
pub ideal : (w : ℕ) (k0 k1 : List ℕ) (r z : ℕ) → r < 2 ^ 32 → z < 2 ^ 32
    → add (answer w 0 (key_for k0 k1 r) k0 z) (answer w 1 (key_for k0 k1 r) k1 z) ≡ ideal_gate w r z
unfolding answer ideal_gate only odd
ideal w k0 k1 r z hr hz =
    let key = key_for k0 k1 r in
    let end : ℕ = add w 1 in
    let u : ℕ = sub z end in
    same_word
    (apart (value_at 0 key k0 u) (value_at 0 key k0 z) (value_at 1 key k1 u) (value_at 1 key k1 z) (less z end))
    (add_lt _ _)
    (add_lt _ _)
    ∙ rw (shares k0 k1 r u hr (sub_lt z end), shares k0 k1 r z hr hz) refl
  where
    apart : (a0 b0 a1 b1 c : ℕ) → add (add (sub a0 b0) 0) (add (sub a1 b1) c) ≈ add (sub (add a0 a1) (add b0 b1)) c
    apart a0 b0 a1 b1 c = ring (a0 ∷ b0 ∷ a1 ∷ b1 ∷ c ∷ []) (search words depth 40 fits 5000) refl

next : (w : ℕ) → w + 1 < 2 ^ 32 → add w 1 ≡ w + 1
unfolding add
next w h = omega arith

-- .. which is whether z - r lies from 0 to the width; at the ordinary one, below 2^31: the sign test
pub width_test : (w r z : ℕ) → w + 1 < 2 ^ 32 → r < 2 ^ 32 → z < 2 ^ 32 → ideal_gate w r z ≡ less (sub z r) (w + 1)
unfolding ideal_gate
width_test w r z hw hr hz = rw (next w hw) (interval r z w hr hz hw)

pub sign_test : (r z : ℕ) → r < 2 ^ 32 → z < 2 ^ 32 → ideal_gate ordinary_width r z ≡ less (sub z r) (2 ^ 31)
sign_test r z hr hz = width_test ordinary_width r z (omega arith) hr hz
