-- The corrections of a key in the ranges of their fields, whatever the key seeds and the point, and their seeds of
-- eight words. Assumes nothing.
use Rattle.std.specs.Prelude.{◌≡◌, refl, Bool, true, false, ltb, length, get_or}
use Rattle.std.proofs.Common.{arith, ltb-true, ltb-false}
use mathlib.Core.List.{List, [], ◌∷◌, ◌++◌}
use Prim.Native.Nat.{ℕ, zero, suc, ◌<◌}
use Rattle.std.proofs.Math.ListN.{get_or-append}
use Rattle.std.proofs.lemmas.List.{get_or_at}
use Rattle.base_words.specs.Bytes.{Words}
use Rattle.base_words.specs.Xor.{xors}
use Rattle.dcf_function.specs.Dcf as D
use Rattle.dcf_node.specs.declared.Correction.{Correction}
use Rattle.dcf_node.specs.Node.{node, first, packed, corrections, key_for}
use Rattle.dcf_node.specs.Node.{correction_at}
use Rattle.dcf_node.specs.Claims.{length_corrections}
use Rattle.dcf_node.proofs.Claims.{at_level}
use Rattle.dcf_node.specs.Bounds.{Fits, level_fits, correction_eight}

corrections_fit : (k0 k1 : List ℕ) (r n : ℕ) (d : Correction) (i : ℕ) → i < n
    → Fits (get_or (corrections k0 k1 r n) i d)
unfolding corrections D.key_correction
corrections_fit k0 k1 r zero d i h = absurd (omega arith)
corrections_fit k0 k1 r (suc n) d i h = go (ltb i n) refl (corrections_fit k0 k1 r n d i)
  where
    go : (b : Bool) → ltb i n ≡ b → (i < n → Fits (get_or (corrections k0 k1 r n) i d))
        → Fits (get_or (corrections k0 k1 r n
        ++ (packed (D.key_correction xors node first k0 k1 (D.bits 32 r) n) ∷ [])) i d)
    go true e before =
        let l : i < length (corrections k0 k1 r n) = omega (arith, ltb-true i n e, length_corrections k0 k1 r n) in
        rw (get_or-append (corrections k0 k1 r n) _ d i l) (before (ltb-true i n e))
    go false e before =
        let j : i ≡ n = omega (arith, ltb-false i n e) in
        rw (j, get_or_at (corrections k0 k1 r n) _ [] d n (length_corrections k0 k1 r n)) (level_fits n _ _)

pub key_fits : (k0 k1 : List ℕ) (r : ℕ) (d : Correction) (i : ℕ) → i < 32
    → Fits (get_or (key_for k0 k1 r).corrections i d)
unfolding key_for
key_fits k0 k1 r d i h = corrections_fit k0 k1 r 32 d i h

module _ (k0 k1 : List ℕ) (point : ℕ) where
  pub key_eight : (i : ℕ) → i < 32 → Words 8 (correction_at (key_for k0 k1 point).corrections i).seed
  unfolding key_for D.key_correction
  key_eight i h = rw (at_level k0 k1 point 32 i h) (correction_eight i _ _)
