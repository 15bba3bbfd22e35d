-- Claim comparison at ChaCha20's opening and 32 levels: for every two key seeds, every point r and every u, the two
-- values sum modulo 2^32 to [u < r]. Assumes nothing.
use Rattle.std.specs.Prelude.{◌≡◌, refl, Bool, true, false, List, [], ◌∷◌, ◌++◌, ℕ, zero, suc, ◌^◌, ◌<◌}
use Rattle.std.specs.Prelude.{length, get_or, ltb}
use Rattle.std.proofs.Common.{sym, ◌∙◌, ap, ap₂, arith, ltb-true, ltb-false}
use Rattle.std.proofs.Math.ListN.{get_or-append}
use Rattle.std.proofs.lemmas.List.{get_or_at}
use Rattle.base_algebra.specs.Word.{add}
use Rattle.base_algebra.specs.Bit.{odd, less}
use Rattle.base_words.specs.Xor.{xors, xors_back, xors_other}
use Rattle.dcf_function.specs.Dcf as D
use Rattle.dcf_function.specs.Comparison.{all_bits, walk_ext}
use Rattle.dcf_function.proofs.Comparison.{comparison}
use Rattle.dcf_node.specs.Node.{node, first}
use Rattle.dcf_node.specs.Node.{packed, unpacked, corrections, key_for, none, correction_at, value_at}
use Rattle.dcf_node.specs.Claims.{seed_length, unpack, length_corrections}

-- ---- the xor of two children's seeds undoes itself

back0 : (i : ℕ) (a b : List ℕ) (d : Bool)
    → xors (node i a d).seed (xors (node i a d).seed (node i b d).seed) ≡ (node i b d).seed
back0 i a b d = xors_back (node i a d).seed (node i b d).seed (seed_length i a d ∙ sym (seed_length i b d))

back1 : (i : ℕ) (a b : List ℕ) (d : Bool)
    → xors (node i b d).seed (xors (node i a d).seed (node i b d).seed) ≡ (node i a d).seed
back1 i a b d = xors_other (node i a d).seed (node i b d).seed (seed_length i a d ∙ sym (seed_length i b d))

-- ---- a key's corrections

-- the correction of level i + 1 stands at i
pub at_level : (k0 k1 : List ℕ) (r n i : ℕ) → i < n
    → correction_at (corrections k0 k1 r n) i ≡ D.key_correction xors node first k0 k1 (D.bits 32 r) i
unfolding corrections correction_at
at_level k0 k1 r zero i h = absurd (omega arith)
at_level k0 k1 r (suc n) i h = go (ltb i n) refl (at_level k0 k1 r n i)
  where
    go : (b : Bool) → ltb i n ≡ b
        → (i < n
        → unpacked (get_or (corrections k0 k1 r n) i none) ≡ D.key_correction xors node first k0 k1 (D.bits 32 r) i)
        → unpacked (get_or (corrections k0 k1 r n
        ++ (packed (D.key_correction xors node first k0 k1 (D.bits 32 r) n) ∷ [])) i none)
        ≡ D.key_correction xors node first k0 k1 (D.bits 32 r) i
    go true e before =
        let l : i < length (corrections k0 k1 r n) = omega (arith, ltb-true i n e, length_corrections k0 k1 r n) in
        ap unpacked (get_or-append (corrections k0 k1 r n) _ none i l) ∙ before (ltb-true i n e)
    go false e before =
        let j : i ≡ n = omega (arith, ltb-false i n e) in
        rw j (ap unpacked (get_or_at (corrections k0 k1 r n) _ [] none n (length_corrections k0 k1 r n)) ∙ unpack _)

-- ---- the claim

pub shares : (k0 k1 : List ℕ) (r u : ℕ) → r < 2 ^ 32 → u < 2 ^ 32
    → add (value_at 0 (key_for k0 k1 r) k0 u) (value_at 1 (key_for k0 k1 r) k1 u) ≡ less u r
unfolding value_at key_for odd D.value
shares k0 k1 r u hr hu =
    rw (
      walk_ext xors node first (correction_at (corrections k0 k1 r 32))
          (D.key_correction xors node first k0 k1 (D.bits 32 r)) (D.bits 32 u) k0 false 32 (at_level k0 k1 r 32),
      walk_ext xors node first (correction_at (corrections k0 k1 r 32))
          (D.key_correction xors node first k0 k1 (D.bits 32 r)) (D.bits 32 u) k1 true 32 (at_level k0 k1 r 32),
    )
    (comparison xors node first back0 back1 k0 k1 (D.bits 32 r) (D.bits 32 u) 32
    ∙ ap₂ less (all_bits 32 u hu) (all_bits 32 r hr))
