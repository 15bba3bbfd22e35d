-- A message, padded, after its groups of four blocks. Assumes nothing.
use mathlib.Core.Path.{◌≡◌, sym, ap, ap₂, ◌∙◌}
use mathlib.Core.List.{List, ◌++◌, append_assoc}
use Prim.Native.Nat.{ℕ, ◌-◌, ◌%◌}
use native.Mathlib.Omega.{arith}
use lib.ListN.{length, take, drop, replicate, length-drop, take-append-drop}
use lib.Seq.{length-take-le, take_all}
use Rattle.base_algebra.specs.Mod.{Mod}
use Rattle.poly1305_limbs.specs.Limbs.{prime}
use Rattle.poly1305_mac.specs.Poly1305.{pieces, absorb_all, pad16}
use Rattle.poly1305_mac.specs.Laws.{padded_then}

module _ (m : List ℕ) where
  pub front_length : length m - length m % 64 ≡ length (take (length m - length m % 64) m)
  front_length = sym (length-take-le (length m - length m % 64) m (omega arith))

  pub front_whole : length (take (length m - length m % 64) m) % 64 ≡ 0
  front_whole = rw (sym front_length) (omega arith)

  whole16 : length (take (length m - length m % 64) m) % 16 ≡ 0
  whole16 = rw (sym front_length) (omega arith)

  same_pad : pad16 (drop (length m - length m % 64) m) ≡ pad16 m
  unfolding pad16
  same_pad = ap (λ (i : ℕ). replicate ((16 - i) % 16) 0) rest
    where
      rest : length (drop (length m - length m % 64) m) % 16 ≡ length m % 16
      rest = omega (arith, length-drop (length m - length m % 64) m)

  again : take (length m - length m % 64) m
      ++ (drop (length m - length m % 64) m ++ pad16 (drop (length m - length m % 64) m)) ≡ m ++ pad16 m
  again =
      sym (append_assoc (take (length m - length m % 64) m)
      (drop (length m - length m % 64) m) (pad16 (drop (length m - length m % 64) m)))
      ∙ ap₂ (λ (s t : List ℕ). s ++ t) (take-append-drop (length m - length m % 64) m) same_pad

  tail : take (length m - (length m - length m % 64)) (drop (length m - length m % 64) m)
      ≡ drop (length m - length m % 64) m
  tail =
      take_all (length m - (length m - length m % 64)) (drop (length m - length m % 64) m)
      (omega (arith, length-drop (length m - length m % 64) m))

  pub padded_after : (r a b : ℕ) {c : ℕ} → Mod prime b (absorb_all r a (pieces (take (length m - length m % 64) m)))
      → Mod prime c
      (absorb_all r b (pieces (take (length m - (length m - length m % 64)) (drop (length m - length m % 64) m)
      ++ pad16 (take (length m - (length m - length m % 64)) (drop (length m - length m % 64) m)))))
      → Mod prime c (absorb_all r a (pieces (m ++ pad16 m)))
  padded_after r a b h k =
      rw again at
      (padded_then r a b (take (length m - length m % 64) m)
      (drop (length m - length m % 64) m) whole16 h (rw tail at k))
