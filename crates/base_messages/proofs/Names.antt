-- Names as code makes them: tested byte by byte, and copied over zeros. Assumes nothing.
use mathlib.Core.Path.{◌≡◌, refl, sym, ap, ◌∙◌}
use mathlib.Core.Bool.{Bool, ◌&&◌, and-true, and_assoc}
use mathlib.Core.List.{List, [], ◌∷◌}
use Prim.Native.Nat.{ℕ, zero, suc, ◌+◌, ◌≤◌, ◌<◌}
use native.Mathlib.Numerals.{add-one}
use native.Mathlib.Omega.{arith}
use lib.Dec.{leb}
use lib.ListN.{length, take, get_or, replicate}
use lib.Seq.{take_all}
use Rattle.base_words.specs.List.{over, over_zeros}
use Rattle.base_messages.specs.Messages.{printable, padded}

-- one byte more
pub printable_more : (s : List ℕ) (i : ℕ) → i < length s
    → printable (take (i + 1) s) ≡ printable (take i s) && (leb 32 (get_or s i 0) && leb (get_or s i 0) 126)
unfolding printable
printable_more s i h = rw (add-one i) (go s i h)
  where
    go : (s : List ℕ) (i : ℕ) → i < length s
        → printable (take (suc i) s) ≡ printable (take i s) && (leb 32 (get_or s i 0) && leb (get_or s i 0) 126)
    go [] i h = absurd (omega arith)
    go (b ∷ s) zero h = ap (λ (t : Bool). leb 32 b && t) (and-true (leb b 126))
    go (b ∷ s) (suc i) h =
        let t : Bool = leb 32 (get_or s i 0) && leb (get_or s i 0) 126 in
        ap (λ (u : Bool). leb 32 b && (leb b 126 && u)) (go s i (omega arith))
        ∙ sym (and_assoc (leb 32 b) (leb b 126 && printable (take i s)) t
        ∙ ap (λ (u : Bool). leb 32 b && u) (and_assoc (leb b 126) (printable (take i s)) t))

pub printable_whole : (s : List ℕ) (i : ℕ) → i ≡ length s → printable (take i s) ≡ printable s
printable_whole s i h = ap printable (take_all i s (omega arith))

pub padded_over : (s : List ℕ) → length s ≤ 16 → over 0 s (replicate 16 0) ≡ padded s
unfolding padded
padded_over s h = over_zeros s (replicate 16 0) (length s) 16 refl h refl
