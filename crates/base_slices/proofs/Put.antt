-- What stands in a slice after a write to one of its parts. Assumes nothing.
use Rattle.std.proofs.Common.{◌≡◌, ℕ, ◌+◌, ◌≤◌, List, ◌++◌, length, take, drop, sym, ap, ◌∙◌, append_assoc, drop-drop}
use borrow.Rule.Slice.PartMut.{put_mid}
use Rattle.base_words.specs.List.{over, over_eq}

pub put_over : (a k : ℕ) (s q p : List ℕ) → q ≡ p → k ≡ length p → a + length p ≤ length s
    → put_mid a k s q ≡ over a p s
put_over a k s q p e f h =
    rw (e, f) (ap (λ (r : List ℕ). take a s ++ (p ++ r)) (drop-drop (length p) a s)
    ∙ sym (append_assoc (take a s) p (drop (a + length p) s)) ∙ sym (over_eq p s a h))
