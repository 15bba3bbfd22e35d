-- What the contracts cite. Assumes nothing.
use Rattle.std.specs.Prelude.{ℕ, ◌+◌, ◌≤◌, ◌<◌, min, ◌≡◌, List, length, get_or}
use Rattle.test_script.specs.declared.Span.{Span}

-- p runs from a position in a text up to the first mark there, or up to the end
pub record NextPart (text : List ℕ) (from mark : ℕ) (p : Span) : Type 0 where
  pub starts : p.start ≡ min from (length text)
  pub ordered : p.start ≤ p.end
  pub within : p.end ≤ length text
  pub follows : p.next ≡ p.end + 1
  pub unmarked : (k : ℕ) → k < p.end → p.start ≤ k → get_or text k 0 ≡ mark → ⊥
  pub marked : p.end < length text → get_or text p.end 0 ≡ mark
