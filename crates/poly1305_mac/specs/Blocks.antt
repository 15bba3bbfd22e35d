-- What the loop over a message has absorbed. Assumes nothing.
use Rattle.std.specs.Prelude.{List, ℕ, zero, suc, ◌+◌, ◌*◌}
use Rattle.base_words.specs.Numbers.{number}
use Rattle.poly1305_mac.specs.Poly1305.{piece}

-- the accumulator a after the first n blocks of m, with t added to each, before the remainder
unfoldable pub unreduced : ℕ → ℕ → ℕ → List ℕ → ℕ → ℕ
unreduced r t a m zero = a
unreduced r t a m (suc n) = (unreduced r t a m n + (number (piece m n) + t)) * r
