use mathlib.Core.Path.{ap₂}
use mathlib.Core.List.{List, ◌∷◌, ◌++◌}
use Prim.Native.Nat.{ℕ}
use Rattle.base_words.specs.Spelt.{all}
use Rattle.chacha20_block.specs.ChaCha20.{start}
use Rattle.std.proofs.Common.{rules}
use Rattle.chacha20_block.proofs.start.Goals as goal

pub returns : goal.returns
unfolding start
returns c =
    ap₂ (λ (k n : List ℕ). 0x61707865 ∷ 0x3320646e ∷ 0x79622d32 ∷ 0x6b206574 ∷ (k ++ (c.args.counter ∷ n)))
    (all 8 c.args.key (search rules)) (all 3 c.args.nonce (search rules))
