use Rattle.dcf_node.proofs.Laws.{seed_corrected}
use mathlib.Core.Path.{◌∙◌}
use mathlib.Core.List.{[], ◌∷◌}
use lib.Bits.{bit_xor}
use lib.ListN.{get_or}
use Rattle.base_algebra.specs.Bit.{odd}
use Rattle.std.proofs.Common.{rules}
use Rattle.dcf_node.proofs.corrected.Goals as goal

pub returns : goal.returns
returns c = (let s = c.args.s in
    λ i.
    bit_xor (get_or s 0 0) (c.only.ensures i) ∷ bit_xor (get_or s 1 0) (c.only-2.ensures i)
    ∷ bit_xor (get_or s 2 0) (c.only-3.ensures i) ∷ bit_xor (get_or s 3 0) (c.only-4.ensures i)
    ∷ bit_xor (get_or s 4 0) (c.only-5.ensures i) ∷ bit_xor (get_or s 5 0) (c.only-6.ensures i)
    ∷ bit_xor (get_or s 6 0) (c.only-7.ensures i) ∷ bit_xor (get_or s 7 0) (c.only-8.ensures i) ∷ [])
    ∙ seed_corrected c.args.s c.args.c (search rules) (search rules) (odd c.args.flag)
