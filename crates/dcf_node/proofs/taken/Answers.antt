use mathlib.Core.Path.{◌∙◌, ap, ap₂}
use mathlib.Core.List.{List}
use Prim.Native.Nat.{ℕ}
use Rattle.base_algebra.specs.Bit.{odd}
use Rattle.base_words.specs.Xor.{xors}
use Rattle.base_algebra.specs.Word.{add}
use Rattle.dcf_function.specs.Dcf.{corrected, taken, next_seed, next_flag}
use Rattle.dcf_node.specs.Node.{as_walk, unpacked, child}
use Rattle.dcf_node.proofs.taken.Goals as goal

pub returns : goal.returns
unfolding taken next_seed next_flag as_walk unpacked child
returns c =
    let seed = λ (s : List ℕ). corrected xors (odd c.args.w.flag) s c.args.c.seed in
    λ i. record {
      seed = (c.corrected.ensures ∙ ap seed c.seed_of-seed.ensures) i;
      flag = c.next_flag.ensures i;
      total = (c.add-2.ensures ∙ ap₂ add c.add.ensures c.only.ensures) i;
    }
