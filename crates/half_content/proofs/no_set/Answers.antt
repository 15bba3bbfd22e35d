use mathlib.Core.Path.{ap}
use mathlib.Core.List.{List}
use Prim.Native.Nat.{ℕ}
use lib.ListN.{replicate}
use Rattle.dcf_node.specs.declared.Correction.{Correction}
use Rattle.half_content.specs.declared.Set.{Set}
use Rattle.measure_table.specs.Measure.{most_elements}
use Rattle.half_content.specs.Content.{no_set}
use Rattle.half_content.proofs.no_set.Goals as goal

pub returns : goal.returns
unfolding no_set
returns c =
    ap none-at c.no_correction-none.ensures
  where
    zeros : List ℕ
    zeros = replicate most_elements 0

    none-at : Correction → Set
    none-at d =
        record {
          number = 0;
          terms = record { code = 0; n = 0 };
          mask = zeros;
          x = zeros;
          y = zeros;
          c = 0;
          r = 0;
          seed = replicate 8 0;
          key = record { corrections = replicate 32 d; last = 0 };
          width = 0;
          mark = 0;
        }
