use mathlib.Core.Path.{refl}
use Rattle.chacha20_x2.proofs.Table.{both_put, block_of}
use Rattle.chacha20_x2.proofs.two_blocks.Goals as goal

pub returns : goal.returns
returns c =
    let each = both_put _ _ _ _ _ c.set_state.ensures c.set_state-2.ensures refl in
    record {
      a_value = block_of 0 _ _ _ _ c.sum_at.ensures c.twenty_rounds.ensures.z_after each.0;
      b_value = block_of 4 _ _ _ _ c.sum_at-2.ensures c.twenty_rounds.ensures.z_after_2 each.1;
    }
