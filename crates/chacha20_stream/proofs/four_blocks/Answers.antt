use Rattle.std.proofs.Common.{◌∙◌, rules}
use Rattle.chacha20_stream.proofs.Blocks.{in_order_lem}
use Rattle.chacha20_stream.proofs.four_blocks.Goals as goal

pub returns : goal.returns
returns c =
    c.in_order.ensures ∙ in_order_lem 4 _ _ _ _ (search rules) (search rules) c.next_blocks.ensures
