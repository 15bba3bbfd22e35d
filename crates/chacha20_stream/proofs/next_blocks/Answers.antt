use Rattle.std.proofs.Common.{◌/◌, map, ap, ◌∙◌}
use Rattle.chacha20_rounds.specs.Rounds.{block_from}
use Rattle.chacha20_stream.proofs.Blocks.{blocks_of_starts}
use Rattle.chacha20_stream.proofs.next_blocks.Goals as goal

pub returns : goal.returns
returns g c = c.blocks-2.ensures ∙ ap (map block_from) c.starts.ensures ∙ blocks_of_starts (g.row.W / 16) _ _ _
