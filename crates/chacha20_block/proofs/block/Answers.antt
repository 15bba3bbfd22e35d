use Rattle.std.proofs.Common.{ap, ap₂, ◌∙◌}
use Rattle.chacha20_rounds.specs.Rounds.{added, rounds, block_from}
use Rattle.chacha20_block.specs.ChaCha20.{block}
use Rattle.chacha20_block.proofs.block.Goals as goal

pub returns : goal.returns
unfolding block block_from
returns c =
    c.add_states.ensures ∙ ap₂ added (c.twenty_rounds-t.ensures ∙ ap (rounds 10) c.start-s.ensures) c.start-s.ensures
