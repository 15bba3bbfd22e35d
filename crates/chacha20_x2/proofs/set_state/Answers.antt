use Rattle.std.proofs.Common.{◌+◌, ap, ◌∙◌}
use Rattle.chacha20_x2.specs.Pair.{put_four}
use Rattle.chacha20_x2.proofs.Table.{put_rows}
use Rattle.chacha20_x2.proofs.set_state.Goals as goal

pub returns : goal.returns
returns c =
    let at = c.args.at in
    put_rows at c.args.t c.args.z.now _ _ _ _
    (c.set_four.ensures ∙ ap (λ q. put_four at 1 q c.args.z.now) c.row.ensures)
    (c.set_four-2.ensures ∙ ap (λ q. put_four (16 + at) 1 q c.set_four.new.z) c.row-2.ensures)
    (c.set_four-3.ensures ∙ ap (λ q. put_four (32 + at) 1 q c.set_four-2.new.z) c.row-3.ensures)
    (c.set_four-4.ensures ∙ ap (λ q. put_four (48 + at) 1 q c.set_four-3.new.z) c.row-4.ensures)
