use mathlib.Core.Path.{ap}
use mathlib.Core.Bool.{not}
use Rattle.half_open.proofs.Whole.{whole_10, whole_11, whole_0, whole_opens}
use Rattle.half_open.proofs.why_not_opened.Goals as goal

pub returns-then-not-open_blocks-clause-value : goal.returns-then-not-open_blocks-clause-value
returns-then-not-open_blocks-clause-value c =
    whole_10 c.args.key.now c.args.name c.args.h.now c.args.party
    c.open_blocks.result c.open_blocks.ensures.value (ap not c.if-not-open_blocks.true)

pub returns-then-not-content_fits-clause-value : goal.returns-then-not-content_fits-clause-value
returns-then-not-content_fits-clause-value c =
    whole_11 c.args.key.now c.args.name c.args.h.now c.args.party
    c.open_blocks.result c.open_blocks.ensures.value (ap not c.if-not-open_blocks.false) _
    c.open_blocks.ensures.out_after c.content_fits.result
    c.content_fits.ensures (ap not c.if-not-content_fits.true)

pub returns-clause-value : goal.returns-clause-value
returns-clause-value c =
    whole_0 c.args.key.now c.args.name c.args.h.now c.args.party
    c.open_blocks.result c.open_blocks.ensures.value (ap not c.if-not-open_blocks.false) _
    c.open_blocks.ensures.out_after c.content_fits.result
    c.content_fits.ensures (ap not c.if-not-content_fits.false)

pub returns-clause-text_after : goal.returns-clause-text_after
returns-clause-text_after c =
    whole_opens c.args.key.now c.args.name c.args.h.now c.args.party
    c.open_blocks.result c.open_blocks.ensures.value (ap not c.if-not-open_blocks.false) _
    c.open_blocks.ensures.out_after c.content_fits.result c.content_fits.ensures
