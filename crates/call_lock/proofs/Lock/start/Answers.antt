use mathlib.Core.Path.{sym, ap, ◌∙◌}
use mathlib.Core.Bool.{not}
use Rattle.base_messages.specs.Laws.{fits_short}
use Rattle.call_lock.specs.Lock.{no_lock}
use Rattle.call_lock.proofs.Laws.{name_refused, started}
use Rattle.call_lock.proofs.Lock.start.Goals as goal

pub returns-then-not-name_fits : goal.returns-then-not-name_fits
unfolding no_lock
returns-then-not-name_fits c =
    c.refused.ensures ∙ name_refused _ _ _ c.name_fits.ensures (ap not c.if-not-name_fits.true)

pub padded-requires : goal.padded-requires
padded-requires c = fits_short _ (sym c.name_fits.ensures ∙ c.if-not-name_fits.false)

pub returns : goal.returns
returns c = started _ _ _ c.name_fits.ensures _ (ap not c.if-not-name_fits.false) c.padded.ensures
