use mathlib.Core.Path.{refl, sym, ◌∙◌}
use native.Mathlib.Omega.{arith}
use Rattle.base_messages.specs.Laws.{fits_short}
use Rattle.base_messages.specs.Refusals.{not_0}
use Rattle.call_dealer.specs.Dealer.{no_dealer}
use Rattle.call_dealer.specs.Laws.{start_tells}
use Rattle.call_dealer.proofs.Laws.{start_refused, started}
use Rattle.call_dealer.proofs.Dealer.start.Goals as goal

pub returns-in-Err : goal.returns-in-Err
unfolding no_dealer
returns-in-Err c = start_refused _ _ _ _ _ (c.number.ensures ∙ c.in-Err.ensures)
    (λ z. not_0 c.in-Err.refusal (sym c.number.ensures ∙ z))

pub padded-requires : goal.padded-requires
padded-requires c = fits_short _ (start_tells _ _ _ (sym c.in_default.ensures)).name_fits_lem

pub bytes_32-requires : goal.bytes_32-requires
bytes_32-requires c =
    let keys = start_tells _ _ _ (sym c.in_default.ensures) in
    omega (arith, keys.long_0, keys.long_1)

pub bytes_32-requires-2 : goal.bytes_32-requires-2
bytes_32-requires-2 c =
    let keys =
    start_tells _ _ _ (sym c.in_default.ensures) in
    omega (arith, keys.long_0, keys.long_1)

pub returns : goal.returns
returns c =
    started _ _ _ _ _ c.in_default.ensures _ _ _ refl
    c.padded.ensures c.bytes_32.ensures c.bytes_32-2.ensures
