use mathlib.Core.Path.{refl, ◌∙◌}
use Rattle.base_messages.specs.Refusals.{not_0}
use Rattle.call_party.proofs.Calls.{start_refused, start_fits, started}
use Rattle.call_party.proofs.Party.start.Goals as goal

pub returns-in-Err : goal.returns-in-Err
returns-in-Err c =
    c.refused.ensures
    ∙ start_refused _ _ _ _ _ c.in-Err.ensures _ (not_0 c.in-Err.refusal) c.idle.ensures

pub padded-requires : goal.padded-requires
padded-requires c =
    (start_fits _ _ _ c.args.floor _ c.in_default.ensures refl).0

pub bytes_32-requires : goal.bytes_32-requires
bytes_32-requires c =
    (start_fits _ _ _ c.args.floor _ c.in_default.ensures refl).1

pub returns : goal.returns
returns c =
    started _ _ _ _ _ c.in_default.ensures _ _ _ refl c.padded.ensures
    c.bytes_32.ensures c.idle-2.ensures
