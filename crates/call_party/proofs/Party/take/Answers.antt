use mathlib.Core.Path.{refl, ◌∙◌}
use Rattle.base_messages.specs.Refusals.{not_0}
use Rattle.call_party.proofs.Calls.{take_refused, take_fits, take_taken}
use Rattle.call_party.proofs.Party.take.Goals as goal

pub returns-in-Err : goal.returns-in-Err
returns-in-Err c =
    c.refused.ensures
    ∙ take_refused _ _ c.in_turn-turn.ensures _ _ _ _ c.in-Err.ensures (not_0 c.in-Err.refusal)

pub box_share-share-requires : goal.box_share-share-requires
box_share-share-requires c =
    let args = c.args in
    take_fits args.self _ c.in_turn-turn.ensures args.label args.name.now args.v.now _
    c.in_default.ensures refl

pub returns : goal.returns
returns c =
    take_taken _ _ c.in_turn-turn.ensures _ _ _ _ c.in_default.ensures _ _ refl
    c.box_share-share.ensures c.word-word.ensures
