use Rattle.half_seal.specs.OneTime.{keys_for}
use Rattle.half_seal.proofs.one_time_keys.Goals as goal

pub returns : goal.returns
returns c =
    keys_for _ _ _ _ _ _ c.low.ensures c.high.ensures c.keys_to.ensures
