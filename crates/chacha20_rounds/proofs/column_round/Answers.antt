use Rattle.std.proofs.Common.{[], ◌∷◌}
use Rattle.chacha20_rounds.specs.Rounds.{column_round, quarter_at, store}
use Rattle.chacha20_rounds.proofs.column_round.Goals as goal

pub returns : goal.returns
unfolding column_round quarter_at store
returns c =
    λ i. (c.quarter_round-q0.ensures i).a ∷ (c.quarter_round-q1.ensures i).a ∷ (c.quarter_round-q2.ensures i).a
    ∷ (c.quarter_round-q3.ensures i).a ∷ (c.quarter_round-q0.ensures i).b ∷ (c.quarter_round-q1.ensures i).b
    ∷ (c.quarter_round-q2.ensures i).b ∷ (c.quarter_round-q3.ensures i).b ∷ (c.quarter_round-q0.ensures i).c
    ∷ (c.quarter_round-q1.ensures i).c ∷ (c.quarter_round-q2.ensures i).c ∷ (c.quarter_round-q3.ensures i).c
    ∷ (c.quarter_round-q0.ensures i).d ∷ (c.quarter_round-q1.ensures i).d ∷ (c.quarter_round-q2.ensures i).d
    ∷ (c.quarter_round-q3.ensures i).d ∷ []
