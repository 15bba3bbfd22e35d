use mathlib.Core.List.{[], ◌∷◌}
use Rattle.chacha20_rounds.specs.Rounds.{added}
use Rattle.chacha20_rounds.proofs.add_states.Goals as goal

pub returns : goal.returns
unfolding added
returns c =
    λ i. c.add.ensures i ∷ c.add-2.ensures i ∷ c.add-3.ensures i ∷ c.add-4.ensures i
    ∷ c.add-5.ensures i ∷ c.add-6.ensures i ∷ c.add-7.ensures i ∷ c.add-8.ensures i
    ∷ c.add-9.ensures i ∷ c.add-10.ensures i ∷ c.add-11.ensures i ∷ c.add-12.ensures i
    ∷ c.add-13.ensures i ∷ c.add-14.ensures i ∷ c.add-15.ensures i ∷ c.add-16.ensures i ∷ []
