use mathlib.Core.Path.{ap, ◌∙◌}
use mathlib.Core.List.{List}
use Prim.Native.Nat.{ℕ}
use Rattle.base_algebra.specs.Bit.{odd}
use Rattle.dcf_function.specs.Dcf.{Child}
use Rattle.dcf_node.specs.Node.{child}
use Rattle.dcf_keys.specs.Keys.{as_child}
use Rattle.dcf_keys.proofs.child_at.Goals as goal

pub returns : goal.returns
unfolding child as_child
returns c =
    let s = c.lane-s.result in
    let with_seed : List ℕ → Child (List ℕ) = λ k. record { seed = k; word = s.x8; flag = odd s.x9 } in
    ap with_seed c.seed_of.ensures ∙ ap child c.lane-s.ensures
