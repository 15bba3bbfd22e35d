use mathlib.Core.Path.{◌≡◌}
use Rattle.dcf_node.specs.Node.{as_walk, walk_of}
use Rattle.dcf_walk.proofs.values.Given as goal

abbrev pub invariant-loop-i : goal.invariant-loop-i
invariant-loop-i l = (as_walk l.w.0 ≡ walk_of l.party l.key l.initial.w.0.seed l.u l.i)
    × (as_walk l.w.1 ≡ walk_of l.party l.key l.initial.w.0.seed l.v l.i)
