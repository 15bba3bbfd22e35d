use mathlib.Core.Path.{◌≡◌}
use Rattle.dcf_node.specs.Node.{as_walk, walk_of}
use Rattle.dcf_walk.proofs.value.Given as goal

abbrev pub invariant-loop-i : goal.invariant-loop-i
invariant-loop-i l = as_walk l.w ≡ walk_of l.party l.key l.initial.w.seed l.u l.i
