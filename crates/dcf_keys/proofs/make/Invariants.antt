use Rattle.dcf_keys.proofs.Levels.{Made}
use Rattle.dcf_keys.proofs.make.Given as goal

abbrev pub invariant-loop-i : goal.invariant-loop-i
invariant-loop-i l = Made l.initial.g.s0 l.initial.g.s1 l.point l.initial.corrections l.corrections l.g l.i
