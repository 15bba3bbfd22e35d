use native.Mathlib.Omega.{arith}
use Rattle.poly1305_limbs.specs.Limbs.{column}
use Rattle.poly1305_limbs.proofs.Limbs.{fits}
use Rattle.std.proofs.Common.{rules}
use Rattle.poly1305_limbs.proofs.column.Goals as goal

pub overflow_add-result : goal.overflow_add-result
overflow_add-result c =
    omega (arith, fits c.requires.below.l0 c.requires.b0_bound.0, fits c.requires.below.l1 c.requires.b0_bound.1)

pub overflow_add-result-2 : goal.overflow_add-result-2
overflow_add-result-2 c =
    omega (
      arith,
      fits c.requires.below.l0 c.requires.b0_bound.0,
      fits c.requires.below.l1 c.requires.b0_bound.1,
      fits c.requires.below.l2 c.requires.b0_bound.2,
    )

pub overflow_add-result-3 : goal.overflow_add-result-3
overflow_add-result-3 c =
    omega (
      arith,
      fits c.requires.below.l0 c.requires.b0_bound.0,
      fits c.requires.below.l1 c.requires.b0_bound.1,
      fits c.requires.below.l2 c.requires.b0_bound.2,
      fits c.requires.below.l3 c.requires.b0_bound.3,
    )

pub overflow_add-result-4 : goal.overflow_add-result-4
overflow_add-result-4 c =
    omega (
      arith,
      fits c.requires.below.l0 c.requires.b0_bound.0,
      fits c.requires.below.l1 c.requires.b0_bound.1,
      fits c.requires.below.l2 c.requires.b0_bound.2,
      fits c.requires.below.l3 c.requires.b0_bound.3,
      fits c.requires.below.l4 c.requires.b0_bound.4,
    )

pub returns-clause-upper_bound : goal.returns-clause-upper_bound
unfolding column
returns-clause-upper_bound c = omega (
  arith,
  fits c.requires.below.l0 c.requires.b0_bound.0,
  fits c.requires.below.l1 c.requires.b0_bound.1,
  fits c.requires.below.l2 c.requires.b0_bound.2,
  fits c.requires.below.l3 c.requires.b0_bound.3,
  fits c.requires.below.l4 c.requires.b0_bound.4,
)

pub returns-clause-value : goal.returns-clause-value
unfolding column
returns-clause-value c = search rules
