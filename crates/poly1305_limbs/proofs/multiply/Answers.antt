use Rattle.poly1305_limbs.proofs.Limbs.{product}
use Rattle.poly1305_limbs.proofs.multiply.Goals as goal

pub returns-clause-below : goal.returns-clause-below
returns-clause-below c = record {
  l0 = c.column-d0.ensures.upper_bound;
  l1 = c.column-d1.ensures.upper_bound;
  l2 = c.column-d2.ensures.upper_bound;
  l3 = c.column-d3.ensures.upper_bound;
  l4 = c.column-d4.ensures.upper_bound;
}

pub returns-clause-fact : goal.returns-clause-fact
returns-clause-fact c =
    product _ _ _ _ _ _ _ c.column-d0.ensures.value c.column-d1.ensures.value c.column-d2.ensures.value
    c.column-d3.ensures.value c.column-d4.ensures.value
