use Rattle.half_deal.specs.Dealing.{x, y}
use Rattle.half_deal.proofs.set_for.Goals as goal

pub returns : goal.returns
unfolding x y
returns c =
    let a = c.args in
    let s = a.shared.now in
    λ i. record {
      number = s.number;
      terms = s.terms;
      mask = a.mask;
      x = c.words_from.ensures i;
      y = c.words_from-2.ensures i;
      c = a.c;
      r = a.r;
      seed = c.key_seed.ensures i;
      key = s.key;
      width = c.width_of.ensures i;
      mark = c.mark_of.ensures i;
    }
