use Rattle.base_words.proofs.Masks.{masked}
use Rattle.std.proofs.Common.{sym, ap, ◌∙◌, rules}
use lib.Bits.{and_mask}
use Rattle.base_algebra.specs.Word.{sub}
use Rattle.base_algebra.specs.Bit.{only_odd}
use Rattle.std.proofs.Common.{rules}
use Rattle.base_words.proofs.only.Goals as goal

pub returns : goal.returns
returns c = masked _ c.args.x _ (c.sub.ensures
    ∙ ap (sub 0) (and_mask c.args.flag 1 ∙ sym (only_odd c.args.flag))) (search rules)
