use Rattle.bench_check.proofs.Laws.{mx_short, my_short, sx_short, sy_short, word_fits_lem}
use Rattle.bench_check.specs.Check.{terms_of}
use Rattle.std.proofs.Common.{rules}
use Rattle.bench_check.proofs.check_word.Goals as goal

pub returns-then-mx-n : goal.returns-then-mx-n
returns-then-mx-n c = mx_short _ _ _ _ _ _ _ _ _ (search rules)

pub returns-then-my-n : goal.returns-then-my-n
returns-then-my-n c = my_short _ _ _ _ _ _ _ _ _ (search rules) (search rules)

pub returns-then-sx-n : goal.returns-then-sx-n
returns-then-sx-n c = sx_short _ _ _ _ _ _ _ _ _ (search rules) (search rules) (search rules)

pub returns-then-sy-n : goal.returns-then-sy-n
returns-then-sy-n c = sy_short _ _ _ _ _ _ _ _ _ (search rules) (search rules) (search rules) (search rules)

pub returns : goal.returns
unfolding terms_of
returns c =
    word_fits_lem _ _ _ _ _ _ _ _ _ _ _ _
    (search rules)
    (search rules)
    (search rules)
    (search rules)
    c.share_of-s.ensures
    c.own.ensures
    c.word.ensures
