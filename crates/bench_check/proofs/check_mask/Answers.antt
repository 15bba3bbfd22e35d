use Rattle.bench_check.proofs.Laws.{mask_short, out_short, mask_fits_lem}
use Rattle.std.proofs.Common.{rules}
use Rattle.bench_check.proofs.check_mask.Goals as goal

pub returns-then-m-n : goal.returns-then-m-n
returns-then-m-n c =
    let both = mask_short c.args.v.now c.args.m.now c.args.out.now (search rules) in
    record { value = both.0; out_after = both.1 }

pub returns-then-out-n : goal.returns-then-out-n
returns-then-out-n c =
    let both = out_short c.args.v.now c.args.m.now c.args.out.now (search rules) (search rules) in
    record { value = both.0; out_after = both.1 }

pub returns : goal.returns
returns c =
    let both =
    mask_fits_lem c.args.v.now c.args.m.now c.args.out.now c.add_vectors.new.out (search rules) (search rules)
    c.add_vectors.ensures in
    record { value = both.0; out_after = both.1 }
