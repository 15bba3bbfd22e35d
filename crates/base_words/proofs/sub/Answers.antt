use Rattle.std.proofs.Common.{◌≡◌, ◌%◌, ◌^◌, arith}
use Rattle.base_algebra.specs.Word.{sub}
use Rattle.base_words.proofs.sub.Goals as goal

pub returns : goal.returns
unfolding sub
returns c =
    let below : c.args.b % 2 ^ 32 ≡ c.args.b = omega arith in
    rw below
