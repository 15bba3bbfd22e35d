use Rattle.std.proofs.Common.{◌-◌, ◌^◌, ◌≤◌, mul-le-mul, arith, rules}
use Rattle.base_algebra.specs.Word.{mul}
use Rattle.std.proofs.Common.{rules}
use Rattle.base_words.proofs.mul.Goals as goal

pub overflow_mul-result : goal.overflow_mul-result
overflow_mul-result c = let l : c.args.a ≤ 2 ^ 32 - 1 = omega arith in
    let k : c.args.b ≤ 2 ^ 32 - 1 = omega arith in
    omega (arith, mul-le-mul l k)

pub returns : goal.returns
unfolding mul
returns c = search rules
