use Rattle.std.proofs.Common.{◌≡◌, ◌+◌, ◌-◌, ◌%◌, ◌^◌, ◌<◌, ◌∙◌, arith, rules}
use Rattle.base_words.specs.Bytes.{rotl}
use Rattle.base_words.proofs.Rotation.{or_rot}
use Rattle.base_words.proofs.rotate_left.Goals as goal

pub returns : goal.returns
unfolding rotl
returns c =
    let n = c.args.n in
    let whole : 32 - n + n ≡ 32 = omega arith in
    let fits : c.args.x < 2 ^ 32 = search rules in
    let by : n % 32 ≡ n = omega arith in
    let back : (32 - n % 32) % 32 ≡ 32 - n = omega arith in
    c.rotate_left.ensures ∙ rw (back, by) (rw whole at (or_rot (32 - n) n c.args.x (rw whole fits)))
