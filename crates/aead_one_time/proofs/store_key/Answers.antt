use mathlib.Core.Path.{◌≡◌, refl, ap, ◌∙◌}
use Prim.Native.Nat.{◌+◌, ◌*◌}
use native.Mathlib.Omega.{arith}
use lib.ListN.{get_or}
use Rattle.base_words.specs.List.{over, tab}
use Rattle.base_words.specs.Bytes.{bytes_of, over_word}
use Rattle.aead_one_time.proofs.Laws.{first_words}
use Rattle.std.proofs.Common.{rules}
use Rattle.aead_one_time.proofs.store_key.Goals as goal

pub loop-w-init : goal.loop-w-init
unfolding over tab bytes_of
loop-w-init c = (refl, refl)

pub loop-w-preserved : goal.loop-w-preserved
loop-w-preserved c = (
  over_word (λ w. get_or c.args.x.now (8 * w + c.args.l) 0) _ _ _ _ _
      c.loop-w.invariant.0 c.store.ensures,
  search rules,
)

pub returns : goal.returns
returns c =
    let done : c.loop-w.w ≡ 8 = omega arith in
    rw done at c.loop-w.invariant.0
    ∙ ap (λ r. over c.args.at (bytes_of r) c.args.out.now)
    (first_words 8 c.args.l c.args.x.now (search rules))
