use mathlib.Core.Path.{◌≡◌, refl, ap, ◌∙◌}
use native.Mathlib.Omega.{arith}
use lib.ListN.{length, get_or}
use Rattle.base_words.specs.List.{over, tab, tab_get_or}
use Rattle.base_words.specs.Bytes.{bytes_of, over_word}
use Rattle.std.proofs.Common.{rules}
use Rattle.base_slices.proofs.store_all.Goals as goal

pub loop-i-init : goal.loop-i-init
unfolding over tab bytes_of
loop-i-init c = (refl, refl)

pub loop-i-preserved : goal.loop-i-preserved
loop-i-preserved c = (
  over_word (λ i. get_or c.args.w.now i 0) _ _ _ _ _ c.loop-i.invariant.0 c.store.ensures,
  search rules,
)

pub returns : goal.returns
returns c =
    let all : c.loop-i.i ≡ length c.args.w.now = omega arith in
    rw all at c.loop-i.invariant.0 ∙ ap (λ l. over c.args.at (bytes_of l)
    c.args.out.now) (tab_get_or c.args.w.now)
