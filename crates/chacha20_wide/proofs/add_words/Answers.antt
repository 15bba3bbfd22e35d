use Rattle.std.proofs.Common.{◌≡◌, ℕ, get_or, refl, ap, ◌∙◌, append-nil, length-set, drop_of_length-le, arith, rules}
use Rattle.base_algebra.specs.Word.{add}
use Rattle.base_words.specs.List.{tab, tab_more, get_or_rest}
use Rattle.chacha20_wide.proofs.add_words.Goals as goal

pub loop-i-init : goal.loop-i-init
unfolding tab
loop-i-init g c = (refl, search rules)

pub loop-i-preserved : goal.loop-i-preserved
loop-i-preserved g c =
    let x = c.args.x.now in
    let y = c.args.y.now in
    let i = c.loop-i.i in
    let rule : ℕ → ℕ = λ i. add (get_or x i 0) (get_or y i 0) in
    let here : get_or c.loop-i.x i 0 ≡ get_or x i 0 =
    ap (λ l. get_or l i 0) c.loop-i.invariant.0 ∙ get_or_rest rule x i i (omega arith) in (
      rw (c.add.ensures, here, c.loop-i.invariant.0) (tab_more rule i x (omega arith)),
      simp length-set (omega arith),
    )

pub returns : goal.returns
returns g c =
    let done : c.loop-i.i ≡ g.row.W = omega arith in
    rw done at c.loop-i.invariant.0
    ∙ rw (drop_of_length-le c.args.x.now {i = g.row.W} (omega arith)) (append-nil _)
