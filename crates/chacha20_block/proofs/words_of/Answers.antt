use Rattle.std.proofs.Common.{◌≡◌, ℕ, List, length, drop, ◌*◌, ◌∙◌, [], refl, ap, set, replicate, arith}
use Rattle.std.proofs.Common.{length-set, append-nil, drop_of_length-le}
use Rattle.std.proofs.lemmas.List.{length-replicate}
use Rattle.base_words.specs.List.{tab, tab_more}
use Rattle.base_words.specs.Bytes.{word_at, words_at}
use Rattle.chacha20_block.proofs.words_of.Goals as goal

abbrev zeros : ℕ → List ℕ
zeros n = replicate n 0

long : (n : ℕ) → length (zeros n) ≡ n
long n = length-replicate {A = ℕ} n 0

none : (n : ℕ) → drop n (zeros n) ≡ []
none n = drop_of_length-le {A = ℕ} (zeros n) {i = n} (omega (arith, long n))

pub loop-i-init : goal.loop-i-init
unfolding tab
loop-i-init g c = (refl, long g.row.N)

pub loop-i-preserved : goal.loop-i-preserved
loop-i-preserved g c =
    let i = c.loop-i.i in
    let rule : ℕ → ℕ = λ j. word_at c.args.b.now (4 * j) in (
      rw c.load.ensures (ap (λ l. set l i (rule i)) c.loop-i.invariant.0
          ∙ tab_more rule i (zeros g.row.N) (omega (arith, long g.row.N))),
      simp length-set (omega arith),
    )

pub returns : goal.returns
unfolding words_at
returns g c =
    let done : c.loop-i.i ≡ g.row.N = omega arith in
    rw done at c.loop-i.invariant.0 ∙ rw (none g.row.N) (append-nil _)
