use Rattle.std.proofs.Common.{refl, ap, ap₂, ◌∙◌, Bool, ◌&&◌, ℕ, eq-eqb, ne_eqb}
use Rattle.std.proofs.Math.Bool.{not}
use Rattle.measure_iris.specs.declared.HammingAnswer.{HammingAnswer}
use Rattle.measure_iris.specs.Iris.{code_long, distance}
use Rattle.measure_iris.specs.Laws.{pair_refused, pair_taken}
use Rattle.measure_iris.proofs.hamming.Goals as goal
use Rattle.measure_iris.proofs.hamming.Goals.{in_default-via-in-Some+in_default, in_default-via-in_default}

turned : ℕ → HammingAnswer
turned w = record { why = w; distance = 0 }

pub returns-in_default : goal.returns-in_default
unfolding turned
returns-in_default c =
    let a = c.args.a.now in
    let b = c.args.b.now in
    ap turned c.number.ensures ∙ elim c.in_default.branch [
      | in_default-via-in-Some+in_default w ↦ pair_refused a b refl
          (ap₂ (λ (x y : Bool). not (x && y)) (eq-eqb _ _ (w.in_default.ensures.variant.0 refl))
          (ne_eqb _ _ w.in_default.ensures'.cases))
      | in_default-via-in_default w ↦ pair_refused a b refl
          (ap (λ (x : Bool). not (x && code_long b)) (ne_eqb _ _ w.in_default.ensures.cases))
    ]

pub returns : goal.returns
returns c =
    let a = c.args.a.now in
    let b = c.args.b.now in
    pair_taken a b refl
    (ap₂ (λ (x y : Bool). not (x && y)) (eq-eqb _ _ (c.in-Some-Some.ensures.variant.0 refl))
    (eq-eqb _ _ (c.in-Some-Some.ensures'.variant.0 refl)))
    _ (c.differing.ensures ∙ ap₂ distance c.in-Some-Some.ensures.cases.same c.in-Some-Some.ensures'.cases.same)
