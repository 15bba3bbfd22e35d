use Rattle.std.specs.Prelude.{ℕ}
use Rattle.std.proofs.Common.{ap, ap₂, ◌∙◌}
use Rattle.std.specs.Int.Bits.{bit_xor}
use Rattle.base_algebra.specs.Word.{add}
use Rattle.base_words.specs.Bytes.{rotl}
use Rattle.chacha20_rounds.specs.Rounds.{quarter}
use Rattle.chacha20_rounds.proofs.quarter_round.Goals as goal

pub returns : goal.returns
unfolding quarter
returns c =
    let a1 = c.add-a1.ensures in
    let d1 = c.rotate_left-d1.ensures ∙ ap (λ (x : ℕ). rotl 16 (bit_xor c.args.d x)) a1 in
    let c1 = c.add-c1.ensures ∙ ap (add c.args.c) d1 in
    let b1 = c.rotate_left-b1.ensures ∙ ap (λ (x : ℕ). rotl 12 (bit_xor c.args.b x)) c1 in
    let a2 = c.add-a2.ensures ∙ ap₂ add a1 b1 in
    let d2 = c.rotate_left-d2.ensures ∙ ap₂ (λ (x y : ℕ). rotl 8 (bit_xor x y)) d1 a2 in
    let c2 = c.add-c2.ensures ∙ ap₂ add c1 d2 in
    let b2 = c.rotate_left-b2.ensures ∙ ap₂ (λ (x y : ℕ). rotl 7 (bit_xor x y)) b1 c2 in
    λ i. record { a = a2 i; b = b2 i; c = c2 i; d = d2 i }
