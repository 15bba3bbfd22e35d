-- A text, padded, and the lengths put in one place of 512 bytes. Assumes nothing.
use mathlib.Core.Path.{◌≡◌, refl, sym, ap, ◌∙◌}
use mathlib.Core.List.{List, ◌++◌, append_assoc}
use Prim.Native.Nat.{ℕ, ◌+◌, ◌-◌, ◌%◌, ◌≤◌}
use native.Mathlib.Omega.{arith}
use lib.ListN.{length, take, drop, replicate, length-append, length-replicate, replicate-append-replicate}
use lib.Seq.{take_at}
use Rattle.base_algebra.specs.Mod.{Mod}
use Rattle.base_words.specs.List.{over, over_after, over_zeros}
use Rattle.poly1305_limbs.specs.Limbs.{prime}
use Rattle.poly1305_mac.specs.Poly1305.{pieces, pad16, absorb_all}
use Rattle.poly1305_mac.specs.Laws.{length_pad16, padded_whole, padded_same, whole_append}

module _ (text both z m1 m2 : List ℕ) (few : length text ≤ 496)
    (size : length both ≡ 16) (ez : z ≡ replicate 512 0) (e1 : m1 ≡ over 0 text z) where
  abbrev pub padding : ℕ
  padding = (16 - length text % 16) % 16

  abbrev pub padded : List ℕ
  padded = text ++ pad16 text

  length_padded : length padded ≡ length text + padding
  length_padded = length-append text (pad16 text) ∙ ap (λ (k : ℕ). length text + k) (length_pad16 text)

  abbrev zeros : List ℕ
  zeros = replicate (512 - length text - padding) 0

  laid : m1 ≡ padded ++ zeros
  unfolding pad16
  laid =
      let split : 512 - length text ≡ padding + (512 - length text - padding) = omega arith in
      let parts : replicate (512 - length text) 0 ≡ replicate padding 0 ++ zeros =
      ap (λ (k : ℕ). replicate k 0) split ∙ sym (replicate-append-replicate padding (512 - length text - padding) 0) in
      e1 ∙ over_zeros text z (length text) 512 refl (omega arith) ez
      ∙ ap (λ (l : List ℕ). text ++ l) parts ∙ sym (append_assoc text (pad16 text) zeros)

  module _ (e2 : m2 ≡ over (length text + padding) both m1) where
    pub one_run : take (length text + padding + 16) m2 ≡ padded ++ both
    one_run =
        let room : length both ≤ length zeros =
        omega (arith, length-replicate {A = ℕ} (512 - length text - padding) 0) in
        ap (take (length text + padding + 16)) (e2 ∙ ap (over (length text + padding) both) laid
        ∙ over_after padded both zeros (length text + padding) length_padded room
        ∙ sym (append_assoc padded both (drop (length both) zeros)))
        ∙ take_at (padded ++ both) (drop (length both) zeros) (length text + padding + 16)
        (length-append padded both ∙ omega (arith, length_padded))

    pub run_length : length text + padding + 16 ≡ length (take (length text + padding + 16) m2)
    run_length = sym (ap length one_run ∙ length-append padded both ∙ omega (arith, length_padded))

    pub run_law : (r h : ℕ) {c : ℕ}
        → Mod prime c
        (absorb_all r h (pieces (take (length text + padding + 16) m2 ++ pad16 (take (length text + padding + 16) m2))))
        → Mod prime c (absorb_all r h (pieces (padded ++ both)))
    run_law r h hc =
        let none : length both % 16 ≡ 0 = omega arith in
        rw (padded_same (padded ++ both) (whole_append padded both (padded_whole text) none)) at (rw one_run at hc)
