-- What a set between two marks is (02, §4): "It deals as for T = P, with the plain sign for every code", and field by
-- field its content is that of such a set but for the width and the mark. Assumes nothing. [SPEC 5.16, 9.1]
use Rattle.std.specs.Prelude.{◌≡◌, List, [], ◌∷◌, ℕ, set}
use Rattle.std.proofs.Math.Path.{ap}
use Rattle.std.proofs.Common.{arith}
use Rattle.base_algebra.specs.Word.{sub}
use Rattle.base_words.specs.Bytes.{le32}
use Rattle.measure_table.specs.declared.Terms.{Terms}
use Rattle.measure_table.specs.declared.Rule.TheVariants.{Threshold, Between}
use Rattle.measure_table.specs.Measure.{between_mark, offset_of, width_of, mark_of}
use Rattle.measure_table.specs.Laws.{marked_sign}
use Rattle.half_content.specs.Content.{width_field, mark_field, fields}
use Rattle.half_deal.specs.Dealing.{Deal, deal_from, dealt_set}
use Rattle.half_deal.specs.Close.{set_by01}
use Rattle.half_deal.proofs.Close.{plain_by_01}

module _ (number : ℕ) (seed : List ℕ) (terms : Terms) (p q : ℕ) where
  -- the deal, and the ordinary one at T = P
  abbrev between : Deal
  between = deal_from number seed terms (Between p q)

  abbrev at_p : Deal
  at_p = deal_from number seed terms (Threshold p)

  -- both parties' sets have the r words of 01, whatever the code ..
  pub between_by_01 : (party : ℕ) → dealt_set between party ≡ set_by01 between party
  unfolding mark_of
  between_by_01 = plain_by_01 between (marked_sign terms between_mark (λ e. absurd (omega (arith, e))))

  -- .. and all that 01's set at T = P has, and then w = Q - P and the mark 1
  pub between_moved : (party : ℕ) (name : List ℕ)
      → fields name party (dealt_set between party)
      ≡ set (set (fields name party (set_by01 at_p party)) width_field (le32 (sub q p))) mark_field (between_mark ∷ [])
  unfolding fields offset_of width_of mark_of
  between_moved party name = ap (fields name party) (between_by_01 party)
