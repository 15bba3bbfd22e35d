use Rattle.std.proofs.Common.{ℕ, not, rules, tests}
use Rattle.std.proofs.lemmas.Iterator.{YieldsList-from_slice, YieldsList-from_zip}
use Rattle.std.proofs.lemmas.Iterator.Search.{position_from_yields_List}
use Rattle.call_day.specs.Table.{row_fits, bad_row, first_bad_row}
use Rattle.call_day.proofs.Zipped.{of_pair, least-zip}
use Rattle.call_day.proofs.Rows.first_bad.Goals as goal

pub returns : goal.returns
unfolding first_bad_row bad_row
returns c =
    let a = c.args in
    let q = λ (f l : ℕ). not (row_fits f l) in
    least-zip q _ _ a.self.same_length _
    (position_from_yields_List (of_pair q) c.position.new.self _ _ c.position.ensures.ran
    (YieldsList-from_zip (YieldsList-from_slice a.self.firsts.now cc) (YieldsList-from_slice a.self.lasts.now cc))
    (λ x b q k. search (rules, tests)))
