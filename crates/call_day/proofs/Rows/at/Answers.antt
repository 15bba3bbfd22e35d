use Rattle.std.proofs.Common.{ℕ, rules, tests}
use Rattle.std.proofs.lemmas.Iterator.{YieldsList-from_slice, YieldsList-from_zip}
use Rattle.std.proofs.lemmas.Iterator.Search.{position_from_yields_List}
use Rattle.call_day.specs.Table.{in_row, holds, row_at}
use Rattle.call_day.proofs.Zipped.{of_pair, least-zip}
use Rattle.call_day.proofs.Rows.at.Goals as goal

pub returns : goal.returns
unfolding row_at holds
returns c =
    let a = c.args in
    let q = λ (f l : ℕ). in_row f l a.minute in
    least-zip q _ _ a.self.same_length _
    (position_from_yields_List (of_pair q) c.position.new.self _ _ c.position.ensures.ran
    (YieldsList-from_zip (YieldsList-from_slice a.self.firsts.now cc) (YieldsList-from_slice a.self.lasts.now cc))
    (λ x b q k. search (rules, tests)))
