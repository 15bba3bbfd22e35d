-- What examining a half answers where its number has to be above `last`: why it is turned down, 0 if it is not, and the
-- set that it opens to, or no set; and what a trial is told of it (02, §7): code and L alone. Assumes nothing.
use Rattle.std.specs.Prelude.{List, ℕ, Result, Ok, Err}
use Rattle.base_messages.specs.declared.Refusal.{Refusal}
use Rattle.base_messages.specs.Messages.{if_taken}
use Rattle.base_messages.specs.Refusals.{number_of}
use Rattle.measure_table.specs.declared.Terms.{Terms}
use Rattle.half_content.specs.declared.Set.{Set}
use Rattle.half_content.specs.Content.{no_set, no_terms}
use Rattle.half_seal.specs.Half.{why_not, opened_set}

pub record Examined : Type 0 where
  pub why : ℕ
  pub set : Set

pub record Told : Type 0 where
  pub why : ℕ
  pub terms : Terms

unfoldable pub refused : ℕ → Examined
refused why = record { why = why; set = no_set }

unfoldable pub examined : List ℕ → List ℕ → ℕ → ℕ → List ℕ → Examined
examined key name party last h =
    let why : ℕ = why_not key name party last h in
    record { why = why; set = if_taken why (opened_set key h) no_set }

-- the terms of that set, or zeros
unfoldable pub told : List ℕ → List ℕ → ℕ → ℕ → List ℕ → Told
told key name party last h =
    let why : ℕ = why_not key name party last h in
    record { why = why; terms = if_taken why (opened_set key h).terms no_terms }

-- both as code answers them: with a refusal comes no set, and no terms
abbrev pub as_examined : Result Set Refusal → Examined
as_examined (Ok set) = record { why = 0; set = set }
as_examined (Err why) = record { why = number_of why; set = no_set }

abbrev pub as_told : Result Terms Refusal → Told
as_told (Ok terms) = record { why = 0; terms = terms }
as_told (Err why) = record { why = number_of why; terms = no_terms }
