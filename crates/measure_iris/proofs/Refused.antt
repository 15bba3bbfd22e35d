-- A test that holds or refuses, as code has it, and its number. Assumes nothing.
use Rattle.std.specs.Prelude.{◌≡◌, ℕ, Bool, true, false, Result, Ok, Err}
use Rattle.std.proofs.Common.{refl, ap}
use Rattle.base_messages.specs.Messages.{unless}
use Rattle.base_messages.specs.Refusals.{number_of, or_refuse}
use Rattle.base_messages.specs.declared.Refusal.{Refusal}

pub failed : (b : Bool) (e d : Refusal) (rest : ℕ) {r : Result (Unit {0}) Refusal} → r ≡ or_refuse b e (Ok tt)
    → r ≡ Err d → number_of d ≡ unless b (number_of e) rest
unfolding unless
failed true e d rest h k = cc
failed false e d rest h k = let same : d ≡ e = cc in ap number_of same

pub held : (b : Bool) (e : Refusal) {r : Result (Unit {0}) Refusal} {u : Unit {0}} → r ≡ or_refuse b e (Ok tt)
    → r ≡ Ok u → b ≡ true
held true e h k = refl
held false e h k = cc
