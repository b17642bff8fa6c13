-- A value that stands where it may not is the first refusal.
use Rattle.std.proofs.Common.{◌≡◌, None, refl, sym}
use Rattle.session_meaning.specs.Refusals.{first_refusal, place_refusal}
use Rattle.symbol_expecting.proofs.allowing.allow_values.Goals as goal

pub returns-in-Some-clause-refused : goal.returns-in-Some-clause-refused
returns-in-Some-clause-refused c = rw (← c.in-Some.ensures) refl

pub returns-clause-allowed : goal.returns-clause-allowed
returns-clause-allowed c =
    let none : first_refusal (place_refusal c.args.circuit.now c.args.vectors.now) c.args.list.now ≡ None =
    sym (rw c.in_default.is at c.place_refusal.ensures) in
    rw none c.allow_all.ensures.allowed

pub returns-clause-refused : goal.returns-clause-refused
returns-clause-refused c =
    let none : first_refusal (place_refusal c.args.circuit.now c.args.vectors.now) c.args.list.now ≡ None =
    sym (rw c.in_default.is at c.place_refusal.ensures) in
    rw none c.allow_all.ensures.refused
