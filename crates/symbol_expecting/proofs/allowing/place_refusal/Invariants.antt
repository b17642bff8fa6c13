use Rattle.std.proofs.Common.{◌≡◌, drop}
use Rattle.session_meaning.specs.Refusals.{first_refusal, place_refusal}
use Rattle.symbol_expecting.proofs.allowing.place_refusal.Given as goal

abbrev pub invariant-loop-name : goal.invariant-loop-name
invariant-loop-name l =
    first_refusal (place_refusal l.circuit l.vectors) (drop l.name-index l.list) ≡ first_refusal (place_refusal l.circuit l.vectors) l.list
