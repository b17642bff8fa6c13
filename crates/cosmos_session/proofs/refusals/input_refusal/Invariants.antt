use Rattle.std.proofs.Common.{◌≡◌, ℕ, List, drop}
use Rattle.node_words.specs.Words.{named}
use Rattle.session_meaning.specs.Refusals.{first_refusal, named_refusal, rail_at}
use Rattle.cosmos_session.proofs.refusals.input_refusal.Given as goal

abbrev pub invariant-loop-name : goal.invariant-loop-name
invariant-loop-name l =
    let refusal = (λ (name : List ℕ). named_refusal rail_at (named l.circuit l.vectors name)) in
    first_refusal refusal (drop l.name-index l.names) ≡ first_refusal refusal l.names
