-- No name before this one is refused.
use Rattle.std.proofs.Common.{◌≡◌, ℕ, List, drop}
use Rattle.node_words.specs.Words.{named}
use Rattle.session_meaning.specs.Refusals.{first_refusal, known_refusal}
use Rattle.symbol_looking.proofs.showing.known_refusal.Given as goal

abbrev pub invariant-loop-name : goal.invariant-loop-name
invariant-loop-name l =
    let refusal = (λ (name : List ℕ). known_refusal (named l.circuit l.vectors name)) in
    first_refusal refusal (drop l.name-index l.names) ≡ first_refusal refusal l.names
