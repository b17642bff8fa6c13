-- By the session's circuit and vectors.
use Rattle.std.proofs.Common.{ℕ, List, ap, ◌∙◌}
use Rattle.netlist.specs.Circuits.{CircuitData}
use Rattle.script_lang.specs.declared.command.Tell.TheVariants.{Show}
use Rattle.session_meaning.specs.Refusals.{refusal_of_tell}
use Rattle.symbol_looking.proofs.showing.show_refusal.Goals as goal

pub returns : goal.returns
returns c =
    c.known_refusal.ensures ∙ ap (λ (circuit : CircuitData). refusal_of_tell circuit c.vectors.result.now (Show c.args.names.now)) c.circuit.ensures.value
    ∙ ap (λ (vectors : List (List ℕ × List ℕ)). refusal_of_tell c.args.session.now.core.circuit vectors (Show c.args.names.now)) c.vectors.ensures
