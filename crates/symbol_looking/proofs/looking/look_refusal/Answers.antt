-- By the session's circuit.
use Rattle.std.proofs.Common.{ap, ◌∙◌}
use Rattle.netlist.specs.Circuits.{CircuitData}
use Rattle.script_lang.specs.declared.command.Tell.TheVariants.{Look}
use Rattle.session_meaning.specs.Refusals.{refusal_of_tell}
use Rattle.symbol_looking.proofs.looking.look_refusal.Goals as goal

pub returns : goal.returns
returns c =
    c.node_refusal.ensures
    ∙ ap (λ (circuit : CircuitData). refusal_of_tell circuit c.args.session.now.core.vectors (Look c.args.names.now)) c.circuit.ensures.value
