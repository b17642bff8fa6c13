-- What is read of the text that was made is told of the text.
use Rattle.std.proofs.Common.{ap, sym, ◌∙◌, subst}
use Rattle.sim_read.specs.Meaning.{netlist_of}
use Rattle.ternary.specs.Unmade.{IsFault}
use Rattle.sim_read.proofs.CircuitLemmas.{netlist_of-netlist}
use Rattle.script_reports.proofs.summary.sample_circuit.Goals as goal

pub returns-in-Ok-clause-means : goal.returns-in-Ok-clause-means
returns-in-Ok-clause-means c = ap netlist_of (sym (c.deref.ensures.value ∙ c.in_ok-text.ensures)) ∙ c.in-Ok.ensures.ok

pub returns-in-Ok-clause-circuit : goal.returns-in-Ok-clause-circuit
returns-in-Ok-clause-circuit c = netlist_of-netlist c.deref.result.now c.in-Ok.circuit c.in-Ok.ensures.ok

pub returns-in-Err-Refused-clause-means : goal.returns-in-Err-Refused-clause-means
returns-in-Err-Refused-clause-means c = ap netlist_of (sym (c.deref.ensures.value ∙ c.in_ok-text.ensures)) ∙
    subst (λ fault. IsFault (netlist_of c.deref.result.now) fault) c.in-Err-Refused.field-0-is c.in-Err-Refused.ensures.refused
