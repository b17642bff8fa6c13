-- What is left of the command is what the line asks for.
use Rattle.std.proofs.Common.{inl, IfSome, refl, ap, subst}
use Rattle.script_lang.specs.Forms.{IsFormed}
use Rattle.fault_sim.specs.Masks.{command_left, masked_reading}
use Rattle.fault_runs.proofs.LineLemmas.{asks_left, idle_left}
use Rattle.fault_runs.proofs.lines.run_masked.Goals as goal

pub returns-in_default : goal.returns-in_default
returns-in_default g c = λ cut line inside read. inl refl

pub returns-in-Same : goal.returns-in-Same
returns-in-Same g c = λ cut line inside read.
    c.run_command.ensures.turn (masked_reading c.args.stuck) cut line
    (asks_left c.args.stuck cut c.args.session.now.core line c.args.command.now c.circuit-circuit.result.now c.vectors-vectors.result.now c.in-Ok.left inside read
    c.circuit-circuit.ensures.value c.vectors-vectors.ensures c.in-Ok.ensures.value c.args.command.now (ap (command_left c.args.command.now) c.in-Same.is))

pub run_command-requires-in-Other : goal.run_command-requires-in-Other
run_command-requires-in-Other g c = subst (λ left. IfSome (command_left c.args.command.now left) IsFormed) c.in-Other.is c.in-Ok.ensures.formed

pub returns-in-Other : goal.returns-in-Other
returns-in-Other g c = λ cut line inside read.
    c.run_command-in-Other.ensures.turn (masked_reading c.args.stuck) cut line
    (asks_left c.args.stuck cut c.args.session.now.core line c.args.command.now c.circuit-circuit.result.now c.vectors-vectors.result.now c.in-Ok.left inside read
    c.circuit-circuit.ensures.value c.vectors-vectors.ensures c.in-Ok.ensures.value c.in-Other.other (ap (command_left c.args.command.now) c.in-Other.is))

pub returns : goal.returns
returns g c = λ cut line inside read.
    inl (record {
      idle = idle_left c.args.stuck cut c.args.session.now.core line c.args.command.now c.circuit-circuit.result.now c.vectors-vectors.result.now c.in-Ok.left inside read
          c.circuit-circuit.ensures.value c.vectors-vectors.ensures c.in-Ok.ensures.value (ap (command_left c.args.command.now) c.in-Nothing.is);
      keeps = record { same = refl; unheard = refl; unasked = refl };
    })
