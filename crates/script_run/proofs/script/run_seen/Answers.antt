-- A line comes to what its command comes to, or is refused as it is read.
use Rattle.std.proofs.Common.{◌≡◌, ◌⊎◌, ℕ, List, [], ap, sym, subst, ◌∙◌, refl, Ok, Err}
use Rattle.netlist.specs.Circuits.{CircuitData}
use Rattle.script_lang.specs.declared.command.ScriptFault.TheVariants.{NoMemory}
use Rattle.script_meaning.proofs.TurnLemmas.{is_unread, is_inside}
use Rattle.script_meaning.specs.Runs.{Asks}
use Rattle.script_meaning.specs.Shown.LinePasses.{nothing, by_command}
use Rattle.script_run.proofs.script.run_seen.Given.{Over}
use Rattle.script_run.proofs.script.run_seen.Goals.{After-obey_command}
use Rattle.script_run.proofs.script.run_seen.Goals as goal

-- the line asks for its command
command_asked : (g : Over) (c : After-obey_command g) →
    Asks (g.R.LineReader.reading c.args.reader.now) c.args.cut c.args.session.now.core (c.args.line.number, c.args.line.bytes.now) c.in-Ok-Some.command
command_asked g c =
    let reading = g.R.LineReader.reading c.args.reader.now in
    record {
      inside = is_inside c.args.cut c.args.line.number c.eq.result c.eq.ensures c.if-eq.false;
      asked = ap (λ (circuit : CircuitData). reading circuit c.args.session.now.core.vectors c.args.line.bytes.now) (sym c.circuit.ensures.value)
          ∙ ap (λ (vectors : List (List ℕ × List ℕ)). reading c.circuit.result.now vectors c.args.line.bytes.now) (sym c.vectors.ensures)
          ∙ c.in-Ok-Some.ensures.ok ∙ ap Ok c.in-Ok-Some.field-0-is;
    }

pub returns-in-Ok-Some-clause-turn : goal.returns-in-Ok-Some-clause-turn
returns-in-Ok-Some-clause-turn g c =
    c.obey_command.ensures.turn (g.R.LineReader.reading c.args.reader.now) c.args.cut (c.args.line.number, c.args.line.bytes.now)
    (command_asked g (goal.at.returns-in-Ok-Some-clause-turn g c).After-obey_command)

pub returns-in-Some-clause-turn : goal.returns-in-Some-clause-turn
returns-in-Some-clause-turn g c =
    let reading = g.R.LineReader.reading c.args.reader.now in
    let inside = is_inside c.args.cut c.args.line.number c.eq.result c.eq.ensures c.if-eq.false in
    let known = subst (λ (vectors : List (List ℕ × List ℕ)).
    (c.in-Err.fault ≡ NoMemory) ⊎ (reading c.circuit.result.now vectors c.args.line.bytes.now ≡ Err c.in-Err.fault))
    c.vectors.ensures c.in-Err.ensures.refused in
    let unread = subst (λ (circuit : CircuitData).
    (c.in-Err.fault ≡ NoMemory) ⊎ (reading circuit c.args.session.now.core.vectors c.args.line.bytes.now ≡ Err c.in-Err.fault))
    c.circuit.ensures.value known in (
      is_unread reading _ _ _ c.in-Err.fault _ inside unread (sym c.script_code.ensures ∙ c.in-Some.is),
      record { same = refl; unheard = refl; unasked = refl },
    )

pub returns-in-Ok-Some-clause-seen : goal.returns-in-Ok-Some-clause-seen
returns-in-Ok-Some-clause-seen g c =
    let asks = command_asked g (goal.at.returns-in-Ok-Some-clause-seen g c).After-obey_command in
    λ accepted.
    let sees = c.obey_command.ensures.seen accepted in
    record { passes = sees.passes; through = by_command c.in-Ok-Some.command sees.passes asks sees.through; seen = sees.seen }

pub returns-in-Ok-None-clause-seen : goal.returns-in-Ok-None-clause-seen
returns-in-Ok-None-clause-seen g c =
    let reading = g.R.LineReader.reading c.args.reader.now in
    λ accepted. record {
      passes = [];
      through = nothing (record {
        inside = is_inside c.args.cut c.args.line.number c.eq.result c.eq.ensures c.if-eq.false;
        nothing = ap (λ (circuit : CircuitData). reading circuit c.args.session.now.core.vectors c.args.line.bytes.now) (sym c.circuit.ensures.value)
            ∙ ap (λ (vectors : List (List ℕ × List ℕ)). reading c.circuit.result.now vectors c.args.line.bytes.now) (sym c.vectors.ensures)
            ∙ c.in-Ok-None.ensures.ok ∙ ap Ok c.in-Ok-None.field-0-is;
      });
      seen = c.show_still.ensures.seen;
    }
