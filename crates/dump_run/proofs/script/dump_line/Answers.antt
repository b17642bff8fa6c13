-- A line comes to what its command comes to, or is refused as it is read.
use Rattle.std.proofs.Common.{ap, sym, ◌∙◌, Ok, refl}
use Rattle.script_meaning.specs.Runs.{Asks, plain_reading}
use Rattle.script_meaning.proofs.TurnLemmas.{is_inside}
use Rattle.dump_run.proofs.TurnLemmas.{asked_turn, unread_turn}
use Rattle.dump_run.proofs.script.dump_line.Goals as goal

pub returns-in-Ok-Some-clause-turn : goal.returns-in-Ok-Some-clause-turn
returns-in-Ok-Some-clause-turn g c =
    let asks : Asks plain_reading c.args.cut c.args.session.now.core (c.args.line.number, c.args.line.bytes.now) c.in-Ok-Some.command = record {
      inside = is_inside c.args.cut c.args.line.number c.eq.result c.eq.ensures c.if-eq.false;
      asked = c.in-Ok-Some.ensures.ok ∙ ap Ok c.in-Ok-Some.field-0-is;
    } in
    asked_turn c.args.cut (c.args.line.number, c.args.line.bytes.now) c.in-Ok-Some.command c.args.session.now.core c.dump_command.new.session.core
    c.args.out.now.sheet c.dump_command.new.out.sheet _ _ c.dump_command.result asks c.dump_command.ensures.turn

pub returns-in-Some-clause-turn : goal.returns-in-Some-clause-turn
returns-in-Some-clause-turn g c = (
  unread_turn c.args.cut _ c.args.session.now.core (c.args.line.number, c.args.line.bytes.now) c.in-Err.fault _
      (is_inside c.args.cut c.args.line.number c.eq.result c.eq.ensures c.if-eq.false) c.in-Err.ensures.refused (sym c.script_code.ensures ∙ c.in-Some.is),
  record { same = refl; unheard = refl; unasked = refl },
)
