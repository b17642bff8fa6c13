-- What a line came to is what is said of it.
use Rattle.std.proofs.Common.{Ok, Err}
use Rattle.talk_run.proofs.ObeyedLemmas.{accepted_said, refused_said, large_told, large_said, stopped_said, turn_unheard}
use Rattle.talk_run.proofs.obeying.obey.Goals as goal

pub returns-in-Ok-Accepted-clause-said : goal.returns-in-Ok-Accepted-clause-said
returns-in-Ok-Accepted-clause-said g c =
    accepted_said c.args.line.number c.args.line.bytes.now c.args.session.now.core c.run_line.new.session.core c.args.out.now.spoken c.run_line.new.out.spoken
    (g.A.Analyst.analysed c.args.analyst.now) (g.A.Analyst.analysed c.run_line.new.analyst) _ c.in-Ok-Accepted.field-0-is c.in-Ok-Accepted.ensures.turn

pub returns-in-Ok-Refused-clause-said : goal.returns-in-Ok-Refused-clause-said
returns-in-Ok-Refused-clause-said g c =
    refused_said c.args.line.number c.args.line.bytes.now c.args.session.now.core c.run_line.new.session.core c.args.out.now.spoken c.run_line.new.out.spoken
    (g.A.Analyst.analysed c.args.analyst.now) (g.A.Analyst.analysed c.run_line.new.analyst) c.refuse.new.out.spoken.talk c.refuse.result _
    c.in-Ok-Refused.code c.in-Ok-Refused.field-0-is c.in-Ok-Refused.ensures.turn c.refuse.ensures.said

pub returns-in-Ok-Accepted-clause-hearing : goal.returns-in-Ok-Accepted-clause-hearing
returns-in-Ok-Accepted-clause-hearing g c =
    turn_unheard c.args.line.number c.args.line.bytes.now c.args.session.now.core c.run_line.new.session.core c.args.out.now.spoken c.run_line.new.out.spoken
    (g.A.Analyst.analysed c.args.analyst.now) (g.A.Analyst.analysed c.run_line.new.analyst)
    (Ok c.in-Ok-Accepted.field-0) c.in-Ok-Accepted.ensures.turn

pub size_cause-code-requires : goal.size_cause-code-requires
size_cause-code-requires g c =
    large_told c.args.line.number c.args.line.bytes.now c.args.session.now.core c.run_line.new.session.core c.args.out.now.spoken c.run_line.new.out.spoken
    (g.A.Analyst.analysed c.args.analyst.now) (g.A.Analyst.analysed c.run_line.new.analyst) _
    c.in-Ok-TooLarge.size c.in-Ok-TooLarge.field-0-is c.in-Ok-TooLarge.ensures.turn c.circuit.result.now c.circuit.ensures.value

pub returns-in-Ok-TooLarge-clause-said : goal.returns-in-Ok-TooLarge-clause-said
returns-in-Ok-TooLarge-clause-said g c =
    large_said c.args.line.number c.args.line.bytes.now c.args.session.now.core c.run_line.new.session.core c.args.out.now.spoken c.run_line.new.out.spoken
    (g.A.Analyst.analysed c.args.analyst.now) (g.A.Analyst.analysed c.run_line.new.analyst) _
    c.in-Ok-TooLarge.size c.in-Ok-TooLarge.field-0-is c.in-Ok-TooLarge.ensures.turn c.circuit.result.now c.circuit.ensures.value
    c.refuse_named.new.out.spoken.talk c.refuse_named.result (_, c.size_cause-code.ensures, c.refuse_named.ensures.said)

pub returns-in-Err-clause-said : goal.returns-in-Err-clause-said
returns-in-Err-clause-said g c =
    stopped_said c.args.line.number c.args.line.bytes.now c.args.session.now.core c.run_line.new.session.core c.args.out.now.spoken c.run_line.new.out.spoken
    (g.A.Analyst.analysed c.args.analyst.now) (g.A.Analyst.analysed c.run_line.new.analyst)
    c.in-Err.stop c.in-Err.ensures.turn

pub returns-in-Err-clause-hearing : goal.returns-in-Err-clause-hearing
returns-in-Err-clause-hearing g c =
    turn_unheard c.args.line.number c.args.line.bytes.now c.args.session.now.core c.run_line.new.session.core c.args.out.now.spoken c.run_line.new.out.spoken
    (g.A.Analyst.analysed c.args.analyst.now) (g.A.Analyst.analysed c.run_line.new.analyst)
    (Err c.in-Err.stop) c.in-Err.ensures.turn
