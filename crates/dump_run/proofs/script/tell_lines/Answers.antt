-- What the session says of the command, as what is told of it.
use Rattle.dump_run.proofs.TurnLemmas.{still_turn, still_rests}
use Rattle.dump_run.proofs.script.tell_lines.Goals as goal

pub returns-clause-turn : goal.returns-clause-turn
returns-clause-turn g c =
    rw c.turn_of.ensures.turn
    (still_turn c.args.session.now.core c.apply.new.self.core c.args.command.now c.args.out.now.sheet c.apply.new.out.sheet
    (g.A.Analyst.analysed c.args.analyst.now) (g.A.Analyst.analysed c.apply.new.analyst) c.requires.still c.requires.other _ _ c.apply.result
    c.apply.ensures.obeys)

pub returns-clause-rests : goal.returns-clause-rests
returns-clause-rests g c =
    rw c.turn_of.ensures.turn
    (still_rests c.args.session.now.core c.apply.new.self.core c.args.command.now c.args.out.now.sheet c.apply.new.out.sheet
    (g.A.Analyst.analysed c.args.analyst.now) (g.A.Analyst.analysed c.apply.new.analyst) c.requires.still c.requires.other _ _ c.apply.result
    c.apply.ensures.obeys c.requires.rests)
