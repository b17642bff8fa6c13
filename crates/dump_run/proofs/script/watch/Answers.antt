-- The command was accepted, and its words were watched, or not all of them for lack of memory.
use Rattle.std.proofs.Common.{Ok, ap, sym, ◌∙◌}
use Rattle.std.proofs.lemmas.Result.{err_from_is_err_and}
use Rattle.dump_run.proofs.TurnLemmas.{watch_cut, watch_rests, watch_turn}
use Rattle.dump_run.proofs.script.watch.Goals as goal

pub returns-in_err-watch_all-in-Accepted-clause-turn : goal.returns-in_err-watch_all-in-Accepted-clause-turn
returns-in_err-watch_all-in-Accepted-clause-turn g c =
    let stopped = c.from_residual-in_err-watch_all-in-Accepted in
    let p = err_from_is_err_and stopped.result stopped.ensures.1 in
    rw (p.1, c.requires.is)
    (watch_cut c.args.session.now.core c.apply.new.self.core c.args.names.now c.args.out.now.sheet c.apply.new.out.sheet c.watch_all.new.out.sheet _ _
    (sym c.is_begun.ensures ∙ c.if-is_begun.false) _ _ c.apply.result (rw c.requires.is at c.apply.ensures.obeys)
    (sym c.turn_of.ensures.turn ∙ c.in_ok-turn.was ∙ ap Ok c.in-Accepted.is) p.0 c.watch_all.ensures.due c.watch_all.ensures.sink)

pub returns-in_ok-watch_all-in-Accepted-clause-turn : goal.returns-in_ok-watch_all-in-Accepted-clause-turn
returns-in_ok-watch_all-in-Accepted-clause-turn g c =
    rw c.requires.is
    (watch_turn c.args.session.now.core c.apply.new.self.core c.args.names.now c.args.out.now.sheet c.apply.new.out.sheet c.watch_all.new.out.sheet _ _
    (sym c.is_begun.ensures ∙ c.if-is_begun.false) _ _ c.apply.result (rw c.requires.is at c.apply.ensures.obeys)
    (sym c.turn_of.ensures.turn ∙ c.in_ok-turn.was ∙ ap Ok c.in-Accepted.is) (rw c.items.ensures at c.in_ok-watch_all-in-Accepted.ensures.ok))

pub returns-in_ok-watch_all-in-Accepted-clause-rests : goal.returns-in_ok-watch_all-in-Accepted-clause-rests
returns-in_ok-watch_all-in-Accepted-clause-rests g c =
    watch_rests c.args.session.now.core c.apply.new.self.core c.args.names.now c.args.out.now.sheet c.apply.new.out.sheet c.watch_all.new.out.sheet _ _
    (sym c.is_begun.ensures ∙ c.if-is_begun.false) _ _ c.apply.result (rw c.requires.is at c.apply.ensures.obeys)
    (sym c.turn_of.ensures.turn ∙ c.in_ok-turn.was ∙ ap Ok c.in-Accepted.is) c.requires.session.core c.requires.rests
    (rw c.items.ensures at c.in_ok-watch_all-in-Accepted.ensures.ok)
