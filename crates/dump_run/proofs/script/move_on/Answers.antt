-- What the session says of the command, and the dump as its onlooker, as what is told of it.
use Rattle.std.proofs.Common.{◌≡◌, ℕ, OnOk, Ok, Result, ap, subst, sym}
use Rattle.std.proofs.lemmas.Result.{err_from_is_err_and}
use Rattle.run_ends.specs.declared.stop.Stop.{Stop}
use Rattle.script_meaning.specs.declared.turn.Turn.{Turn}
use Rattle.session_meaning.proofs.OutcomeLemmas.{on_ok-map}
use Rattle.wave_dump.specs.Writing.{DumpData, Sheet}
use Rattle.dump_run.specs.Turns.{DumpsCommand, Rests}
use Rattle.dump_run.proofs.TurnLemmas.{move_rests, move_turn, rests_known, turn_stopped, unseen_same}
use Rattle.dump_run.proofs.script.move_on.Given.{Over}
use Rattle.dump_run.proofs.script.move_on.Goals.{After-turn_of}
use Rattle.dump_run.proofs.script.move_on.Goals as goal

pub apply_seen-requires-clause-knows : goal.apply_seen-requires-clause-knows
apply_seen-requires-clause-knows g c = rests_known c.args.out.now.sheet c.args.session.now.core.state c.requires.rests

-- the command has ended
moved : (g : Over) (c : After-turn_of g) →
    DumpsCommand c.args.command.now c.args.session.now.core c.apply_seen.new.self.core c.args.out.now.sheet c.apply_seen.new.onlooker.sheet
    (g.A.Analyst.analysed c.args.analyst.now) (g.A.Analyst.analysed c.apply_seen.new.analyst) c.turn_of.result
moved g c =
    rw c.turn_of.ensures.turn
    (move_turn c.args.session.now.core c.apply_seen.new.self.core c.args.command.now c.args.out.now.sheet c.apply_seen.new.onlooker.sheet
    (g.A.Analyst.analysed c.args.analyst.now) (g.A.Analyst.analysed c.apply_seen.new.analyst) c.requires.moves c.requires.formed c.requires.session.core
    _ _ _ _ _ _ c.apply_seen.result c.apply_seen.ensures.obeys c.apply_seen.ensures.seen
    (unseen_same c.args.out.now c.apply_seen.new.onlooker c.apply_seen.result c.apply_seen.ensures.unseen))

-- and the dump is at rest
moved_rests : (g : Over) (c : After-turn_of g) → OnOk c.turn_of.result (Rests c.apply_seen.new.onlooker.sheet c.apply_seen.new.self.core.state)
moved_rests g c =
    rw c.turn_of.ensures.turn
    (move_rests c.args.session.now.core c.apply_seen.new.self.core c.args.command.now c.args.out.now.sheet c.apply_seen.new.onlooker.sheet
    (g.A.Analyst.analysed c.args.analyst.now) (g.A.Analyst.analysed c.apply_seen.new.analyst) c.requires.moves c.requires.formed c.requires.session.core
    _ _ _ _ _ _ c.apply_seen.result c.apply_seen.ensures.obeys c.apply_seen.ensures.seen
    (unseen_same c.args.out.now c.apply_seen.new.onlooker c.apply_seen.result c.apply_seen.ensures.unseen)
    (on_ok-map _ _ c.apply_seen.result (λ behind. record { known = behind.known; moves = behind.moves }) c.apply_seen.ensures.knows) c.requires.rests)

pub returns-in_err-turn-clause-turn : goal.returns-in_err-turn-clause-turn
returns-in_err-turn-clause-turn g c =
    let p = err_from_is_err_and c.from_residual.result c.from_residual.ensures.1 in
    rw p.1 (subst (λ (ended : Result Turn Stop). DumpsCommand c.args.command.now c.args.session.now.core c.apply_seen.new.self.core c.args.out.now.sheet
    c.apply_seen.new.onlooker.sheet (g.A.Analyst.analysed c.args.analyst.now) (g.A.Analyst.analysed c.apply_seen.new.analyst) ended) c.in_err-turn.was
    (moved g (goal.at.returns-in_err-turn-clause-turn g c).After-turn_of))

-- what was told stays as the dump answers, which counts alone
answered : {faults refusals : ℕ} (old new : DumpData) → new ≡ record old { faults = faults; refusals = refusals } → new.sheet ≡ old.sheet
answered old new same = ap (λ (dump : DumpData). dump.sheet) same

pub returns-in-Err-clause-turn : goal.returns-in-Err-clause-turn
returns-in-Err-clause-turn g c =
    rw (answered c.apply_seen.new.onlooker c.answer.new.self c.answer.ensures.same)
    (turn_stopped c.args.session.now.core c.apply_seen.new.self.core c.args.command.now c.args.out.now.sheet c.apply_seen.new.onlooker.sheet _ _ c.in_ok-turn.turn
    c.of_write.result (subst (λ (ended : Result Turn Stop). DumpsCommand c.args.command.now c.args.session.now.core c.apply_seen.new.self.core c.args.out.now.sheet
    c.apply_seen.new.onlooker.sheet (g.A.Analyst.analysed c.args.analyst.now) (g.A.Analyst.analysed c.apply_seen.new.analyst) ended) c.in_ok-turn.was
    (moved g (goal.at.returns-in-Err-clause-turn g c).After-turn_of)))

pub returns-in-Ok-clause-turn : goal.returns-in-Ok-clause-turn
returns-in-Ok-clause-turn g c =
    subst (λ (sheet : Sheet). DumpsCommand c.args.command.now c.args.session.now.core c.apply_seen.new.self.core c.args.out.now.sheet sheet
    (g.A.Analyst.analysed c.args.analyst.now) (g.A.Analyst.analysed c.apply_seen.new.analyst) (Ok c.in_ok-turn.turn))
    (sym (answered c.apply_seen.new.onlooker c.answer.new.self c.answer.ensures.same))
    (subst (λ (ended : Result Turn Stop). DumpsCommand c.args.command.now c.args.session.now.core c.apply_seen.new.self.core c.args.out.now.sheet
    c.apply_seen.new.onlooker.sheet (g.A.Analyst.analysed c.args.analyst.now) (g.A.Analyst.analysed c.apply_seen.new.analyst) ended) c.in_ok-turn.was
    (moved g (goal.at.returns-in-Ok-clause-turn g c).After-turn_of))

pub returns-in-Ok-clause-rests : goal.returns-in-Ok-clause-rests
returns-in-Ok-clause-rests g c =
    rw (answered c.apply_seen.new.onlooker c.answer.new.self c.answer.ensures.same)
    (subst (λ (ended : Result Turn Stop). OnOk ended (Rests c.apply_seen.new.onlooker.sheet c.apply_seen.new.self.core.state)) c.in_ok-turn.was
    (moved_rests g (goal.at.returns-in-Ok-clause-rests g c).After-turn_of))
