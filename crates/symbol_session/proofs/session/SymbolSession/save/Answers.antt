-- It is refused if too many other names keep states; else in each column the present states are kept.
use Rattle.std.proofs.Common.{◌≤◌, refl, arith}
use Rattle.session_meaning.specs.declared.TheConstants.{MOST_SAVES}
use Rattle.session_meaning.specs.declared.fault.Refusal.TheVariants.{TooManySaves}
use Rattle.symbol_session.specs.Sessions.{maker_of}
use Rattle.symbol_session.specs.Keeping.{other_saves}
use Rattle.symbol_session.proofs.DataLemmas.{keeps_same, stays_same}
use Rattle.symbol_session.proofs.KeptLemmas.{save_done, save_refused, saved_keeps, saved_stays}
use Rattle.symbol_session.proofs.session.SymbolSession.save.Goals as goal

pub returns-then-others-ge-MOST_SAVES-clause-quiet : goal.returns-then-others-ge-MOST_SAVES-clause-quiet
returns-then-others-ge-MOST_SAVES-clause-quiet c =
    let old = c.args.self.now in
    let many : MOST_SAVES ≤ other_saves old.saves c.args.name.now = omega (arith, c.others-others.ensures, c.if-others-ge-MOST_SAVES.true) in
    ((TooManySaves, refl, λ column inside. save_refused old c.args.name.now many column), λ column inside. refl)

pub returns-then-others-ge-MOST_SAVES-clause-stays : goal.returns-then-others-ge-MOST_SAVES-clause-stays
returns-then-others-ge-MOST_SAVES-clause-stays c = stays_same c.args.self.now

pub returns-then-others-ge-MOST_SAVES-clause-keeps : goal.returns-then-others-ge-MOST_SAVES-clause-keeps
returns-then-others-ge-MOST_SAVES-clause-keeps c = keeps_same (maker_of c.args.self.now)

pub returns-in-Ok-clause-quiet : goal.returns-in-Ok-clause-quiet
returns-in-Ok-clause-quiet c =
    λ column inside.
    save_done c.args.self.now c.keep_states.new.self c.args.name.now c.is_well_formed.ensures.own c.is_well_formed.ensures.session c.in-Ok.ensures.ok
    (omega (arith, c.others-others.ensures, c.if-others-ge-MOST_SAVES.false)) column inside

pub returns-in-Ok-clause-stays : goal.returns-in-Ok-clause-stays
returns-in-Ok-clause-stays c = saved_stays c.args.self.now c.keep_states.new.self c.args.name.now c.in-Ok.ensures.ok

pub returns-in-Ok-clause-keeps : goal.returns-in-Ok-clause-keeps
returns-in-Ok-clause-keeps c = saved_keeps c.args.self.now c.keep_states.new.self c.args.name.now c.in-Ok.ensures.ok

pub returns-in-Err-clause-stays : goal.returns-in-Err-clause-stays
returns-in-Err-clause-stays c = rw c.in-Err.ensures.err (stays_same c.args.self.now)

pub returns-in-Err-clause-keeps : goal.returns-in-Err-clause-keeps
returns-in-Err-clause-keeps c = rw c.in-Err.ensures.err (keeps_same (maker_of c.args.self.now))
