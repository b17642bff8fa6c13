-- The step and its line; or the step alone was broken off, and nothing was heard.
use Rattle.std.proofs.Common.{inl, refl, sym, arith}
use Rattle.std.proofs.lemmas.Result.{err_from_is_err_and}
use Rattle.truth_parts.proofs.KeptLemmas.{passed_on}
use Rattle.symbol_session.specs.Turns.{IsOwnFault}
use Rattle.symbol_session.proofs.FaultLemmas.{own_faults, own_refusals, own_stops}
use Rattle.symbol_session.proofs.MovedLemmas.{step_told}
use Rattle.symbol_session.proofs.session.SymbolSession.step.Goals as goal

pub returns-in_err-move_step-clause-moves : goal.returns-in_err-move_step-clause-moves
returns-in_err-move_step-clause-moves g c = rw (err_from_is_err_and c.from_residual.result c.from_residual.ensures.1).1 (inl refl)

pub returns-in_err-move_step-clause-number : goal.returns-in_err-move_step-clause-number
returns-in_err-move_step-clause-number g c = own_stops c.args.number c.from_residual.result (passed_on _ c.from_residual.result _ c.from_residual.ensures.1 c.in_err-move_step.ensures.own)

pub returns-in_err-move_step-clause-write : goal.returns-in_err-move_step-clause-write
returns-in_err-move_step-clause-write g c =
    let own = passed_on (IsOwnFault c.args.number) c.from_residual.result _ c.from_residual.ensures.1 c.in_err-move_step.ensures.own in
    sym (own_faults c.args.number c.from_residual.result own (g.L.SymbolLines.faults c.args.out.now))

pub returns-in_err-move_step-clause-refused : goal.returns-in_err-move_step-clause-refused
returns-in_err-move_step-clause-refused g c =
    let own = passed_on (IsOwnFault c.args.number) c.from_residual.result _ c.from_residual.ensures.1 c.in_err-move_step.ensures.own in
    own_refusals c.args.number c.from_residual.result own (g.L.SymbolLines.refusals c.args.out.now)

pub returns-clause-moves : goal.returns-clause-moves
returns-clause-moves g c =
    step_told c.args.self.now c.move_step.new.self c.move_step.ensures.keeps g.L.SymbolLines.hear g.L.SymbolLines.part (g.L.SymbolLines.heard c.args.out.now)
    (g.L.SymbolLines.heard c.tell_moved.new.out) c.one_step.result c.tell_moved.ensures.merged c.tell_moved.result c.tell_moved.ensures.railed c.tell_moved.ensures.heard
    (omega (arith, c.is_well_formed.ensures.session.some)) c.one_step.ensures c.in_ok-move_step.ensures.steps

pub returns-clause-number : goal.returns-clause-number
returns-clause-number g c = c.tell_moved.ensures.number c.args.number
