-- The phase and its line; or the phase alone was broken off, and nothing was heard.
use Rattle.std.proofs.Common.{inl, refl, sym}
use Rattle.std.proofs.lemmas.Result.{err_from_is_err_and}
use Rattle.truth_parts.proofs.KeptLemmas.{passed_on}
use Rattle.symbol_session.specs.Turns.{IsOwnFault}
use Rattle.symbol_session.proofs.FaultLemmas.{own_faults, own_refusals, own_stops}
use Rattle.symbol_session.proofs.MovedLemmas.{phase_told}
use Rattle.symbol_session.proofs.session.SymbolSession.phase.Goals as goal

pub returns-in_err-told : goal.returns-in_err-told
returns-in_err-told g c =
    let ended = c.from_residual.result in
    let own = passed_on (IsOwnFault c.args.number) ended _ c.from_residual.ensures.1 c.in_err-told.ensures.own in
    record {
      stays = c.move_phase.ensures.stays;
      keeps = c.move_phase.ensures.keeps;
      fits = c.move_phase.ensures.fits;
      clocks = c.move_phase.ensures.clocks;
      moves = rw (err_from_is_err_and ended c.from_residual.ensures.1).1 (inl refl);
      number = own_stops c.args.number ended own;
      write = sym (own_faults c.args.number ended own (g.L.SymbolLines.faults c.args.out.now));
      refused = own_refusals c.args.number ended own (g.L.SymbolLines.refusals c.args.out.now);
    }

pub returns-clause-moves : goal.returns-clause-moves
returns-clause-moves g c =
    phase_told c.args.self.now c.move_phase.new.self c.move_phase.ensures.keeps g.L.SymbolLines.hear g.L.SymbolLines.part (g.L.SymbolLines.heard c.args.out.now)
    (g.L.SymbolLines.heard c.tell_moved.new.out) c.in_ok-told.told c.tell_moved.ensures.merged c.tell_moved.result c.tell_moved.ensures.railed c.tell_moved.ensures.heard
    c.in_ok-told.ensures.settles

pub returns-clause-number : goal.returns-clause-number
returns-clause-number g c = c.tell_moved.ensures.number c.args.number
