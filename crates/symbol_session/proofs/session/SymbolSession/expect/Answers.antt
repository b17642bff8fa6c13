-- What isn't met is told, and then remembered.
use Rattle.std.proofs.Common.{ℕ, All, sym, subst, ◌∙◌, arith}
use Rattle.session_meaning.specs.Sessions.{SessionData}
use Rattle.symbol_giving.specs.StandIns.{IsGiven}
use Rattle.symbol_run.specs.Turns.{RefusedStopped}
use Rattle.symbol_session.specs.Sessions.{data_of, maker_of, valuations_by}
use Rattle.symbol_session.proofs.DataLemmas.{inside_columns, keeps_both}
use Rattle.symbol_session.proofs.ExpectLemmas.{all_given_here, are_meant, expect_stopped, expected_faults, expected_refusals, expected_stops, plain_still, remembered}
use Rattle.symbol_session.proofs.FaultLemmas.{own_faults, own_refusals, own_stops}
use Rattle.symbol_session.proofs.MovedLemmas.{stays_both}
use Rattle.symbol_session.proofs.session.SymbolSession.expect.Goals as goal

pub remember-requires : goal.remember-requires
remember-requires g c =
    let old = c.args.self.now in
    subst (λ (s : SessionData). All (IsGiven s.circuit s.vectors) c.args.list.now) (sym c.tell_unmet.ensures.core)
    (all_given_here old (omega (arith, c.is_well_formed.ensures.session.some)) c.args.list.now (λ v meant. (c.in-Ok.ensures.told v meant).0))

pub returns-in-Ok-clause-turn : goal.returns-in-Ok-clause-turn
returns-in-Ok-clause-turn g c =
    let old = c.args.self.now in
    let mid = c.tell_unmet.new.self in
    let new = c.remember.new.self in
    let own = c.is_well_formed.ensures.own in
    let list = c.args.list.now in
    λ known texts.
    let meant = are_meant old own list known in
    remembered (maker_of new) g.L.SymbolLines.hear g.L.SymbolLines.part old own list (g.L.SymbolLines.heard c.args.out.now) (g.L.SymbolLines.heard c.tell_unmet.new.out) texts
    mid new c.tell_unmet.ensures.same c.tell_unmet.ensures.keeps.count
    (λ column inside. plain_still old mid c.tell_unmet.ensures.core c.tell_unmet.ensures.stays list column (inside_columns old own column inside) ∙ sym (meant.plain column inside))
    c.in-Ok.missed (c.in-Ok.ensures.told (valuations_by old) meant) c.remember.result c.remember.ensures.notes

pub returns-in-Ok-clause-stays : goal.returns-in-Ok-clause-stays
returns-in-Ok-clause-stays g c =
    stays_both c.args.self.now c.tell_unmet.new.self c.remember.new.self c.tell_unmet.ensures.keeps.count c.tell_unmet.ensures.stays c.remember.ensures.stays

pub returns-in-Ok-clause-keeps : goal.returns-in-Ok-clause-keeps
returns-in-Ok-clause-keeps g c =
    keeps_both (maker_of c.args.self.now) (maker_of c.tell_unmet.new.self) (maker_of c.remember.new.self) c.tell_unmet.ensures.keeps c.remember.ensures.keeps

pub returns-in-Ok-clause-number : goal.returns-in-Ok-clause-number
returns-in-Ok-clause-number g c = own_stops c.args.number c.remember.result c.remember.ensures.own

pub returns-in-Ok-clause-write : goal.returns-in-Ok-clause-write
returns-in-Ok-clause-write g c =
    c.in-Ok.ensures.faults ∙ sym (own_faults c.args.number c.remember.result c.remember.ensures.own (g.L.SymbolLines.faults c.args.out.now))

pub returns-in-Ok-clause-refused : goal.returns-in-Ok-clause-refused
returns-in-Ok-clause-refused g c =
    subst (λ (now : ℕ). RefusedStopped (g.L.SymbolLines.refusals c.args.out.now) now c.remember.result) (sym c.in-Ok.ensures.refusals)
    (own_refusals c.args.number c.remember.result c.remember.ensures.own (g.L.SymbolLines.refusals c.args.out.now))

pub returns-in-Err-clause-turn : goal.returns-in-Err-clause-turn
returns-in-Err-clause-turn g c =
    let old = c.args.self.now in
    let mid = c.tell_unmet.new.self in
    let own = c.is_well_formed.ensures.own in
    let list = c.args.list.now in
    λ known texts.
    rw c.turn_expected.ensures
    (expect_stopped (maker_of mid) g.L.SymbolLines.hear g.L.SymbolLines.part old own list (g.L.SymbolLines.heard c.args.out.now)
    (g.L.SymbolLines.heard c.tell_unmet.new.out) texts (data_of mid) (λ column inside. c.tell_unmet.ensures.same column (inside_columns old own column inside))
    c.args.number c.in-Err.fault (c.in-Err.ensures.told (valuations_by old) (are_meant old own list known)))

pub returns-in-Err-clause-number : goal.returns-in-Err-clause-number
returns-in-Err-clause-number g c = rw c.turn_expected.ensures (expected_stops c.args.number c.in-Err.fault)

pub returns-in-Err-clause-write : goal.returns-in-Err-clause-write
returns-in-Err-clause-write g c =
    rw c.turn_expected.ensures (c.in-Err.ensures.faults ∙ sym (expected_faults c.args.number c.in-Err.fault (g.L.SymbolLines.faults c.args.out.now)))

pub returns-in-Err-clause-refused : goal.returns-in-Err-clause-refused
returns-in-Err-clause-refused g c =
    rw c.turn_expected.ensures
    (expected_refusals c.args.number c.in-Err.fault (g.L.SymbolLines.refusals c.args.out.now) (g.L.SymbolLines.refusals c.tell_unmet.new.out) c.in-Err.ensures.refusals)
