-- Each family of commands has its own call; what tells nothing is heard by nobody.
use Rattle.std.proofs.Common.{refl, sym, subst}
use Rattle.script_lang.specs.declared.command.Command.TheVariants as family
use Rattle.script_lang.specs.Forms.{IsFormed}
use Rattle.symbol_session.specs.Asked.{IsOfScript}
use Rattle.symbol_session.specs.Sessions.{data_of, maker_of, valuations_by}
use Rattle.symbol_session.proofs.DataLemmas.{keeps_same, stays_same}
use Rattle.symbol_session.proofs.FaultLemmas.{memory_own, own_faults, own_refusals, own_stops}
use Rattle.symbol_session.proofs.QuietLemmas.{quiet_turn}
use Rattle.symbol_session.proofs.session.SymbolSession.obey_plain.Goals as goal

pub give_back-requires : goal.give_back-requires
give_back-requires g c = subst IsOfScript c.in-Give.is c.requires.1

pub set_up-requires : goal.set_up-requires
set_up-requires g c = (subst IsFormed c.in-Setup.is c.requires.0, subst IsOfScript c.in-Setup.is c.requires.1)

pub run-requires : goal.run-requires
run-requires g c = subst IsOfScript c.in-Run.is c.requires.1

pub tell-requires : goal.tell-requires
tell-requires g c = subst IsOfScript c.in-Tell.is c.requires.1

-- ---- edits

pub returns-in-Edit-clause-turn : goal.returns-in-Edit-clause-turn
returns-in-Edit-clause-turn g c =
    let d = c.args.self.now in
    let new = c.edit.new.self in
    rw c.in-Edit.is
    (quiet_turn (maker_of new) g.L.SymbolLines.hear g.L.SymbolLines.part (valuations_by d) (data_of d) (data_of new) (g.L.SymbolLines.heard c.args.out.now)
    (g.A.Analyst.analysed c.args.analyst.now) _ c.is_well_formed.ensures.own.shape (family.Edit c.in-Edit.edit) refl c.edit.result c.edit.ensures.quiet)

pub returns-in-Edit-clause-number : goal.returns-in-Edit-clause-number
returns-in-Edit-clause-number g c = own_stops c.args.number c.edit.result (memory_own c.args.number c.edit.result c.edit.ensures.memory)

pub returns-in-Edit-clause-write : goal.returns-in-Edit-clause-write
returns-in-Edit-clause-write g c =
    sym (own_faults c.args.number c.edit.result (memory_own c.args.number c.edit.result c.edit.ensures.memory) (g.L.SymbolLines.faults c.args.out.now))

pub returns-in-Edit-clause-refused : goal.returns-in-Edit-clause-refused
returns-in-Edit-clause-refused g c =
    own_refusals c.args.number c.edit.result (memory_own c.args.number c.edit.result c.edit.ensures.memory) (g.L.SymbolLines.refusals c.args.out.now)

-- ---- what gives states back

pub returns-in-Give-clause-turn : goal.returns-in-Give-clause-turn
returns-in-Give-clause-turn g c =
    let d = c.args.self.now in
    let new = c.give_back.new.self in
    rw c.in-Give.is
    (quiet_turn (maker_of new) g.L.SymbolLines.hear g.L.SymbolLines.part (valuations_by d) (data_of d) (data_of new) (g.L.SymbolLines.heard c.args.out.now)
    (g.A.Analyst.analysed c.args.analyst.now) _ c.is_well_formed.ensures.own.shape (family.Give c.in-Give.give) refl c.give_back.result c.give_back.ensures.quiet)

pub returns-in-Give-clause-number : goal.returns-in-Give-clause-number
returns-in-Give-clause-number g c = own_stops c.args.number c.give_back.result (memory_own c.args.number c.give_back.result c.give_back.ensures.memory)

pub returns-in-Give-clause-write : goal.returns-in-Give-clause-write
returns-in-Give-clause-write g c =
    sym (own_faults c.args.number c.give_back.result (memory_own c.args.number c.give_back.result c.give_back.ensures.memory) (g.L.SymbolLines.faults c.args.out.now))

pub returns-in-Give-clause-refused : goal.returns-in-Give-clause-refused
returns-in-Give-clause-refused g c =
    own_refusals c.args.number c.give_back.result (memory_own c.args.number c.give_back.result c.give_back.ensures.memory) (g.L.SymbolLines.refusals c.args.out.now)

-- ---- settings

pub returns-in-Setup-clause-turn : goal.returns-in-Setup-clause-turn
returns-in-Setup-clause-turn g c =
    let d = c.args.self.now in
    let new = c.set_up.new.self in
    rw c.in-Setup.is
    (quiet_turn (maker_of new) g.L.SymbolLines.hear g.L.SymbolLines.part (valuations_by d) (data_of d) (data_of new) (g.L.SymbolLines.heard c.args.out.now)
    (g.A.Analyst.analysed c.args.analyst.now) _ c.is_well_formed.ensures.own.shape (family.Setup c.in-Setup.setup) refl c.set_up.result c.set_up.ensures.quiet)

pub returns-in-Setup-clause-number : goal.returns-in-Setup-clause-number
returns-in-Setup-clause-number g c = own_stops c.args.number c.set_up.result (memory_own c.args.number c.set_up.result c.set_up.ensures.memory)

pub returns-in-Setup-clause-write : goal.returns-in-Setup-clause-write
returns-in-Setup-clause-write g c =
    sym (own_faults c.args.number c.set_up.result (memory_own c.args.number c.set_up.result c.set_up.ensures.memory) (g.L.SymbolLines.faults c.args.out.now))

pub returns-in-Setup-clause-refused : goal.returns-in-Setup-clause-refused
returns-in-Setup-clause-refused g c =
    own_refusals c.args.number c.set_up.result (memory_own c.args.number c.set_up.result c.set_up.ensures.memory) (g.L.SymbolLines.refusals c.args.out.now)

-- ---- what moves, and what tells

pub returns-in-Run-clause-turn : goal.returns-in-Run-clause-turn
returns-in-Run-clause-turn g c = rw c.in-Run.is c.run.ensures.turn

pub returns-in-Tell-clause-turn : goal.returns-in-Tell-clause-turn
returns-in-Tell-clause-turn g c = rw c.in-Tell.is (c.tell.ensures.turn (g.A.Analyst.analysed c.args.analyst.now))

pub returns-in-Tell-clause-stays : goal.returns-in-Tell-clause-stays
returns-in-Tell-clause-stays g c = stays_same c.args.self.now

pub returns-in-Tell-clause-keeps : goal.returns-in-Tell-clause-keeps
returns-in-Tell-clause-keeps g c = keeps_same (maker_of c.args.self.now)

pub returns-in-Tell-clause-number : goal.returns-in-Tell-clause-number
returns-in-Tell-clause-number g c = c.tell.ensures.number c.args.number
