-- What was heard is what the command comes to.
use Rattle.std.proofs.Common.{◌∙◌, refl, sym}
use Rattle.symbol_looking.specs.Names.{all_shown}
use Rattle.symbol_looking.specs.Tellings.{tellings}
use Rattle.symbol_looking.proofs.HeardLemmas.{faults_told, tells_heard}
use Rattle.symbol_looking.proofs.MergingLemmas.{session_shown}
use Rattle.symbol_looking.proofs.showing.show.Goals as goal

pub returns-in-Some-clause-tells : goal.returns-in-Some-clause-tells
returns-in-Some-clause-tells g c = (sym c.in-Some.ensures, refl)

pub returns-in-Some-clause-merged : goal.returns-in-Some-clause-merged
returns-in-Some-clause-merged g c = session_shown c.args.session.now c.args.names.now

pub returns-in-None-clause-tells : goal.returns-in-None-clause-tells
returns-in-None-clause-tells g c =
    rw c.applied.ensures
    (tells_heard g.L.SymbolLines.hear g.L.SymbolLines.part _ (tellings (all_shown c.args.session.now c.args.names.now))
    (g.L.SymbolLines.heard c.args.out.now) (g.L.SymbolLines.heard c.show_all.new.out) c.show_all.result (sym c.in-None.ensures) c.show_all.ensures.heard)

pub returns-in-None-clause-merged : goal.returns-in-None-clause-merged
returns-in-None-clause-merged g c = session_shown c.args.session.now c.args.names.now

pub returns-in-None-clause-faults : goal.returns-in-None-clause-faults
returns-in-None-clause-faults g c =
    rw c.applied.ensures (c.show_all.ensures.faults ∙ faults_told (g.L.SymbolLines.faults c.args.out.now) c.show_all.result)
