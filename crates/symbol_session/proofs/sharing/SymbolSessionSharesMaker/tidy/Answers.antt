-- The data of each column, the names and their truth values are as before, and so are the lines with which it is served.
use Rattle.std.proofs.Common.{◌≡◌, ℕ, ◌<◌, List, Option, sym, subst, arith}
use Rattle.std.proofs.lemmas.List.{with_items_is}
use Rattle.symbol_equiv.specs.Sharing.{StandFor}
use Rattle.symbol_session.specs.Sessions.{ServesLines, SymbolData, data_of, maker_of, valuations_by}
use Rattle.symbol_session.proofs.DataLemmas.{inside_columns}
use Rattle.symbol_session.proofs.ServeLemmas.{serves_still, valuations_stay}
use Rattle.symbol_session.proofs.sharing.SymbolSessionSharesMaker.tidy.Goals as goal

pub returns-clause-quiet : goal.returns-clause-quiet
returns-clause-quiet c = subst (λ (d : SymbolData). d.quiet ≡ c.args.self.now.quiet) (sym c.note_left.ensures) c.tidy_with.ensures.stays.quiet

pub returns-clause-valuations : goal.returns-clause-valuations
returns-clause-valuations c =
    subst (λ (d : SymbolData). valuations_by d ≡ valuations_by c.args.self.now) (sym c.note_left.ensures)
    (valuations_stay c.args.self.now c.tidy_with.new.self c.tidy_with.ensures.stays.quiet c.tidy_with.ensures.stays.text)

pub returns-clause-sessions : goal.returns-clause-sessions
returns-clause-sessions c =
    subst (λ (d : SymbolData). (column : ℕ) → column < (valuations_by c.args.self.now).columns → data_of d column ≡ data_of c.args.self.now column) (sym c.note_left.ensures)
    (λ column inside. c.tidy_with.ensures.same column (inside_columns c.args.self.now c.is_well_formed.ensures.own column inside))

pub returns-clause-serves : goal.returns-clause-serves
returns-clause-serves c =
    subst (λ (d : SymbolData). (cut : Option ℕ) (lines : List (ℕ × List ℕ)) → ServesLines c.args.self.now cut lines → ServesLines d cut lines) (sym c.note_left.ensures)
    (serves_still c.args.self.now c.tidy_with.new.self c.is_well_formed.ensures.own c.tidy_with.ensures.stays.quiet c.tidy_with.ensures.stays.text
    c.tidy_with.ensures.stays.names c.tidy_with.ensures.stays.truths)

pub tidy_with-requires : goal.tidy_with-requires
tidy_with-requires c = rw c.deref_mut.ensures.value c.requires.inside

pub returns-clause-moved : goal.returns-clause-moved
returns-clause-moved c =
    let old = c.args.others.now in
    let others = with_items_is old c.tidy_with.new.others (omega (arith, c.tidy_with.auto.others, c.deref_mut.ensures.len)) in
    let moved : StandFor (maker_of c.args.self.now) (maker_of c.tidy_with.new.self) old.items c.tidy_with.new.others =
    rw c.deref_mut.ensures.value at c.tidy_with.ensures.moved in
    rw (c.note_left.ensures, others) moved
