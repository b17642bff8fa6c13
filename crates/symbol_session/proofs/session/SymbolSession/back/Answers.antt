-- It is refused if nothing is kept; else in each column the states that are kept are given back.
use Rattle.std.proofs.Common.{◌≡◌, ◌+◌, refl, sym, ◌∙◌}
use Rattle.session_meaning.specs.declared.fault.Refusal.TheVariants.{NoSave}
use Rattle.symbol_session.specs.Keeping.{before_save, kept_by, letters_from, nodes_under}
use Rattle.symbol_session.specs.Sessions.{maker_of}
use Rattle.symbol_session.proofs.BackLemmas.{back_done, back_refused, letters_railed, letters_within, pairs_own, pairs_past, pairs_within}
use Rattle.symbol_session.proofs.DataLemmas.{keeps_same, stays_same}
use Rattle.symbol_session.proofs.session.SymbolSession.back.Goals as goal

pub returns-then-not-there-clause-quiet : goal.returns-then-not-there-clause-quiet
returns-then-not-there-clause-quiet c =
    let none = sym c.found-found.ensures.there ∙ c.if-not-there.true in
    ((NoSave, refl, λ column inside. back_refused c.args.self.now c.args.name.now none column), λ column inside. refl)

pub returns-then-not-there-clause-stays : goal.returns-then-not-there-clause-stays
returns-then-not-there-clause-stays c = stays_same c.args.self.now

pub returns-then-not-there-clause-keeps : goal.returns-then-not-there-clause-keeps
returns-then-not-there-clause-keeps c = keeps_same (maker_of c.args.self.now)

pub letters_kept-requires-clause-within : goal.letters_kept-requires-clause-within
letters_kept-requires-clause-within c =
    let there = sym c.found-found.ensures.there ∙ c.if-not-there.false in
    rw (c.found-found.ensures.place, c.found-found.ensures.nodes)
    (letters_within c.args.self.now c.is_well_formed.ensures.own c.is_well_formed.ensures.session c.args.name.now there)

pub letters_kept-requires-clause-railed : goal.letters_kept-requires-clause-railed
letters_kept-requires-clause-railed c =
    let there = sym c.found-found.ensures.there ∙ c.if-not-there.false in
    rw c.found-found.ensures.nodes
    (letters_railed c.args.self.now c.is_well_formed.ensures.own c.is_well_formed.ensures.session c.args.name.now there)

pub put_letters-requires : goal.put_letters-requires
put_letters-requires c =
    let d = c.args.self.now in
    let name = c.args.name.now in
    let own = c.is_well_formed.ensures.own in
    let held = c.is_well_formed.ensures.session in
    let there = sym c.found-found.ensures.there ∙ c.if-not-there.false in
    let are : c.in-Ok.pairs.items ≡ letters_from d.kept (1 + kept_by (before_save d.saves name)) (nodes_under d.saves name) =
    rw (c.found-found.ensures.place, c.found-found.ensures.nodes) at c.in-Ok.ensures in
    rw c.deref.ensures.value
    (record {
      within = pairs_within d own held name there c.in-Ok.pairs.items are;
      past = pairs_past d own held name there c.in-Ok.pairs.items are;
      own = pairs_own d own held name there c.in-Ok.pairs.items are;
    })

pub returns-in-Ok-clause-quiet : goal.returns-in-Ok-clause-quiet
returns-in-Ok-clause-quiet c =
    let there = sym c.found-found.ensures.there ∙ c.if-not-there.false in
    back_done c.args.self.now c.is_well_formed.ensures.own c.is_well_formed.ensures.session c.args.name.now there c.in-Ok.pairs.items
    (rw (c.found-found.ensures.place, c.found-found.ensures.nodes) at c.in-Ok.ensures) c.put_letters.new.self
    (rw c.deref.ensures.value at c.put_letters.ensures.given)

pub returns-in-Err-clause-stays : goal.returns-in-Err-clause-stays
returns-in-Err-clause-stays c = stays_same c.args.self.now

pub returns-in-Err-clause-keeps : goal.returns-in-Err-clause-keeps
returns-in-Err-clause-keeps c = keeps_same (maker_of c.args.self.now)
