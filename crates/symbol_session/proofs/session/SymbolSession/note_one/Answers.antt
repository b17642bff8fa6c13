-- The function that is kept first goes on; all else is as before.
use Rattle.std.proofs.Common.{sym, subst}
use Rattle.symbol_giving.specs.StandIns.{IsGiven}
use Rattle.symbol_session.specs.Sessions.{SymbolData}
use Rattle.symbol_session.proofs.DataLemmas.{stays_on}
use Rattle.symbol_session.proofs.MadeLemmas.{goes_made, held_made}
use Rattle.symbol_session.proofs.NotingLemmas.{first_inside, noted_by, noted_held, noted_stays}
use Rattle.symbol_session.proofs.session.SymbolSession.note_one.Goals as goal

pub first_of-before-requires : goal.first_of-before-requires
first_of-before-requires c = rw c.deref.ensures.value c.self.invariant.0.missed

pub missed_with-requires-clause-table : goal.missed_with-requires-clause-table
missed_with-requires-clause-table c = c.self.invariant.0.named

pub missed_with-requires-clause-given : goal.missed_with-requires-clause-given
missed_with-requires-clause-given c =
    subst (λ (d : SymbolData). IsGiven d.session.core.circuit d.session.core.vectors c.args.own.now) (sym c.self.view_is) c.requires

pub missed_with-requires-clause-before : goal.missed_with-requires-clause-before
missed_with-requires-clause-before c =
    let i = c.self.inside in
    let old : SymbolData = record { session = i.session; names = i.outside.names; kept = i.outside.kept.items; saves = i.saves.items; count = i.count; quiet = i.quiet; text = i.text.text } in
    first_inside i.session.stage.machine.maker old.kept c.self.invariant.0.inside c.self.invariant.0.missed c.first_of-before.result
    (rw c.deref.ensures.value at c.first_of-before.ensures)

pub put_first-requires : goal.put_first-requires
put_first-requires c = c.self.invariant.0.missed

pub invariant_of-self : goal.invariant_of-self
invariant_of-self c =
    let i = c.self.inside in
    let old : SymbolData = record { session = i.session; names = i.outside.names; kept = i.outside.kept.items; saves = i.saves.items; count = i.count; quiet = i.quiet; text = i.text.text } in
    let (own, notes) = c.self.invariant in (
      rw c.put_first.ensures
          (noted_held old own c.missed_with.new.session c.missed_with.ensures.only c.in-Ok.made c.in-Ok.ensures.inside c.args.own.now),
      notes,
    )

pub invariant_of-self-in-Err : goal.invariant_of-self-in-Err
invariant_of-self-in-Err c =
    let i = c.self.inside in
    let old : SymbolData = record { session = i.session; names = i.outside.names; kept = i.outside.kept.items; saves = i.saves.items; count = i.count; quiet = i.quiet; text = i.text.text } in
    let (own, notes) = c.self.invariant in
    (held_made old c.missed_with.new.session c.missed_with.ensures.only own, notes)

pub returns-in-Ok : goal.returns-in-Ok
returns-in-Ok c =
    let i = c.self.inside in
    let old : SymbolData = record { session = i.session; names = i.outside.names; kept = i.outside.kept.items; saves = i.saves.items; count = i.count; quiet = i.quiet; text = i.text.text } in
    let session = c.missed_with.new.session in
    let only = c.missed_with.ensures.only in
    rw (← c.self.view_is, c.put_first.ensures)
    (record {
      notes = noted_by old c.self.invariant.0 session only c.in-Ok.made c.in-Ok.ensures.inside c.args.own.now c.first_of-before.result
          (rw c.deref.ensures.value at c.first_of-before.ensures) c.in-Ok.ensures.holds;
      core = only.core;
      stays = noted_stays old c.self.invariant.0 session only c.in-Ok.made c.in-Ok.ensures.inside c.args.own.now;
      keeps = (goes_made old session only).keeps;
    })

pub returns-in-Err : goal.returns-in-Err
returns-in-Err c =
    let i = c.self.inside in
    let only = c.missed_with.ensures.only in
    let old : SymbolData = record { session = i.session; names = i.outside.names; kept = i.outside.kept.items; saves = i.saves.items; count = i.count; quiet = i.quiet; text = i.text.text } in
    let session = c.missed_with.new.session in
    rw (← c.self.view_is)
    (record {
      notes = tt;
      core = only.core;
      stays = stays_on old (record old { session = session }) c.self.invariant.0 (goes_made old session only);
      keeps = (goes_made old session only).keeps;
    })
