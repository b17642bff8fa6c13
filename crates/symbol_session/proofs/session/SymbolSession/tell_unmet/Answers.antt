-- The session's columns tell what isn't met, whatever was missed and kept; its maker made more.
use Rattle.std.proofs.Common.{drop}
use Rattle.symbol_giving.specs.Giving as own_columns
use Rattle.symbol_expecting.proofs.ColumnLemmas.{expects_beside}
use Rattle.symbol_session.specs.Sessions.{SymbolData, maker_of, missed_by, saves_by}
use Rattle.symbol_session.proofs.DataLemmas.{stays_on}
use Rattle.symbol_session.proofs.MadeLemmas.{goes_made, held_made, same_made}
use Rattle.symbol_session.proofs.session.SymbolSession.tell_unmet.Goals as goal

pub expect-requires-clause-table : goal.expect-requires-clause-table
expect-requires-clause-table g c = c.self.invariant.0.named

pub expect-requires-clause-count : goal.expect-requires-clause-count
expect-requires-clause-count g c = c.self.invariant.0.counted

pub invariant_of-self : goal.invariant_of-self
invariant_of-self g c =
    let i = c.self.inside in
    let old : SymbolData = record { session = i.session; names = i.outside.names; kept = i.outside.kept.items; saves = i.saves.items; count = i.count; quiet = i.quiet; text = i.text.text } in
    let (own, notes) = c.self.invariant in
    (held_made old c.expect.new.session c.expect.ensures.only own, notes)

pub returns : goal.returns
returns g c =
    let i = c.self.inside in
    let old : SymbolData = record { session = i.session; names = i.outside.names; kept = i.outside.kept.items; saves = i.saves.items; count = i.count; quiet = i.quiet; text = i.text.text } in
    let goes = goes_made old c.expect.new.session c.expect.ensures.only in
    rw (← c.self.view_is)
    (record {
      told = λ v meant.
          expects_beside v (own_columns.data_of old.session) (missed_by (maker_of old) old.kept) (λ column. saves_by (maker_of old) old.saves (drop 1 old.kept) column)
          c.args.list.now g.L.SymbolLines.hear g.L.SymbolLines.part (g.L.SymbolLines.heard c.args.out.now) (g.L.SymbolLines.heard c.expect.new.out)
          c.expect.result (c.expect.ensures.told v meant);
      core = c.expect.ensures.only.core;
      same = same_made old c.expect.new.session c.expect.ensures.only c.self.invariant.0;
      stays = stays_on old (record old { session = c.expect.new.session }) c.self.invariant.0 goes;
      keeps = goes.keeps;
      faults = c.expect.ensures.faults;
      refusals = c.expect.ensures.refusals;
    })
