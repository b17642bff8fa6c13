-- The session and what is kept beside it were tidied, and all is as before but which functions stand for it.
use Rattle.std.proofs.Common.{All, refl, sym, subst}
use Rattle.truth_makers.specs.Makers.{IsFunctionOf}
use Rattle.symbol_session.specs.Sessions.{SymbolData, maker_of}
use Rattle.symbol_session.proofs.TidyLemmas.{moved_stand, tidied_same, tidied_session, tidied_stays}
use Rattle.symbol_session.proofs.session.SymbolSession.tidy_with.Goals as goal

pub tidy_parts-requires-clause-named : goal.tidy_parts-requires-clause-named
tidy_parts-requires-clause-named c = c.self.invariant.0.named

pub tidy_parts-requires-clause-kept : goal.tidy_parts-requires-clause-kept
tidy_parts-requires-clause-kept c = c.self.invariant.0.inside

pub tidy_parts-requires-clause-others : goal.tidy_parts-requires-clause-others
tidy_parts-requires-clause-others c =
    subst (λ (d : SymbolData). All (IsFunctionOf (maker_of d)) c.args.others.now) (sym c.self.view_is) c.requires

pub invariant_of-self : goal.invariant_of-self
invariant_of-self c =
    let i = c.self.inside in
    let old : SymbolData = record { session = i.session; names = i.outside.names; kept = i.outside.kept.items; saves = i.saves.items; count = i.count; quiet = i.quiet; text = i.text.text } in
    let outside = c.tidy_parts.new.outside in
    let new : SymbolData = record old { session = c.tidy_parts.new.session; names = outside.names; kept = outside.kept.items } in
    (tidied_session old new c.args.others.now c.tidy_parts.new.others c.tidy_parts.ensures.tidied refl refl refl refl c.self.invariant.0, c.tidy_parts.ensures.some)

pub returns : goal.returns
returns c =
    let i = c.self.inside in
    let old : SymbolData = record { session = i.session; names = i.outside.names; kept = i.outside.kept.items; saves = i.saves.items; count = i.count; quiet = i.quiet; text = i.text.text } in
    let outside = c.tidy_parts.new.outside in
    let new : SymbolData = record old { session = c.tidy_parts.new.session; names = outside.names; kept = outside.kept.items } in
    let others = c.tidy_parts.new.others in
    let tidied = c.tidy_parts.ensures.tidied in
    rw (← c.self.view_is)
    (record {
      stays = tidied_stays old new c.args.others.now others tidied refl refl refl refl c.self.invariant.0;
      same = tidied_same old new c.args.others.now others tidied refl refl refl refl c.self.invariant.0;
      moved = moved_stand i.session.stage.machine.maker c.tidy_parts.new.session.stage.machine.maker c.args.others.now others tidied.others_moved;
    })
