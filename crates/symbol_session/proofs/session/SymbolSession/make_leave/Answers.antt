-- The functions have a maker of their own.
use Rattle.std.proofs.Common.{All, sym, ap, subst, ◌∙◌}
use Rattle.truth_makers.specs.Makers.{IsFunctionOf}
use Rattle.symbol_stage.specs.Stages.{StageData}
use Rattle.symbol_session.specs.Sessions.{SymbolData, maker_of}
use Rattle.symbol_session.proofs.TidyLemmas.{own_stand}
use Rattle.symbol_session.proofs.session.SymbolSession.make_leave.Goals as goal

pub compact-requires-clause-inside : goal.compact-requires-clause-inside
compact-requires-clause-inside c =
    rw (c.deref.ensures.value, c.symbols-symbols.ensures, c.stage.ensures.value)
    (subst (λ (d : SymbolData). All (IsFunctionOf (maker_of d)) c.args.others.now.items) (sym c.self.view_is) c.requires)

pub returns-in-Ok-clause-moved : goal.returns-in-Ok-clause-moved
returns-in-Ok-clause-moved c =
    rw (← c.self.view_is)
    (own_stand c.self.inside.session.stage.machine.maker c.symbols-symbols.result.now c.in-Ok.own c.args.others.now.items c.deref.result.now c.in-Ok.found.items
    (c.symbols-symbols.ensures ∙ ap (λ (stage : StageData). stage.machine.maker) c.stage.ensures.value) c.deref.ensures.value c.in-Ok.ensures.columns
    c.in-Ok.ensures.counted c.in-Ok.ensures.inside c.in-Ok.ensures.same)
