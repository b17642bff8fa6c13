-- Name by name.
use Rattle.std.proofs.Common.{sym, ◌∙◌, arith}
use Rattle.std.proofs.lemmas.List.{drop_all}
use Rattle.symbol_session.proofs.FoundLemmas.{found_here, found_none, found_nowhere, found_room, found_then}
use Rattle.symbol_session.proofs.keeping.found_save.Goals as goal

pub loop-k-init : goal.loop-k-init
loop-k-init c = found_none c.args.saves.now c.args.name.now

pub overflow_add-both : goal.overflow_add-both
overflow_add-both c = omega (arith, c.requires, found_room _ _ _ _ _ _ _ c.save_at-save.ensures c.loop-k.invariant)

pub overflow_add-place : goal.overflow_add-place
overflow_add-place c = omega (arith, c.requires, found_room _ _ _ _ _ _ _ c.save_at-save.ensures c.loop-k.invariant)

pub loop-k-preserved : goal.loop-k-preserved
loop-k-preserved c = found_then _ _ _ _ _ _ _ c.save_at-save.ensures c.loop-k.invariant (sym c.is_named-same.ensures ∙ c.if-same.false)

pub returns-then-same : goal.returns-then-same
returns-then-same c =
    let found = found_here _ _ _ _ _ _ _ c.save_at-save.ensures c.loop-k.invariant (sym c.is_named-same.ensures ∙ c.if-same.true) in
    record { there = sym found.0; number = sym found.1; place = sym found.2; nodes = sym found.3 }

pub returns : goal.returns
returns c =
    let none = drop_all c.loop-k.k c.args.saves.now (omega (arith, c.loop-k-test.false)) in
    let found = found_nowhere _ _ _ _ _ none c.loop-k.invariant in
    record { there = sym found.0; number = omega (arith, found.1, c.loop-k-test.false); place = sym found.2; nodes = sym found.3 }
