-- The stage is tidied, with the names and the list of functions.
use Rattle.std.proofs.Common.{◌<◌, ℕ, sym, subst, arith}
use Rattle.std.proofs.lemmas.List.{with_items_is}
use Rattle.symbol_stage.specs.Compacting.{IsTidied}
use Rattle.symbol_stage.proofs.MovedLemmas.{columns_moved}
use Rattle.symbol_stage.proofs.outside.OutsideWorkSymbolStage.work.Goals as goal

pub tidy-requires-clause-named : goal.tidy-requires-clause-named
tidy-requires-clause-named c = let (named, inside, some) = c.requires in named

pub tidy-requires-clause-inside : goal.tidy-requires-clause-inside
tidy-requires-clause-inside c = let (named, inside, some) = c.requires in rw c.deref_mut.ensures.value inside

pub tidy-requires-clause-some : goal.tidy-requires-clause-some
tidy-requires-clause-some c = let (named, inside, some) = c.requires in some

pub returns-clause-columns : goal.returns-clause-columns
returns-clause-columns c = columns_moved c.args.stage.now.machine.maker c.tidy.new.self.machine.maker c.tidy.ensures.tidied.names_moved.shape

pub returns-clause-states : goal.returns-clause-states
returns-clause-states c = λ column inside.
    c.tidy.ensures.tidied.states column
    (subst (λ (n : ℕ). column < n)
    (sym (columns_moved c.args.stage.now.machine.maker c.tidy.new.self.machine.maker c.tidy.ensures.tidied.names_moved.shape)) inside)

pub returns-clause-done : goal.returns-clause-done
returns-clause-done c =
    let old = c.args.self.now in
    let kept = with_items_is old.kept c.tidy.new.kept (omega (arith, c.tidy.auto.kept, c.deref_mut.ensures.len)) in
    let told : IsTidied c.args.stage.now c.tidy.new.self old.names c.tidy.new.names old.kept.items c.tidy.new.kept =
    rw c.deref_mut.ensures.value at c.tidy.ensures.tidied in
    rw kept told
