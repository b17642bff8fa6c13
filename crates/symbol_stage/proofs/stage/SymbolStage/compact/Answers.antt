-- The rails in the other maker are those of the same states.
use Rattle.std.proofs.Common.{◌≡◌, ◌<◌, refl, sym, subst, ◌∙◌}
use Rattle.truth_makers.specs.Makers.{columns_in, function_holds}
use Rattle.truth_makers.specs.declared.symbols.Symbols.{Symbols}
use Rattle.truth_machine.specs.Machines.{column_of}
use Rattle.symbol_stage.proofs.MovedLemmas.{HasColumn-moved, columns_moved}
use Rattle.symbol_stage.proofs.ServingLemmas.{serves_next}
use Rattle.symbol_stage.proofs.StayingLemmas.{on_err}
use Rattle.symbol_stage.proofs.stage.SymbolStage.compact.Goals as goal

pub moved-requires : goal.moved-requires
moved-requires c = record { inside = rw (← c.self.view_is) at c.requires.inside; some = c.requires.some }

pub go_on-requires : goal.go_on-requires
go_on-requires c =
    let m = c.self.inside.machine in
    let symbols = c.in_ok-symbols.symbols in
    let is = c.in_ok-symbols.ensures in
    let are = c.are_rails.ensures.columns in
    let count = columns_moved m.maker symbols is.highs.shape in
    record {
      columns = count;
      highs = is.highs.counted;
      lows = is.lows.counted ∙ are.counted ∙ sym is.highs.counted;
      high_has = is.highs.inside;
      low_has = is.lows.inside;
      same = λ column inside.
          HasColumn-moved m.maker symbols m.hi m.lo c.in_ok-symbols.hi.items c.in_ok-symbols.lo.items is.highs is.lows column (column_of function_holds m column)
          (are.each column (subst (λ n. column < n) count inside));
    }

pub returns-clause-moved : goal.returns-clause-moved
returns-clause-moved c = rw (c.in_ok-go_on.ensures.maker, ← c.self.view_is) c.in_ok-symbols.ensures.others

pub returns-clause-states : goal.returns-clause-states
returns-clause-states c =
    rw (← c.self.view_is)
    (λ column inside.
    c.in_ok-go_on.ensures.states column (subst (λ (maker : Symbols). column < columns_in maker) c.in_ok-go_on.ensures.maker inside))

pub returns-clause-serves : goal.returns-clause-serves
returns-clause-serves c = λ g. serves_next c.self.view_is c.go_on.new.machine g (c.in_ok-go_on.ensures.fits g)

pub returns-in_err-symbols-clause-serves : goal.returns-in_err-symbols-clause-serves
returns-in_err-symbols-clause-serves c = λ g. serves_next c.self.view_is c.self.inside.machine g (λ fits. fits)

pub returns-in_err-go_on-clause-serves : goal.returns-in_err-go_on-clause-serves
returns-in_err-go_on-clause-serves c = λ g. serves_next c.self.view_is c.go_on.new.machine g (c.in_err-go_on.ensures.fits g)

pub returns-clause-fits : goal.returns-clause-fits
returns-clause-fits c = rw (← c.self.view_is) (λ g fits. c.in_ok-go_on.ensures.fits g fits)

pub returns-in_err-symbols-clause-fits : goal.returns-in_err-symbols-clause-fits
returns-in_err-symbols-clause-fits c = rw (← c.self.view_is) (λ g fits. fits)

pub returns-in_err-go_on-clause-fits : goal.returns-in_err-go_on-clause-fits
returns-in_err-go_on-clause-fits c = rw (← c.self.view_is) (λ g fits. c.in_err-go_on.ensures.fits g fits)

pub returns-in_err-symbols-clause-err : goal.returns-in_err-symbols-clause-err
returns-in_err-symbols-clause-err c =
    let same : c.self.inside.machine ≡ c.self.inside.machine = refl in
    rw (← c.self.view_is) (on_err c.from_residual.result same)

pub returns-in_err-go_on-clause-err : goal.returns-in_err-go_on-clause-err
returns-in_err-go_on-clause-err c = rw (← c.self.view_is) (on_err c.from_residual-in_err-go_on.result c.in_err-go_on.ensures.err)
