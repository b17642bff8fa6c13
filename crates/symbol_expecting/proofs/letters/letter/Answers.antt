-- The letter of a truth value is that of its functions.
use Rattle.std.proofs.Common.{Some, refl, ap, sym, subst, ◌∙◌}
use Rattle.ternary.specs.declared.tern.Tern.{Tern}
use Rattle.truth_makers.specs.declared.symbols.Symbols.{Symbols}
use Rattle.truth_makers.specs.Makers.{IsFunctionOf}
use Rattle.symbol_giving.specs.Letters.{IsTruthLetter}
use Rattle.symbol_expecting.specs.Telling.{state_under}
use Rattle.symbol_expecting.proofs.letters.letter.Goals as goal

pub state_of-requires : goal.state_of-requires
state_of-requires c =
    let wanted : IsTruthLetter c.args.stage.now c.in-Truth.given = rw c.in-Truth.is at c.requires in
    record {
      high = subst (λ (symbols : Symbols). IsFunctionOf symbols c.in-Truth.given.hi) (sym c.symbols.ensures) wanted.own.high;
      low = subst (λ (symbols : Symbols). IsFunctionOf symbols c.in-Truth.given.lo) (sym c.symbols.ensures) wanted.own.low;
    }

pub returns-in-Any : goal.returns-in-Any
returns-in-Any c = rw c.in-Any.is refl

pub returns-in-Same : goal.returns-in-Same
returns-in-Same c = rw c.in-Same.is refl

pub returns-in-Truth : goal.returns-in-Truth
returns-in-Truth c =
    rw c.in-Truth.is
    (ap (λ (state : Tern). Some state)
    (c.state_of.ensures
    ∙ ap (λ (symbols : Symbols). state_under symbols c.in-Truth.given.hi c.in-Truth.given.lo c.args.vars.now) c.symbols.ensures))
