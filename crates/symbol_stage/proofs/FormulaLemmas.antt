-- The letter of a formula: a function, and one that holds where it doesn't, made one after the other.
use Rattle.std.proofs.Common.{◌≡◌, ℕ, ◌<◌, ◌^◌, ◌||◌, Bool, true, false, not, length, refl, sym, ap, subst, ◌∙◌}
use Rattle.decision_graph.specs.declared.vertex.Function.{Function}
use Rattle.decision_graph.specs.Meaning.{holds}
use Rattle.decision_graph.proofs.ValueLemmas.{holds-extends}
use Rattle.decision_graph.proofs.VertexLemmas.{Extends-trans}
use Rattle.truth_makers.specs.declared.symbols.Symbols.{Symbols}
use Rattle.truth_makers.specs.Makers.{columns_in, function_holds, IsFunctionOf}
use Rattle.truth_makers.specs.Expecting.{state_of_truth}
use Rattle.truth_makers.specs.Valuations.{valuation_of}
use Rattle.truth_makers.proofs.SymbolLemmas.{functions-kept}
use Rattle.truth_parts.specs.Columns as columns
use Rattle.truth_machine.specs.Machines.{TruthData}
use Rattle.truth_machine.specs.Symbols.{MakesMore}
use Rattle.symbol_stage.specs.Given.{AreLetters, GivesLetters, letter_by, letter_given}
use Rattle.symbol_stage.specs.Stages.{StageData, columns_on}

-- a maker that made more twice made more
pub makes_both : (old mid new : TruthData Function Symbols) → MakesMore old mid → MakesMore mid new → MakesMore old new
makes_both old mid new first second = record {
  shape = record {
    variables = second.shape.variables ∙ first.shape.variables;
    most = second.shape.most ∙ first.shape.most;
  };
  extends = Extends-trans old.maker.graph.vertices mid.maker.graph.vertices new.maker.graph.vertices first.extends second.extends;
  rests = record {
    parts = second.rests.parts ∙ first.rests.parts;
    marks = second.rests.marks ∙ first.rests.marks;
    highs = second.rests.highs ∙ first.rests.highs;
    lows = second.rests.lows ∙ first.rests.lows;
  };
  states = λ column inside.
      let within : column < columns_in mid.maker = subst (λ (n : ℕ). column < 2 ^ n) (sym first.shape.variables) inside in
      second.states column within ∙ first.states column inside;
  fits = λ g fits. second.fits g (first.fits g fits);
}

-- the letter of a truth value has the rails of it and of what it isn't
rails_of_truth : (value : Bool) → columns.state_with value (not value) ≡ state_of_truth value
rails_of_truth true = refl
rails_of_truth false = refl

or_not : (value : Bool) → (value || not value) ≡ true
or_not true = refl
or_not false = refl

-- a function, and one that holds where it doesn't, are the letter of its truth value in each column
module _ (symbols : Symbols) (hi lo : Function)
    (isnt : (column : ℕ) → column < columns_in symbols → function_holds symbols lo column ≡ not (function_holds symbols hi column)) where
  letters_of_truth : IsFunctionOf symbols hi → IsFunctionOf symbols lo → AreLetters symbols (record { hi = hi; lo = lo })
  letters_of_truth high_has low_has = record {
    high = high_has;
    low = low_has;
    some = λ column inside.
        ap (λ (low : Bool). function_holds symbols hi column || low) (isnt column inside) ∙ or_not (function_holds symbols hi column);
  }

  letter_of_truth : (column : ℕ) → column < columns_in symbols →
      letter_by symbols (record { hi = hi; lo = lo }) column ≡ state_of_truth (function_holds symbols hi column)
  letter_of_truth column inside =
      ap (λ (low : Bool). columns.state_with (function_holds symbols hi column) low) (isnt column inside)
      ∙ rails_of_truth (function_holds symbols hi column)

module _ (mid new : StageData) (makes : MakesMore mid.machine new.machine) (hi lo : Function)
    (high_has : hi.place < length mid.machine.maker.graph.vertices)
    (isnt : (vars : ℕ → Bool) →
    holds new.machine.maker.graph.vertices vars lo.place ≡ not (holds mid.machine.maker.graph.vertices vars hi.place)) where
  -- in each column of the maker that made it
  isnt_in : (column : ℕ) → column < columns_in new.machine.maker →
      function_holds new.machine.maker lo column ≡ not (function_holds new.machine.maker hi column)
  isnt_in column inside =
      let one = mid.machine.maker.graph in
      let other = new.machine.maker.graph in
      let vars = valuation_of other.variables column in
      isnt vars ∙ ap not (sym (holds-extends one.vertices other.vertices vars hi.place makes.extends high_has))

  kept_high : IsFunctionOf new.machine.maker hi
  kept_high =
      let one = mid.machine.maker.graph in
      let other = new.machine.maker.graph in
      (functions-kept one.variables other.variables one.vertices other.vertices makes.shape.variables makes.extends).there hi high_has

-- a function that was made, and then the one that holds where it doesn't, give nodes letters
pub negated_letters : (mid new : StageData) → MakesMore mid.machine new.machine → (hi lo : Function) → hi.place < length mid.machine.maker.graph.vertices →
    lo.place < length new.machine.maker.graph.vertices →
    ((vars : ℕ → Bool) → holds new.machine.maker.graph.vertices vars lo.place ≡ not (holds mid.machine.maker.graph.vertices vars hi.place)) →
    GivesLetters new (record { hi = hi; lo = lo })
negated_letters mid new makes hi lo high_has low_has isnt =
    letters_of_truth new.machine.maker hi lo (isnt_in mid new makes hi lo high_has isnt) (kept_high mid new makes hi lo high_has isnt) low_has

-- that of its truth value in each column
pub negated_letter : (old mid new : StageData) → MakesMore old.machine mid.machine → MakesMore mid.machine new.machine → (hi lo : Function) →
    hi.place < length mid.machine.maker.graph.vertices →
    ((vars : ℕ → Bool) → holds new.machine.maker.graph.vertices vars lo.place ≡ not (holds mid.machine.maker.graph.vertices vars hi.place)) →
    (truth : (ℕ → Bool) → Bool) → ((vars : ℕ → Bool) → holds mid.machine.maker.graph.vertices vars hi.place ≡ truth vars) →
    (column : ℕ) → column < columns_on old →
    letter_given new (record { hi = hi; lo = lo }) column ≡ state_of_truth (truth (valuation_of old.machine.maker.graph.variables column))
negated_letter old mid new first second hi lo high_has isnt truth is column inside =
    let one = mid.machine.maker.graph in
    let other = new.machine.maker.graph in
    let both = makes_both old.machine mid.machine new.machine first second in
    let vars = valuation_of other.variables column in
    let within : column < columns_in new.machine.maker = subst (λ (n : ℕ). column < 2 ^ n) (sym both.shape.variables) inside in
    letter_of_truth new.machine.maker hi lo (isnt_in mid new second hi lo high_has isnt) column within
    ∙ ap state_of_truth (holds-extends one.vertices other.vertices vars hi.place second.extends high_has ∙ is vars)
    ∙ ap (λ (n : ℕ). state_of_truth (truth (valuation_of n column))) both.shape.variables
