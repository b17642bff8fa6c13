-- The function of the formula is made, and then the one that holds where it doesn't.
use Rattle.std.proofs.Common.{ℕ, Bool, ◌∙◌}
use Rattle.formula_functions.specs.Tables.{named_under}
use Rattle.formula_functions.specs.Truths.{truth_of}
use Rattle.symbol_stage.proofs.FormulaLemmas.{makes_both, negated_letter, negated_letters}
use Rattle.symbol_stage.proofs.stage.SymbolStage.letters.Goals as goal

pub returns-clause-makes : goal.returns-clause-makes
returns-clause-makes c =
    makes_both c.args.self.now.machine c.formula.new.self.machine c.negated.new.self.machine c.formula.ensures.makes c.negated.ensures.makes

pub returns-in_err-lo-clause-makes : goal.returns-in_err-lo-clause-makes
returns-in_err-lo-clause-makes c =
    makes_both c.args.self.now.machine c.formula.new.self.machine c.negated.new.self.machine c.formula.ensures.makes c.negated.ensures.makes

pub returns-clause-own : goal.returns-clause-own
returns-clause-own c =
    negated_letters c.formula.new.self c.negated.new.self c.negated.ensures.makes c.in_ok-hi.hi c.in_ok-lo.lo c.in_ok-hi.ensures.inside
    c.in_ok-lo.ensures.inside c.in_ok-lo.ensures.value

pub returns-clause-letter : goal.returns-clause-letter
returns-clause-letter c =
    let truth = λ (vars : ℕ → Bool). truth_of (named_under c.args.self.now.machine.maker.graph.vertices vars c.args.table.now) c.args.formula.now in
    λ column inside.
    negated_letter c.args.self.now c.formula.new.self c.negated.new.self c.formula.ensures.makes c.negated.ensures.makes c.in_ok-hi.hi c.in_ok-lo.lo
    c.in_ok-hi.ensures.inside c.in_ok-lo.ensures.value truth c.in_ok-hi.ensures.value column inside

pub returns-clause-built : goal.returns-clause-built
returns-clause-built c = c.negated.ensures.built ∙ c.formula.ensures.built

pub returns-in_err-lo-clause-built : goal.returns-in_err-lo-clause-built
returns-in_err-lo-clause-built c = c.negated.ensures.built ∙ c.formula.ensures.built

pub returns-clause-serves : goal.returns-clause-serves
returns-clause-serves c = λ g kept serves. c.negated.ensures.serves g kept (c.formula.ensures.serves g kept serves)

pub returns-in_err-lo-clause-serves : goal.returns-in_err-lo-clause-serves
returns-in_err-lo-clause-serves c = λ g kept serves. c.negated.ensures.serves g kept (c.formula.ensures.serves g kept serves)
