-- One name more stands for its variable.
use Rattle.std.proofs.Common.{◌≡◌, ℕ, List, [], ◌∷◌, ◌++◌, take, refl, sym, ap, subst, ◌∙◌, arith}
use Rattle.std.proofs.lemmas.List.{take_all}
use Rattle.std.proofs.lemmas.Result.{err_from_is_err_and}
use Rattle.formula_functions.specs.Tables.{TableData}
use Rattle.symbol_lines.specs.Names.{has_name}
use Rattle.symbol_stage.proofs.FormulaLemmas.{makes_both}
use Rattle.symbol_session.specs.Starting.{AreVariables}
use Rattle.symbol_session.proofs.StartLemmas.{makes_none, new_name, stand_none, take_name}
use Rattle.symbol_session.proofs.starting.name_variables.Goals as goal

pub loop-k-init : goal.loop-k-init
loop-k-init c = record {
  makes = makes_none c.args.stage.now.machine;
  built = refl;
  names = ap (λ (table : TableData). table.names) c.requires.none;
  stand = stand_none c.args.stage.now.machine.maker c.args.names.now (ap (λ (table : TableData). table.functions) c.requires.none);
  within = omega arith;
}

pub name_variable-requires-clause-few : goal.name_variable-requires-clause-few
name_variable-requires-clause-few c = omega (arith, c.loop-k-test.true, c.requires.few, c.loop-k.invariant.makes.shape.variables)

pub name_variable-requires-clause-new : goal.name_variable-requires-clause-new
name_variable-requires-clause-new c =
    ap (λ (names : List (List ℕ)). has_name names c.name_at.result.now) c.loop-k.invariant.names
    ∙ new_name c.args.variables.now c.loop-k.k c.name_at.result.now c.name_at.ensures c.requires.apart

pub loop-k-preserved : goal.loop-k-preserved
loop-k-preserved c = record {
  makes = makes_both c.args.stage.now.machine c.loop-k.stage.machine c.name_variable.new.stage.machine c.loop-k.invariant.makes c.in_ok-name_variable.ensures.makes;
  built = c.in_ok-name_variable.ensures.built ∙ c.loop-k.invariant.built;
  names =
      c.in_ok-name_variable.ensures.names ∙ ap (λ (names : List (List ℕ)). names ++ c.name_at.result.now ∷ []) c.loop-k.invariant.names
      ∙ sym (take_name c.args.variables.now c.loop-k.k c.name_at.result.now c.name_at.ensures);
  stand = c.in_ok-name_variable.ensures.stand;
  within = omega (arith, c.loop-k-test.true);
}

pub returns-in_err-name_variable-clause-makes : goal.returns-in_err-name_variable-clause-makes
returns-in_err-name_variable-clause-makes c =
    makes_both c.args.stage.now.machine c.loop-k.stage.machine c.name_variable.new.stage.machine c.loop-k.invariant.makes c.in_err-name_variable.ensures.makes

pub returns-in_err-name_variable-clause-some : goal.returns-in_err-name_variable-clause-some
returns-in_err-name_variable-clause-some c =
    let stopped = err_from_is_err_and c.from_residual.result c.from_residual.ensures.1 in
    rw stopped.1 (omega (arith, c.loop-k-test.true))

pub returns-clause-named : goal.returns-clause-named
returns-clause-named c =
    let all : take c.loop-k.k c.args.variables.now ≡ c.args.variables.now = take_all c.loop-k.k c.args.variables.now (omega (arith, c.loop-k-test.false)) in
    record {
      names = c.loop-k.invariant.names ∙ all;
      stand = subst (λ (n : ℕ). AreVariables c.loop-k.stage.machine.maker n c.loop-k.names)
          (omega (arith, c.loop-k-test.false, c.loop-k.invariant.within)) c.loop-k.invariant.stand;
    }
