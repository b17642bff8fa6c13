-- It is that of the node's rails.
use Rattle.std.proofs.Common.{ap, sym, subst, ◌∙◌}
use Rattle.truth_makers.specs.declared.symbols.Symbols.{Symbols}
use Rattle.truth_makers.specs.Makers.{IsFunctionOf}
use Rattle.symbol_expecting.specs.Telling.{state_under}
use Rattle.symbol_expecting.proofs.LetterLemmas.{state_read}
use Rattle.symbol_expecting.proofs.letters.node_state.Goals as goal

pub state_of-requires : goal.state_of-requires
state_of-requires c = record {
  high = subst (λ (symbols : Symbols). IsFunctionOf symbols c.rails.result.0) (sym c.symbols.ensures) c.rails.ensures.high_has;
  low = subst (λ (symbols : Symbols). IsFunctionOf symbols c.rails.result.1) (sym c.symbols.ensures) c.rails.ensures.low_has;
}

pub returns : goal.returns
returns c =
    c.state_of.ensures
    ∙ ap (λ (symbols : Symbols). state_under symbols c.rails.result.0 c.rails.result.1 c.args.vars.now) c.symbols.ensures
    ∙ state_read c.args.stage.now c.args.node c.rails.result.0 c.rails.result.1 c.args.vars.now c.rails.ensures.one c.rails.ensures.zero
