-- The state of one node more.
use Rattle.std.proofs.Common.{ℕ, List, [], ◌∷◌, ◌++◌, sym, ap, ◌∙◌, arith}
use Rattle.std.proofs.lemmas.List.{take_all}
use Rattle.ternary.specs.declared.tern.Tern.{Tern}
use Rattle.switch_paths.specs.Switching.{state_at}
use Rattle.symbol_stage.specs.Stages.{states_in}
use Rattle.symbol_giving.specs.declared.letters.SymbolLetter.{SymbolLetter}
use Rattle.symbol_giving.specs.declared.letters.SymbolLetter.TheVariants.{Any}
use Rattle.symbol_expecting.specs.Missing.{column_with}
use Rattle.symbol_expecting.specs.Telling.{states_under}
use Rattle.symbol_expecting.proofs.LetterLemmas.{map_more}
use Rattle.symbol_expecting.proofs.MissingLemmas.{wanted_at}
use Rattle.symbol_expecting.proofs.letters.states.Goals as goal

pub node_state-state-requires : goal.node_state-state-requires
node_state-state-requires c =
    (wanted_at c.args.stage.now c.args.pairs.now c.loop-k.k c.pair_at-node.result c.requires c.loop-k-test.true (sym c.pair_at-node.ensures)).0

pub loop-k-preserved : goal.loop-k-preserved
loop-k-preserved c =
    let column = column_with c.args.stage.now.machine.maker c.args.vars.now in
    c.in_ok-push.ensures.items
    ∙ ap (λ (state : Tern). c.loop-k.states.items ++ state ∷ []) c.node_state-state.ensures
    ∙ ap (λ (front : List Tern). front ++ state_at (states_in c.args.stage.now column) c.pair_at-node.result.0 ∷ []) c.loop-k.invariant
    ∙ sym (map_more (λ (pair : ℕ × SymbolLetter). state_at (states_in c.args.stage.now column) pair.0) c.args.pairs.now c.loop-k.k (0, Any) c.pair_at-node.result
    c.loop-k-test.true (sym c.pair_at-node.ensures))

pub returns : goal.returns
returns c =
    c.loop-k.invariant
    ∙ ap (λ (pairs : List (ℕ × SymbolLetter)). states_under c.args.stage.now pairs c.args.vars.now)
    (take_all c.loop-k.k c.args.pairs.now (omega (arith, c.loop-k-test.false)))
