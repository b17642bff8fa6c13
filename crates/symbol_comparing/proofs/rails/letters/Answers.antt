-- The state of one node more.
use Rattle.std.proofs.Common.{◌∷◌, [], ◌++◌, List, get_or, ap, sym, ◌∙◌, arith}
use Rattle.std.proofs.lemmas.List.{take_all, take_more}
use Rattle.ternary.specs.declared.tern.Tern.{Tern}
use Rattle.ternary.specs.declared.tern.Tern.TheVariants.{Zero}
use Rattle.decision_graph.specs.declared.vertex.Function.{Function}
use Rattle.decision_graph.specs.Meaning.{assigned, holds}
use Rattle.truth_makers.specs.Makers.{function_holds}
use Rattle.truth_parts.proofs.ColumnLemmas.{length-states}
use Rattle.symbol_comparing.specs.Rails.{letters_in, rails_seen}
use Rattle.symbol_comparing.specs.Words.{column_with}
use Rattle.symbol_comparing.proofs.StateLemmas.{letter_at}
use Rattle.symbol_comparing.proofs.rails.letters.Goals as goal

pub loop-k-preserved : goal.loop-k-preserved
loop-k-preserved c =
    let symbols = c.args.symbols.now in
    let rails = rails_seen c.args.rails in
    let k = c.loop-k.k in
    let all = letters_in symbols rails (column_with symbols c.args.vars.now) in
    let count = length-states (function_holds symbols) (column_with symbols c.args.vars.now) rails.highs rails.lows c.requires.rails.columns.counted in
    let value = λ (f : Function). holds symbols.graph.vertices (assigned c.args.vars.now) f.place in
    let here = letter_at symbols rails c.args.vars.now k c.value-one.result c.value-other.result c.requires.rails c.size.ensures.reduced c.loop-k-test.true
    (c.value-one.ensures ∙ ap value c.at-high.ensures) (c.value-other.ensures ∙ ap value c.at-low.ensures) in
    c.in_ok-push.ensures.items
    ∙ ap (λ (state : Tern). c.loop-k.states.items ++ state ∷ []) (c.state_with.ensures ∙ sym here)
    ∙ ap (λ (front : List Tern). front ++ get_or all k Zero ∷ []) c.loop-k.invariant
    ∙ sym (take_more all k Zero (omega (arith, c.loop-k-test.true, count)))

pub returns : goal.returns
returns c =
    let symbols = c.args.symbols.now in
    let rails = rails_seen c.args.rails in
    let count = length-states (function_holds symbols) (column_with symbols c.args.vars.now) rails.highs rails.lows c.requires.rails.columns.counted in
    c.loop-k.invariant ∙ take_all c.loop-k.k (letters_in symbols rails (column_with symbols c.args.vars.now)) (omega (arith, c.loop-k-test.false, count))
