-- Functions that were given a graph of their own hold in each column where they held.
use Rattle.std.proofs.Common.{◌≡◌, ℕ, ◌<◌, false, List, length, All, get_or, sym, ap, ◌∙◌, arith}
use Rattle.std.proofs.lemmas.List.{ext_get_or}
use Rattle.decision_graph.specs.declared.vertex.Vertex.{Vertex}
use Rattle.decision_graph.specs.declared.vertex.Function.{Function}
use Rattle.decision_graph.specs.Meaning.{holds}
use Rattle.decision_graph.specs.Moving.{AreFound}
use Rattle.truth_columns.specs.Columns.{values_in}
use Rattle.truth_columns.proofs.ColumnLemmas.{length-values_in, value_at}
use Rattle.truth_makers.specs.Valuations.{holds_in, valuation_of}

-- they are functions of the new graph
pub found-inside : (old : List Vertex) (roots : List Function) (new : List Vertex) (found : List Function) → AreFound old roots new found →
    All (λ (function : Function). function.place < length new) found
found-inside old roots new found are = λ k d less. (are.each k d (omega (arith, less, are.count))).inside

-- and hold where they held
pub found-holds : (variables later : ℕ) (old : List Vertex) (roots : List Function) (new : List Vertex) (found : List Function) → later ≡ variables →
    AreFound old roots new found → (column : ℕ) →
    values_in (λ (function : Function) place. holds_in later new place function.place) column found
    ≡ values_in (λ (function : Function) place. holds_in variables old place function.place) column roots
found-holds variables later old roots new found same are column =
    let holding = λ (function : Function) (place : ℕ). holds_in later new place function.place in
    let held = λ (function : Function) (place : ℕ). holds_in variables old place function.place in
    ext_get_or false (values_in holding column found) (values_in held column roots)
    (length-values_in holding column found ∙ are.count ∙ sym (length-values_in held column roots))
    (λ k inside.
    let first : Function = record { place = 0 } in
    let within : k < length found = omega (arith, inside, length-values_in holding column found) in
    let there : k < length roots = omega (arith, within, are.count) in
    let alike = are.each k first there in
    value_at holding column found k first within
    ∙ alike.value_is (valuation_of later column)
    ∙ ap (λ n. holds old (valuation_of n column) (get_or roots k first).place) same
    ∙ sym (value_at held column roots k first there))
