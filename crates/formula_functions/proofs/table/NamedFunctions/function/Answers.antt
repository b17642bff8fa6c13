-- The function stands where the name does.
use Rattle.std.proofs.Common.{◌<◌, false, length, map, sym, ap, ◌∙◌, arith}
use Rattle.std.proofs.lemmas.List.{get_or-map, length-map}
use Rattle.symbol_lines.proofs.NameLemmas.{has_name_keys}
use Rattle.formula_functions.proofs.TableLemmas.{value_named-found, value_named-unfound}
use Rattle.formula_functions.proofs.table.NamedFunctions.function.Goals as goal

pub returns-in-Some-clause-value : goal.returns-in-Some-clause-value
returns-in-Some-clause-value c = λ truth.
    let keys = c.self.inside.names.keys in
    let functions = c.self.inside.functions.items in
    let place = c.in-Some.place in
    let inside : place < length functions = omega (arith, c.in-Some.ensures.within, c.self.invariant) in
    rw (← c.self.view_is)
    (value_named-found keys (map truth functions) c.args.name.now place (sym c.in-Some.ensures.index) (length-map functions truth ∙ c.self.invariant)
    ∙ get_or-map truth functions place c.index.result.now false inside
    ∙ ap truth (sym c.index.ensures))

pub returns-in-Some-clause-among : goal.returns-in-Some-clause-among
returns-in-Some-clause-among c =
    let inside : c.in-Some.place < length c.self.inside.functions.items = omega (arith, c.in-Some.ensures.within, c.self.invariant) in
    rw (← c.self.view_is) (c.in-Some.place, inside, sym c.index.ensures)

pub returns-in-None-clause-value : goal.returns-in-None-clause-value
returns-in-None-clause-value c = λ truth.
    let keys = c.self.inside.names.keys in
    rw (← c.self.view_is)
    (value_named-unfound keys (map truth c.self.inside.functions.items) c.args.name.now
    (sym (has_name_keys keys c.args.name.now) ∙ sym c.in-None.ensures.found))
