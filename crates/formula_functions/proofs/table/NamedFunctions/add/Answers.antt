-- The name and its function stand behind the others.
use Rattle.std.proofs.Common.{◌≡◌, ℕ, false, List, [], ◌∷◌, ◌++◌, Vec, Global, sym, ap, ap₂, ◌∙◌, subst}
use Rattle.std.proofs.lemmas.List.{map-append}
use Rattle.symbol_lines.specs.Names.{has_name, keys_of}
use Rattle.formula_functions.specs.Tables.{TableData, table_of}
use Rattle.formula_functions.proofs.table.NamedFunctions.add.Goals as goal

pub put-requires : goal.put-requires
put-requires c =
    subst (λ (name : List ℕ). has_name (keys_of c.self.inside.names.keys) name ≡ false) (sym c.in_ok-key.ensures)
    (ap (λ (table : TableData). has_name table.names c.args.name.now) c.self.view_is ∙ c.requires)

pub returns-clause-ok : goal.returns-clause-ok
returns-clause-ok c =
    let keys = c.self.inside.names.keys in
    rw (← c.self.view_is)
    (ap₂ table_of
    (ap keys_of c.in_ok-put.ensures.ok ∙ map-append (λ (key : Vec ℕ Global). key.items) keys (c.in_ok-key.key ∷ [])
    ∙ ap (λ (name : List ℕ). keys_of keys ++ name ∷ []) c.in_ok-key.ensures)
    (c.push_reserved.ensures.items ∙ ap (λ items. items ++ c.args.function ∷ []) c.reserve.ensures.items))
