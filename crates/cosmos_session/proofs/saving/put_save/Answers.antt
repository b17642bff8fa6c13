use Rattle.std.proofs.Common.{◌≡◌, [], ◌∷◌, ◌++◌, Some, None, sym, ◌∙◌, rules}
use Rattle.std.specs.Prelude.{position}
use Rattle.std.proofs.lemmas.List.Quantifiers.{position-Some}
use Rattle.session_meaning.specs.Saves.{is_under}
use Rattle.session_meaning.proofs.SaveLemmas.{with_save-at, with_save-behind}
use Rattle.cosmos_session.proofs.saving.put_save.Goals as goal

pub returns-in-Some-clause-ok : goal.returns-in-Some-clause-ok
returns-in-Some-clause-ok c =
    let saves = c.args.saves.now.items in
    let found : position (is_under c.args.name) saves ≡ Some c.in-Some.place =
    sym (rw (c.items.ensures, c.deref.ensures.value) at c.in-Some.ensures) in
    let first = position-Some (is_under c.args.name) saves c.in-Some.place (c.args.name, c.args.state) found in
    sym (with_save-at saves c.args.name c.args.state c.in-Some.place (c.args.name, c.args.state) first.0 first.1 first.2)

pub returns-in_ok-map_err-in-None-clause-ok : goal.returns-in_ok-map_err-in-None-clause-ok
returns-in_ok-map_err-in-None-clause-ok c =
    let saves = c.args.saves.now.items in
    let none : position (is_under c.args.name) saves ≡ None = sym (rw (c.items.ensures, c.deref.ensures.value) at c.in-None.ensures) in
    let put : c.push.new.self.items ≡ saves ++ (c.args.name, c.args.state) ∷ [] = search rules in
    put ∙ sym (with_save-behind saves c.args.name c.args.state none)
