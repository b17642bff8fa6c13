-- No names are those of no words.
use Rattle.std.proofs.Common.{◌≡◌, ◌∙◌, Some, sym, length, rules}
use Rattle.symbol_lines.specs.Commands.{names_of_words}
use Rattle.symbol_lines.proofs.SomeNames.{no_names}
use Rattle.symbol_lines.proofs.commands.read_variables.Goals as goal

pub returns-in-Some : goal.returns-in-Some
returns-in-Some c =
    let found : names_of_words c.args.words ≡ Some c.in-Some.names = sym c.in_ok-names.ensures ∙ c.in-Some.is in
    let none : length c.in-Some.names ≡ 0 = search (rules, c.items.ensures, c.is_empty.ensures, c.if-is_empty.true) in
    no_names c.args.words c.in-Some.names found none
