-- The longer first words are compared byte by byte.
use Rattle.std.proofs.Common.{◌≡◌, ℕ, List, Some, sym, ap, ◌∙◌, arith, rules}
use Rattle.std.specs.Prelude.{codes}
use Rattle.std.proofs.lemmas.Slice.Eq.{text_from_reads}
use Rattle.symbol_lines.specs.Commands.{symbol_command_of}
use Rattle.symbol_lines.proofs.commands.read_symbol_command.Goals as goal

pub returns-in-vertices : goal.returns-in-vertices
returns-in-vertices c =
    let is : c.args.word.now ≡ codes "vertices" = text_from_reads c.args.word.now (codes "vertices") (omega arith) (search rules) in
    ap Some c.read_vertices.ensures ∙ ap (λ (word : List ℕ). symbol_command_of word c.args.words) (sym is)

pub returns-in_ok-read_variables-in-variables : goal.returns-in_ok-read_variables-in-variables
returns-in_ok-read_variables-in-variables c =
    let is : c.args.word.now ≡ codes "variables" = text_from_reads c.args.word.now (codes "variables") (omega arith) (search rules) in
    ap Some c.in_ok-read_variables-in-variables.ensures ∙ ap (λ (word : List ℕ). symbol_command_of word c.args.words) (sym is)
