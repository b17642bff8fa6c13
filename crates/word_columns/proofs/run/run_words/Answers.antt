use Rattle.std.proofs.Common.{◌≡◌, ◌+◌, ◌*◌, length, map, take, sym, ap, ◌∙◌}
use Rattle.std.proofs.lemmas.List.{length-map}
use Rattle.switch_paths.specs.Switching.{state_at}
use Rattle.word_columns.specs.Columns.{column_bits}
use Rattle.word_columns.proofs.run.run_words.Goals as goal

pub returns : goal.returns
returns c column state inside has =
    let nodes = c.args.nodes.now in
    let many : length (map (state_at state) nodes) ≡ c.args.code.now.inputs = length-map nodes (state_at state) ∙ c.requires.nodes in
    c.run_filled.ensures column (map (state_at state) nodes) inside many
    (ap (λ count. take (2 + 2 * count) (column_bits column c.fill_words.new.values)) (sym c.requires.nodes)
    ∙ c.fill_words.ensures column state inside has)
