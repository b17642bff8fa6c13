-- The values are the states of the nodes in each column, so the row is that of all columns.
use Rattle.std.proofs.Common.{◌≡◌, ℕ, ◌<◌, List, length, map, ap, subst, ◌∙◌}
use Rattle.ternary.specs.declared.tern.Tern.{Tern}
use Rattle.switch_paths.specs.Switching.{state_at}
use Rattle.told_lines.specs.Hearing.{Hears}
use Rattle.told_lines.specs.Lines.{Line, Told, Wave}
use Rattle.told_lines.specs.Rows.{count_at, wave_at}
use Rattle.told_lines.proofs.RowLemmas.{row-alike, row_of_lines}
use Rattle.cosmos_session.proofs.waves.WaveRoom.tell_row.Goals as goal

pub returns-clause-sent : goal.returns-clause-sent
returns-clause-sent g c =
    let counts = c.args.counts.now in
    let nodes : List ℕ = c.args.nodes.now in
    let values : List Tern = c.deref.result.now in
    let columns : ℕ = g.M.Columns.columns c.args.stage.now in
    let told : ℕ → Line = wave_at c.args.n counts (length nodes) values in
    let meant : ℕ → Line = λ column. Wave c.args.n (count_at counts column).steps (count_at counts column).joined (map (state_at (g.M.Columns.states c.args.stage.now column)) nodes) in
    let each : (column : ℕ) → column < columns → told column ≡ meant column = λ column inside.
    ap (λ (states : List Tern). Wave c.args.n (count_at counts column).steps (count_at counts column).joined states)
    (rw c.deref.ensures.value (c.push_columns.ensures.each column inside)) in
    subst (λ (row : List Told). Hears g.L.Lines.hear g.L.Lines.part (g.L.Lines.heard c.args.out.now) (g.L.Lines.heard c.tell_values-told.new.out) row c.tell_values-told.result)
    (ap (row_of_lines told) c.requires.counts ∙ row-alike told meant columns each) c.tell_values-told.ensures.sent
