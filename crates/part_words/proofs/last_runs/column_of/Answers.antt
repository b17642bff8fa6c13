-- The column was begun with the states, and the code ran.
use Rattle.std.proofs.Common.{◌≡◌, ◌+◌, ◌*◌, ◌%◌, [], take, sym, ap, subst, ◌∙◌, arith}
use Rattle.std.specs.Vec.{with_items}
use Rattle.std.proofs.lemmas.List.{with_items_is}
use Rattle.straight_code.specs.Flat.{flat_values}
use Rattle.word_columns.specs.Columns.{column_bits}
use Rattle.part_words.specs.LastRuns.{IsRunOf}
use Rattle.part_words.specs.Noting.{states_at}
use Rattle.part_words.proofs.LastRunsLemmas.{front_bits, IsRunOf-ran}
use Rattle.part_words.proofs.last_runs.column_of.Goals as goal

pub returns-clause-begins : goal.returns-clause-begins
returns-clause-begins g c =
    let code = c.args.code.now in
    let runs = c.args.runs.now.values in
    let n = 2 + 2 * code.inputs in
    let column = c.args.runs.now.next % 64 in
    let written = with_items runs c.begin_column.new.all in
    let first = with_items_is runs c.begin_column.new.all (omega (arith, c.begin_column.ensures.count, c.deref_mut.ensures.len)) in
    let final = with_items_is written c.run_steps.new.values (omega (arith, c.run_steps.ensures.count, c.deref_mut-2.ensures.len)) in
    let begins : take n (column_bits column c.begin_column.new.all) ≡ flat_values (states_at c.args.state.now c.args.nodes.now code.inputs c.args.at) [] =
    rw c.inputs-2.ensures at c.begin_column.ensures.begins in
    ap (λ list. take n (column_bits column list)) final
    ∙ (front_bits column n c.run_steps.new.values c.deref_mut-2.result.now c.run_steps.ensures.front
    ∙ (ap (λ list. take n (column_bits column list)) (c.deref_mut-2.ensures.value ∙ first) ∙ begins))

pub returns-clause-known : goal.returns-clause-known
returns-clause-known g c =
    let runs = c.args.runs.now.values in
    let written = with_items runs c.begin_column.new.all in
    let final = with_items_is written c.run_steps.new.values (omega (arith, c.run_steps.ensures.count, c.deref_mut-2.ensures.len)) in
    subst (IsRunOf c.args.code.now) (sym final)
    (IsRunOf-ran c.args.code.now c.deref_mut-2.result.now c.run_steps.new.values c.run_steps.ensures.front c.run_steps.ensures.ran)
