-- A column's states are put behind those of the columns before it.
use Rattle.std.proofs.Common.{◌≡◌, ℕ, ◌+◌, ◌*◌, ◌<◌, ◌≤◌, List, ◌++◌, length, map, ap, refl, sym, subst, ◌∙◌, arith, length-append, inl, inr}
use Rattle.std.proofs.lemmas.Bool.{cases_lt}
use Rattle.std.proofs.lemmas.List.{length-map}
use Rattle.std.proofs.lemmas.Nat.{row_fits}
use Rattle.std.specs.Prelude.{◌⊎◌}
use Rattle.ternary.specs.declared.tern.Tern.{Tern}
use Rattle.switch_paths.specs.Switching.{state_at}
use Rattle.told_lines.specs.Rows.{values_at}
use Rattle.told_lines.proofs.RowLemmas.{values_at-front, values_at-last}
use Rattle.cosmos_session.proofs.waves.push_columns.Goals as goal

-- the values of the columns before stay, and this one's are there
one_more : (width : ℕ) (before now after : List Tern) (each : ℕ → List Tern) (column past : ℕ) → length before ≡ column * width → length now ≡ width →
    after ≡ before ++ now → now ≡ each column → ((k : ℕ) → k < column → values_at width before k ≡ each k) → (past < column) ⊎ (column ≤ past) → past < column + 1 →
    values_at width after past ≡ each past
one_more width before now after each column past count length_is grew is held (inl earlier) inside =
    let within : past * width + width ≤ length before = omega (arith, row_fits past width column width earlier (omega arith), count) in
    ap (λ (values : List Tern). values_at width values past) grew ∙ values_at-front width before now past within ∙ held past earlier
one_more width before now after each column past count length_is grew is held (inr last) inside =
    let here : past ≡ column = omega (arith, last, inside) in
    subst (λ (k : ℕ). values_at width after k ≡ each k) (sym here)
    (ap (λ (values : List Tern). values_at width values column) grew ∙ values_at-last width before now column count length_is ∙ is)

pub loop-column-preserved : goal.loop-column-preserved
loop-column-preserved g c =
    let column = c.loop-column.column in
    let nodes : List ℕ = c.args.nodes.now in
    let now : List Tern = map (state_at (g.M.Columns.states c.args.stage.now column)) nodes in
    let before : List Tern = c.loop-column.values.items in
    let after : List Tern = c.push_column.new.values.items in
    let width : length now ≡ length nodes = length-map nodes (state_at (g.M.Columns.states c.args.stage.now column)) in
    let lengths : length after ≡ length before + length now =
    ap (λ (items : List Tern). length items) c.push_column.ensures.items ∙ length-append before now in
    record {
      end = c.loop-column.invariant.end;
      count = omega (arith, lengths, width, c.loop-column.invariant.count);
      each = λ past inside. one_more (length nodes) before now after (λ k. map (state_at (g.M.Columns.states c.args.stage.now k)) nodes) column past
          c.loop-column.invariant.count width c.push_column.ensures.items refl c.loop-column.invariant.each (cases_lt past column) inside;
      capacity = c.push_column.ensures.capacity ∙ c.loop-column.invariant.capacity;
    }
