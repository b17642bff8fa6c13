-- A column's text is put behind those before it.
use Rattle.std.proofs.Common.{◌≡◌, ℕ, ◌+◌, ◌≤◌, ◌++◌, List, length, sym, ap, ◌∙◌, append_assoc, length-append, arith}
use Rattle.printed_lines.specs.declared.lines.TheConstants.{COLUMN_ROOM, WAVE_LINE_ROOM}
use Rattle.told_lines.specs.Printing.{printed, text_printed}
use Rattle.told_lines.specs.Rows.{wave_at}
use Rattle.told_lines.proofs.RowLemmas.{row_left, text_left-next}
use Rattle.told_lines.proofs.putting.put_row.Goals as goal

pub loop-column-preserved : goal.loop-column-preserved
loop-column-preserved c =
    let line = wave_at c.args.n c.args.counts.now c.args.width c.args.values.now in
    let columns = length c.args.counts.now in
    let column = c.loop-column.column in
    let here = printed c.args.numbered (record { column = column; line = line column }) in
    let later = text_printed c.args.numbered (row_left line columns (column + 1)) in
    let next : text_printed c.args.numbered (row_left line columns column) ≡ here ++ later =
    text_left-next c.args.numbered line columns column c.loop-column-test.true in
    let put : c.put_told.new.out.bytes ≡ c.loop-column.out.bytes ++ here = rw c.wave_at-line.ensures.line at c.put_told.ensures.bytes in
    let spare : c.put_told.new.out.spare + length here ≡ c.loop-column.out.spare = rw c.wave_at-line.ensures.line at c.put_told.ensures.spare in
    let short : length here ≤ COLUMN_ROOM + WAVE_LINE_ROOM = rw c.wave_at-line.ensures.line at c.put_told.ensures.short in
    let lengths : length (text_printed c.args.numbered (row_left line columns column)) ≡ length here + length later =
    ap (λ (text : List ℕ). length text) next ∙ length-append here later in
    record {
      bytes = ap (λ (text : List ℕ). text ++ later) put ∙ append_assoc c.loop-column.out.bytes here later
          ∙ ap (λ (text : List ℕ). c.loop-column.out.bytes ++ text) (sym next) ∙ c.loop-column.invariant.bytes;
      spare = omega (arith, c.loop-column.invariant.spare, spare, lengths);
      room = omega (arith, c.loop-column.invariant.room, spare, short, c.loop-column-test.true);
    }
