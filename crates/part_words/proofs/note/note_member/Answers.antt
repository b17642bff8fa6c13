-- Where a column's bit is set, the member of its part changes, and where it isn't, it doesn't.
use Rattle.std.proofs.Common.{◌≡◌, ◌+◌, ◌<◌, true, false, [], length, get_or, Vec, Global, refl, sym, ap, ◌∙◌, arith}
use Rattle.std.specs.Prelude.{slice_index}
use Rattle.std.proofs.lemmas.List.{take_all}
use Rattle.std.proofs.lemmas.Option.{slice_get_read, slice_get-get_or}
use Rattle.word_columns.specs.Columns.{is_in_column}
use Rattle.word_columns.proofs.ColumnLemmas.{column-none}
use Rattle.part_words.specs.declared.change.Change.{Change}
use Rattle.part_words.specs.Members.{IsMoved}
use Rattle.part_words.proofs.ColumnStates.{differing, column-differs, column-agrees, state-settled}
use Rattle.part_words.proofs.NotingLemmas.{NotesEach-none, NotesEach-at_same, NotesEach-at_more, IsMoved-one}
use Rattle.part_words.proofs.note.note_member.Goals as goal
use Rattle.part_words.proofs.note.note_member.Goals.{then-has_bit, else-has_bit}

pub returns-then-differs-eq0-clause-notes : goal.returns-then-differs-eq0-clause-notes
returns-then-differs-eq0-clause-notes c before next has_old has_new =
    let starts = c.args.starts.now in
    let a = c.args.old.0 in
    let b = c.args.old.1 in
    let d = c.args.new.0 in
    let e = c.args.new.1 in
    NotesEach-none (IsMoved c.args.nodes.now c.args.k before next) starts c.args.changes.now.items
    (λ at change among moved.
    let column = among.0 in
    let found = slice_get_read starts (length starts) column at refl among.1 (sym among.2) in
    let unset : is_in_column column (differing a b d e) ≡ false = ap (is_in_column column) c.if-differs-eq0.true ∙ column-none column in
    moved.differs (column-agrees column a b d e (before at) (next at) (has_old column at found) (has_new column at found) unset))

pub loop-column-init : goal.loop-column-init
loop-column-init c = record {
  notes = λ before next has_old has_new.
      NotesEach-none (IsMoved c.args.nodes.now c.args.k before next) [] c.args.changes.now.items (λ at change among moved. absurd (omega (arith, among.1)));
  few = omega arith;
  capacity = refl;
}

pub loop-column-preserved : goal.loop-column-preserved
loop-column-preserved c =
    let nodes = c.args.nodes.now in
    let starts = c.args.starts.now in
    let k = c.args.k in
    let a = c.args.old.0 in
    let b = c.args.old.1 in
    let d = c.args.new.0 in
    let e = c.args.new.1 in
    let column = c.loop-column.column in
    let old = c.args.changes.now.items in
    let mid = c.loop-column.changes.items in
    let so_far = c.loop-column.invariant in
    let inside : column < length starts = c.loop-column-test.true in
    let at = get_or starts column 0 in
    let found = slice_get-get_or starts column 0 inside in
    elim c.if-has_bit.branch [
      | then-has_bit w ↦
          let items = ap (λ (list : Vec Change Global). list.items) w.changes-is ∙ w.push_reserved.ensures.items in
          let set : is_in_column column (differing a b d e) ≡ true = sym c.has_bit.ensures ∙ w.if-has_bit.true in
          record {
            notes = λ before next has_old has_new.
                let differs = column-differs column a b d e (before at) (next at) (has_old column at found) (has_new column at found) set in
                let value : w.tern_in-value.result ≡ next at =
                w.tern_in-value.ensures ∙ state-settled column d e (next at) (has_new column at found) in
                let change : Change = record { node = slice_index nodes (at + k); value = w.tern_in-value.result } in
                let own : IsMoved nodes k before next at change = record { node = refl; value = value; differs = differs } in
                rw items
                (NotesEach-at_more (IsMoved nodes k before next) starts column inside change old mid own
                (λ other moved. IsMoved-one nodes k before next at change other own moved) (so_far.notes before next has_old has_new));
            few = rw w.changes-is (omega (arith, w.push_reserved.ensures.len, so_far.few));
            capacity = rw w.changes-is (w.push_reserved.ensures.capacity ∙ so_far.capacity);
          }
      | else-has_bit w ↦
          let unset : is_in_column column (differing a b d e) ≡ false = sym c.has_bit.ensures ∙ w.if-has_bit.false in
          record {
            notes = λ before next has_old has_new.
                rw w.changes-is
                (NotesEach-at_same (IsMoved nodes k before next) starts column inside old mid
                (λ change moved.
                moved.differs (column-agrees column a b d e (before at) (next at) (has_old column at found) (has_new column at found) unset))
                (so_far.notes before next has_old has_new));
            few = rw w.changes-is (omega (arith, so_far.few));
            capacity = rw w.changes-is so_far.capacity;
          }
    ]

pub returns-clause-notes : goal.returns-clause-notes
returns-clause-notes c before next has_old has_new =
    let last : c.loop-column.column ≡ length c.args.starts.now = omega arith in
    rw (take_all c.loop-column.column c.args.starts.now (omega (arith, last))) at c.loop-column.invariant.notes before next has_old has_new
