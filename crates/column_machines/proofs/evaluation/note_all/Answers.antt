-- One place more is noted.
use Rattle.std.proofs.Common.{◌≡◌, refl, false, sym, ap, subst, ◌∙◌, Vec, Global, arith}
use Rattle.std.specs.Prelude.{slice_index}
use Rattle.word_columns.specs.Columns.{is_in_column}
use Rattle.word_columns.proofs.ColumnLemmas.{column-none}
use Rattle.column_machines.specs.declared.evaluation.WordChange.{WordChange}
use Rattle.column_machines.specs.Noting.{after_word, differs_in, IsIdle}
use Rattle.column_machines.proofs.NotingLemmas.{Notes-none, Notes-idle, Notes-more}
use Rattle.column_machines.proofs.evaluation.note_all.Goals as goal
use Rattle.column_machines.proofs.evaluation.note_all.Goals.{then-differing-ne0, else-differing-ne0}

pub loop-place-init : goal.loop-place-init
loop-place-init c = record {
  changes = Notes-none c.args.joining c.args.used c.args.nodes.now c.args.hi.now c.args.lo.now c.args.ones.now c.args.others.now c.args.changes.now.items;
  few = omega arith;
  capacity = refl;
}

pub loop-place-preserved : goal.loop-place-preserved
loop-place-preserved c =
    let joining = c.args.joining in
    let used = c.args.used in
    let so_far = c.loop-place.invariant in
    let nodes = c.args.nodes.now in
    let hi = c.args.hi.now in
    let lo = c.args.lo.now in
    let ones = c.args.ones.now in
    let others = c.args.others.now in
    let old = c.args.changes.now.items in
    let mid = c.loop-place.changes.items in
    let place = c.loop-place.place in
    let node = slice_index nodes place in
    let change : WordChange = record { node = node; hi = c.after_word.result; lo = c.after_word-in-loop-place.result } in
    elim c.if-differing-ne0.branch [
      | then-differing-ne0 w ↦
          let items = ap (λ (list : Vec WordChange Global). list.items) w.changes-is ∙ w.push_reserved.ensures.items in
          record {
            changes = rw items
                (Notes-more joining used nodes hi lo ones others place change old mid (omega arith) refl
                (record { high = c.after_word.ensures; low = c.after_word-in-loop-place.ensures }) so_far.changes);
            few = rw w.changes-is (omega (arith, w.push_reserved.ensures.len, so_far.few));
            capacity = rw w.changes-is (w.push_reserved.ensures.capacity ∙ so_far.capacity);
          }
      | else-differing-ne0 w ↦
          let none : c.differing.result ≡ 0 = omega (arith, w.if-differing-ne0.false) in
          let next : WordChange = record {
            node = node;
            hi = after_word joining (slice_index hi node) (slice_index ones place);
            lo = after_word joining (slice_index lo node) (slice_index others place);
          } in
          let same : change ≡ next = λ i. record { node = node; hi = c.after_word.ensures i; lo = c.after_word-in-loop-place.ensures i } in
          let idle : IsIdle joining used hi lo node (slice_index ones place) (slice_index others place) = λ column.
          subst (λ (one : WordChange). differs_in used (slice_index hi node) (slice_index lo node) column one ≡ false) same
          (sym (c.differing.ensures column) ∙ (ap (is_in_column column) none ∙ column-none column)) in
          record {
            changes = rw w.changes-is (Notes-idle joining used nodes hi lo ones others place old mid idle so_far.changes);
            few = rw w.changes-is (omega (arith, so_far.few));
            capacity = rw w.changes-is so_far.capacity;
          }
    ]
