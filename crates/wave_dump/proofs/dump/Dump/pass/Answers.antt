-- The entries of changed nodes are marked.
use Rattle.std.proofs.Common.{ℕ, List, sym, ap, subst}
use Rattle.ternary.specs.declared.tern.Tern.{Tern}
use Rattle.wave_dump.specs.Entries.{ShownEntry, AreMarked, MarksAll}
use Rattle.wave_dump.specs.Writing.{DumpData}
use Rattle.wave_dump.proofs.SheetLemmas.{changes_marked}
use Rattle.wave_dump.proofs.dump.Dump.pass.Goals as goal

pub write_changes-requires-clause-marked : goal.write_changes-requires-clause-marked
write_changes-requires-clause-marked g c =
    let (old, shows, is_open, changes) = c.requires in
    let inside = c.self.inside in
    let items = inside.entries.items in
    let state = g.M.Moved.state c.args.moved.now in
    let nodes = g.M.Moved.changed c.args.moved.now in
    let marked = c.could_mark.new.marked.items in
    let marks = subst (λ (lists : List (List ℕ)). MarksAll lists nodes marked) c.deref.ensures.value c.if-not-could_mark.ensures.marks in
    let are = changes_marked c.args.self.now.sheet inside.is_begun items inside.lists.items nodes marked old state
    (ap (λ (dump : DumpData). dump.sheet.page.entries) c.self.view_is) (ap (λ (dump : DumpData). dump.sheet.page.shown) c.self.view_is) is_open
    (λ begun. c.self.invariant.listed begun c.if-not-could_mark.ensures.listed) shows changes marks in
    subst (λ (held : List ShownEntry). AreMarked held c.states-2.result.now c.deref-2.result.now) (sym c.deref_mut.ensures.value)
    (subst (λ (state : List Tern). AreMarked items state c.deref-2.result.now) (sym c.states-2.ensures)
    (subst (λ (marked : List ℕ). AreMarked items state marked) (sym c.deref-2.ensures.value) are))
