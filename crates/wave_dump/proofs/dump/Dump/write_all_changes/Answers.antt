-- The values of all entries were taken, and those that changed are told.
use Rattle.std.proofs.Common.{refl, sym, subst, arith}
use Rattle.std.specs.Prelude.{IsSome}
use Rattle.std.proofs.lemmas.List.{with_items_is}
use Rattle.wave_dump.specs.Entries.{shown_of}
use Rattle.wave_dump.specs.Writing.{Sheet, DumpData, with_changes}
use Rattle.wave_dump.proofs.SheetLemmas.{sheet_held, same_dump, changes_held, begun_if}
use Rattle.wave_dump.proofs.dump.Dump.write_all_changes.Goals as goal

pub returns : goal.returns
returns g c =
    let inside = c.self.inside in
    let items = inside.entries.items in
    let call = c.write_changes_of_all in
    let all = with_items_is inside.entries call.new.entries (omega (arith, call.auto.entries, c.deref_mut.ensures.len)) in
    let begun = begun_if inside.is_begun (shown_of items) (subst (λ (dump : DumpData). IsSome dump.sheet.page.shown) (sym c.self.view_is) c.requires.begun) in
    same_dump (sheet_held inside.pen.before inside.is_open inside.is_begun inside.time inside.start items _ inside.pen.text) _ inside.raw.spare
    inside.faults inside.refusals c.args.self.now (λ (sheet : Sheet). with_changes sheet c.args.is_told c.args.states.now) c.self.view_is
    (changes_held inside.pen.before call.new.pen.before inside.is_open inside.is_begun c.args.is_told inside.time inside.start items
    c.deref_mut.result.now call.new.entries _ _ inside.pen.text call.new.pen.text c.args.states.now c.args.states.now begun call.ensures.before
    c.deref_mut.ensures.value all refl call.ensures.entries call.ensures.shown call.ensures.text)
