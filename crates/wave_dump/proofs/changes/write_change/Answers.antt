-- The entry has its value; if that is another one, it is written.
use Rattle.std.proofs.Common.{◌<◌, ◌∙◌, ◌++◌, List, length, refl, sym, ap, subst, arith}
use Rattle.std.proofs.lemmas.List.{get_or-set_same}
use Rattle.ternary.specs.declared.tern.Tern.{Tern}
use Rattle.wave_dump.specs.Dumps.{time_due}
use Rattle.wave_dump.specs.Entries.{ShownEntry, IsInside}
use Rattle.wave_dump.specs.Values.{value_in, value_line}
use Rattle.wave_dump.proofs.HeaderLemmas.{inside_held}
use Rattle.wave_dump.proofs.ValueLemmas.{takes_same, takes_changed}
use Rattle.wave_dump.proofs.changes.write_change.Goals as goal

pub refresh-requires : goal.refresh-requires
refresh-requires g c =
    subst (λ (one : ShownEntry). IsInside (length c.args.states.now) one.entry) c.index-entries-number.is
    (inside_held (length c.args.states.now) c.args.entries.now c.args.entries.now c.args.number c.index-entries-number.result
    (omega (arith, c.if-number-entries.false)) c.index-entries-number.is refl c.requires)

pub returns-then-not-refresh-clause-takes : goal.returns-then-not-refresh-clause-takes
returns-then-not-refresh-clause-takes g c =
    let is = c.index-entries-number.is in
    takes_same c.args.states.now c.args.number c.args.time c.args.is_told c.args.entries.now c.args.pen.now.text c.index-entries-number.result
    c.refresh.new.self (omega (arith, c.if-number-entries.false)) is
    (c.refresh.ensures.entry ∙ ap (λ (one : ShownEntry). one.entry) (sym is))
    (c.refresh.ensures.shown ∙ ap (λ (one : ShownEntry). value_in c.args.states.now one.entry) (sym is))
    (c.if-not-refresh.ensures.same ∙ ap (λ (one : ShownEntry). one.shown) (sym is))

pub returns-clause-takes : goal.returns-clause-takes
returns-clause-takes g c =
    let is = c.index-entries-number.is in
    let inside : c.args.number < length c.args.entries.now = omega (arith, c.if-number-entries.false) in
    let told = ap (λ (one : ShownEntry). one.shown)
    (get_or-set_same c.args.entries.now c.args.number c.refresh.new.self c.index-entries-number-2.result inside) in
    takes_changed c.args.states.now c.args.number c.args.time c.args.is_told c.args.entries.now c.args.pen.now.text c.index-entries-number.result
    c.refresh.new.self inside is
    (c.refresh.ensures.entry ∙ ap (λ (one : ShownEntry). one.entry) (sym is))
    (c.refresh.ensures.shown ∙ ap (λ (one : ShownEntry). value_in c.args.states.now one.entry) (sym is))
    (λ same. c.if-not-refresh.ensures.changed (same ∙ ap (λ (one : ShownEntry). one.shown) is)) c.tell_value.new.pen.text
    (c.tell_value.ensures.text
    ∙ ap (λ (value : List Tern). c.args.pen.now.text ++ (time_due c.args.is_told c.args.time ++ value_line c.args.number value))
    (c.shown.ensures ∙ told))
