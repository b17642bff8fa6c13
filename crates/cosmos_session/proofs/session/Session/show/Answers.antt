use Rattle.std.proofs.Common.{◌≡◌, ◌≤◌, ℕ, List, None, length, map, refl, sym, arith}
use Rattle.std.proofs.lemmas.List.Elements.{All-weaker}
use Rattle.script_lang.specs.declared.command.Command.TheVariants as family
use Rattle.script_lang.specs.declared.command.Tell.TheVariants as asked
use Rattle.session_meaning.specs.declared.fault.ApplyFault.TheVariants.{Refused}
use Rattle.session_meaning.specs.Refusals.{nodes_named, refusal_of}
use Rattle.session_meaning.specs.Effects.{shown_line}
use Rattle.session_meaning.proofs.StayingLemmas.{session_of}
use Rattle.session_meaning.proofs.LineLemmas.{shown_room, shown_told}
use Rattle.session_meaning.proofs.OutcomeLemmas.{fault_obeys, still_obeys}
use Rattle.cosmos_session.proofs.session.Session.show.Goals as goal

pub returns-in-Some-clause-obeys : goal.returns-in-Some-clause-obeys
returns-in-Some-clause-obeys g c = λ texts.
    fault_obeys g.L.Lines.hear g.L.Lines.part g.M.Columns.did c.args.self.now (family.Tell (asked.Show c.args.names.now)) _ texts _ (Refused c.in-Some.refusal)
    (rw (← c.self.view_is, ← c.items.ensures) (sym c.in-Some.ensures))

pub tell_shown-requires-clause-short : goal.tell_shown-requires-clause-short
tell_shown-requires-clause-short g c =
    let core = (session_of c.self.invariant.0).core in
    rw (c.items-4.ensures, ← c.self.view_is)
    (All-weaker (λ (name : List ℕ). length (nodes_named core.circuit core.vectors name) ≤ c.longest_list-most.result)
    (λ (name : List ℕ). length (nodes_named core.circuit core.vectors name) ≤ c.in_ok-room.room)
    (λ name few. let enough = c.in_ok-room.ensures in omega (arith, few, enough)) c.args.names.now
    (rw c.items-2.ensures at c.longest_list-most.ensures.short))

pub tell_shown-requires-clause-room : goal.tell_shown-requires-clause-room
tell_shown-requires-clause-room g c =
    let core = (session_of c.self.invariant.0).core in
    let enough = c.in_ok-reserve.ensures.ok in
    rw (c.items-4.ensures, ← c.self.view_is)
    (shown_room core c.args.names.now c.longest_shown.result c.longest_list-most.result _ (rw c.items-3.ensures at c.longest_shown.ensures.longest)
    (rw c.items-2.ensures at c.longest_list-most.ensures.short) enough)

pub returns-clause-obeys : goal.returns-clause-obeys
returns-clause-obeys g c = λ texts.
    let session = session_of c.self.invariant.0 in
    let core = session.core in
    let names = c.args.names.now in
    let command = family.Tell (asked.Show names) in
    let lines = map (shown_line core) names in
    let allowed : refusal_of core command ≡ None = sym (rw (c.in_default.is, c.items.ensures) at c.known_refusal.ensures) in
    rw (← c.self.view_is)
    (still_obeys g.L.Lines.hear g.L.Lines.part g.M.Columns.did session session command lines _ _ texts _ _ c.tell_shown.result refl allowed
    (shown_told core names, refl) (lines, (shown_told core names, refl))
    (rw (c.items-4.ensures, ← c.self.view_is, c.reserve.ensures.heard) at c.tell_shown.ensures.sent)
    c.tell_shown.ensures.cause (rw c.reserve.ensures.refusals at c.tell_shown.ensures.refusals) refl)
