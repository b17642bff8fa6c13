use Rattle.std.proofs.Common.{◌≡◌, ◌≤◌, ◌<◌, ℕ, None, refl, sym, arith}
use Rattle.std.specs.Prelude.{flat_map}
use Rattle.std.proofs.lemmas.List.Elements.{All-weaker}
use Rattle.switch_paths.specs.Graphs.{nodes}
use Rattle.told_lines.specs.Lines.{Line, AreInRoom, room_of}
use Rattle.node_looks.specs.Looks.{looked_lines, node_lines}
use Rattle.script_lang.specs.declared.command.Command.TheVariants as family
use Rattle.script_lang.specs.declared.command.Tell.TheVariants as asked
use Rattle.session_meaning.specs.declared.fault.ApplyFault.TheVariants.{Refused}
use Rattle.session_meaning.specs.Refusals.{refusal_of}
use Rattle.session_meaning.proofs.StayingLemmas.{session_of}
use Rattle.session_meaning.proofs.LookLemmas.{looked_room, looked_told, nodes_known}
use Rattle.session_meaning.proofs.OutcomeLemmas.{fault_obeys, still_obeys}
use Rattle.cosmos_session.proofs.session.Session.look.Goals as goal

pub returns-in-Some-clause-obeys : goal.returns-in-Some-clause-obeys
returns-in-Some-clause-obeys g c = λ texts.
    fault_obeys g.L.Lines.hear g.L.Lines.part g.M.Columns.did c.args.self.now (family.Tell (asked.Look c.args.names.now)) _ texts _ (Refused c.in-Some.refusal)
    (rw (← c.self.view_is, ← c.items.ensures) (sym c.in-Some.ensures))

pub tell_looked-requires-clause-states : goal.tell_looked-requires-clause-states
tell_looked-requires-clause-states g c = rw c.column.ensures.value c.self.invariant.0.core.ready.states

pub tell_looked-requires-clause-known : goal.tell_looked-requires-clause-known
tell_looked-requires-clause-known g c =
    rw c.items-2.ensures
    (nodes_known (session_of c.self.invariant.0).core.circuit c.args.names.now (sym (rw (c.in_default.is, c.items.ensures) at c.node_refusal.ensures)))

pub tell_looked-requires-clause-room : goal.tell_looked-requires-clause-room
tell_looked-requires-clause-room g c =
    let core = (session_of c.self.invariant.0).core in
    let enough = c.in_ok-reserve.ensures.ok in
    let wide : (node : ℕ) → node < nodes core.circuit.graph → AreInRoom (g.L.Lines.room c.reserve.new.self) (node_lines core.circuit core.state node) =
    λ node inside.
    All-weaker (λ (line : Line). room_of line ≤ c.in_ok-room.room) (λ line. room_of line ≤ g.L.Lines.room c.reserve.new.self)
    (λ line few. omega (arith, few, enough)) (node_lines core.circuit core.state node) (c.in_ok-room.ensures core.state node inside) in
    rw (c.items-2.ensures, c.column.ensures.value)
    (looked_room core.circuit core.state c.self.invariant.0.core.ready.netlist (g.L.Lines.room c.reserve.new.self) wide c.args.names.now)

pub returns-clause-obeys : goal.returns-clause-obeys
returns-clause-obeys g c = λ texts.
    let session = session_of c.self.invariant.0 in
    let core = session.core in
    let names = c.args.names.now in
    let command = family.Tell (asked.Look names) in
    let lines = flat_map (looked_lines core.circuit core.state) names in
    let allowed : refusal_of core command ≡ None = sym (rw (c.in_default.is, c.items.ensures) at c.node_refusal.ensures) in
    rw (← c.self.view_is)
    (still_obeys g.L.Lines.hear g.L.Lines.part g.M.Columns.did session session command lines _ _ texts _ _ c.tell_looked.result refl allowed
    (looked_told core names, refl) (lines, (looked_told core names, refl))
    (rw (c.items-2.ensures, c.column.ensures.value, c.reserve.ensures.heard) at c.tell_looked.ensures.sent)
    c.tell_looked.ensures.cause (rw c.reserve.ensures.refusals at c.tell_looked.ensures.refusals) refl)
