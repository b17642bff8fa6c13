-- Each watched node has a state in each column.
use Rattle.std.proofs.Common.{◌≡◌, ℕ, ◌+◌, ◌*◌, ◌<◌, ◌≤◌, All, length, sym, subst}
use Rattle.switch_paths.specs.Graphs.{nodes}
use Rattle.printed_lines.specs.declared.lines.TheConstants.{COLUMN_ROOM, WAVE_LINE_ROOM}
use Rattle.session_meaning.specs.Sessions.{HeldSession}
use Rattle.session_meaning.proofs.StayingLemmas.{session_of}
use Rattle.cosmos_session.proofs.session.Session.tell_row.Goals as goal

pub tell_row-requires-clause-counts : goal.tell_row-requires-clause-counts
tell_row-requires-clause-counts g c =
    subst (λ (s : HeldSession _). length c.args.counts.now ≡ g.M.Columns.columns s.stage) (sym c.self.view_is) c.requires.counts

pub tell_row-requires-clause-room : goal.tell_row-requires-clause-room
tell_row-requires-clause-room g c =
    rw c.deref.ensures.value
    (subst (λ (s : HeldSession _). g.M.Columns.columns s.stage * length s.core.watched ≤ c.args.room.now) (sym c.self.view_is) c.requires.room)

pub tell_row-requires-clause-line : goal.tell_row-requires-clause-line
tell_row-requires-clause-line g c =
    subst (λ (s : HeldSession _). g.M.Columns.columns s.stage * (COLUMN_ROOM + WAVE_LINE_ROOM) ≤ g.L.Lines.room c.args.out.now) (sym c.self.view_is)
    c.requires.line

pub tell_row-requires-clause-within : goal.tell_row-requires-clause-within
tell_row-requires-clause-within g c =
    let session = session_of c.self.invariant.0 in
    λ column inside.
    let counted : length (g.M.Columns.states session.stage column) ≡ nodes session.core.circuit.graph = (c.self.invariant.0.sound column inside).counted in
    rw c.deref.ensures.value
    (subst (λ (count : ℕ). All (λ (node : ℕ). node < count) session.core.watched) (sym counted) c.self.invariant.0.core.watched)

pub returns-clause-sent : goal.returns-clause-sent
returns-clause-sent g c = rw (← c.self.view_is) (rw c.deref.ensures.value at c.tell_row.ensures.sent)
