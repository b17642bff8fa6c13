-- What all share stays in a phase: so the row has room still, and a count for each column.
use Rattle.std.proofs.Common.{ℕ, ◌*◌, false, length, sym, ap, ap₂, subst, ◌∙◌, arith}
use Rattle.settling.specs.declared.settling.Settled.{Settled}
use Rattle.told_lines.specs.Hearing.{Hears}
use Rattle.session_meaning.specs.Columns.{column_of, count_in, waves_of}
use Rattle.session_meaning.specs.Effects.{one_more}
use Rattle.session_meaning.specs.Sessions.{SessionData}
use Rattle.session_meaning.proofs.ColumnLemmas.{settled_in_all}
use Rattle.session_meaning.proofs.InAllLemmas.{phase_moves}
use Rattle.session_meaning.proofs.MoveLemmas.{setup-stated}
use Rattle.cosmos_session.proofs.session.Session.settle_and_tell.Goals as goal

pub tell_row-requires-clause-counts : goal.tell_row-requires-clause-counts
tell_row-requires-clause-counts g c = c.settle.auto.counts ∙ c.requires.counts ∙ sym c.settle.ensures.columns

pub tell_row-requires-clause-room : goal.tell_row-requires-clause-room
tell_row-requires-clause-room g c =
    let watched = ap (λ (s : SessionData). length s.watched) c.settle.ensures.core in
    omega (arith, ap₂ (λ (columns width : ℕ). columns * width) c.settle.ensures.columns watched, c.requires.room)

pub tell_row-requires-clause-line : goal.tell_row-requires-clause-line
tell_row-requires-clause-line g c = omega (arith, c.settle.ensures.columns, c.requires.line)

pub returns-clause-moves : goal.returns-clause-moves
returns-clause-moves g c =
    let old = c.args.self.now in
    let new = c.settle.new.self in
    let counts = c.settle.new.counts in
    let none : Settled = record { steps = 0; joined = false } in
    let sent = subst
    (λ (n : ℕ). Hears g.L.Lines.hear g.L.Lines.part (g.L.Lines.heard c.args.out.now) (g.L.Lines.heard c.tell_row.new.out)
    (waves_of n (column_of g.M.Columns.states new) (count_in counts)) c.tell_row.result) c.settle.ensures.columns c.tell_row.ensures.sent in
    phase_moves g.L.Lines.hear g.L.Lines.part g.M.Columns.columns g.M.Columns.states g.M.Columns.did old new counts _ _ c.tell_row.result sent
    (settled_in_all g.M.Columns.columns g.M.Columns.states old new c.settle.ensures.core (count_in counts)
    (λ column inside. c.settle.ensures.settles column none inside)) (c.settle.auto.counts ∙ c.requires.counts) c.settle.ensures.stage

pub returns-clause-setup : goal.returns-clause-setup
returns-clause-setup g c =
    let old = c.args.self.now.core in
    let new = c.settle.new.self.core in
    setup-stated old new new.state (one_more old.count) c.settle.ensures.core

pub returns-clause-seen : goal.returns-clause-seen
returns-clause-seen g c = c.settle.ensures.seen

pub returns-clause-knows : goal.returns-clause-knows
returns-clause-knows g c = c.settle.ensures.knows
