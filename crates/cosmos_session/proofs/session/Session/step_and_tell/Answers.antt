-- What all share stays in a step: so the row has room still, and a count for each column.
use Rattle.std.proofs.Common.{ℕ, ◌*◌, false, length, sym, ap, ap₂, subst, ◌∙◌, arith}
use Rattle.settling.specs.declared.settling.Settled.{Settled}
use Rattle.told_lines.specs.Hearing.{Hears}
use Rattle.session_meaning.specs.Columns.{column_of, count_in, waves_of}
use Rattle.session_meaning.specs.Sessions.{SessionData}
use Rattle.session_meaning.proofs.ColumnLemmas.{counts_alike, counts_counted, stepped_in_all}
use Rattle.session_meaning.proofs.InAllLemmas.{step_moves}
use Rattle.cosmos_session.proofs.session.Session.step_and_tell.Goals as goal

pub tell_row-requires-clause-counts : goal.tell_row-requires-clause-counts
tell_row-requires-clause-counts g c =
    let single : Settled = record { steps = 1; joined = false } in
    counts_counted (g.M.Columns.columns c.args.self.now.stage) single c.args.counts.now c.requires.counts ∙ sym c.take_step.ensures.columns

pub tell_row-requires-clause-room : goal.tell_row-requires-clause-room
tell_row-requires-clause-room g c =
    let watched = ap (λ (s : SessionData). length s.watched) c.take_step.ensures.core in
    omega (arith, ap₂ (λ (columns width : ℕ). columns * width) c.take_step.ensures.columns watched, c.requires.room)

pub tell_row-requires-clause-line : goal.tell_row-requires-clause-line
tell_row-requires-clause-line g c = omega (arith, c.take_step.ensures.columns, c.requires.line)

pub returns-clause-moves : goal.returns-clause-moves
returns-clause-moves g c =
    let old = c.args.self.now in
    let new = c.take_step.new.self in
    let counts = c.args.counts.now in
    let single : Settled = record { steps = 1; joined = false } in
    let sent = subst
    (λ (n : ℕ). Hears g.L.Lines.hear g.L.Lines.part (g.L.Lines.heard c.args.out.now) (g.L.Lines.heard c.tell_row.new.out)
    (waves_of n (column_of g.M.Columns.states new) (count_in counts)) c.tell_row.result) c.take_step.ensures.columns c.tell_row.ensures.sent in
    step_moves g.L.Lines.hear g.L.Lines.part g.M.Columns.columns g.M.Columns.states g.M.Columns.did old new counts _ _ c.tell_row.result sent
    (stepped_in_all g.M.Columns.columns g.M.Columns.states old new c.take_step.ensures.core c.take_step.ensures.steps)
    (λ column inside. counts_alike (g.M.Columns.columns old.stage) single counts c.requires.counts column inside) c.take_step.ensures.stage

pub returns-clause-seen : goal.returns-clause-seen
returns-clause-seen g c = c.take_step.ensures.seen

pub returns-clause-knows : goal.returns-clause-knows
returns-clause-knows g c = c.take_step.ensures.knows
