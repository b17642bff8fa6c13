-- What is refused each column is refused. What all share stays in a build: so there is a count for each column still, and room for a row.
-- That the room is taken out and put back no contract sees.
use Rattle.std.proofs.Common.{◌≡◌, ℕ, ◌*◌, length, replicate, Err, None, Some, false, sym, ap, ap₂, subst, ◌∙◌, arith}
use Rattle.std.proofs.lemmas.Result.{err_from_is_err_and}
use Rattle.script_lang.specs.declared.command.Command.TheVariants as family
use Rattle.column_script.specs.declared.command.ColumnCommand.TheVariants.{Shared}
use Rattle.settling.specs.declared.settling.Settled.{Settled}
use Rattle.session_meaning.specs.Columns.{MovesInAll}
use Rattle.session_meaning.specs.Refusals.{refusal_of_run}
use Rattle.session_meaning.specs.Sessions.{HeldSession, SessionData}
use Rattle.session_meaning.specs.Sinks.{refusals_sent}
use Rattle.session_meaning.specs.Stages.{ReadiesBy}
use Rattle.session_meaning.proofs.InAllLemmas.{obeys_unheard, refused_obeys, run_in_all, stopped_in_all, unready_in_all}
use Rattle.session_meaning.proofs.OutcomeLemmas.{on_ok-map}
use Rattle.session_meaning.proofs.PassingLemmas.{sees-readied, state-readied, unseen_sink}
use Rattle.cosmos_session.proofs.session.Session.run_columns.Goals as goal

pub returns-in-Some-clause-obeys : goal.returns-in-Some-clause-obeys
returns-in-Some-clause-obeys g c =
    let old = c.args.self.now in
    let here = rw c.deref.ensures.value at c.in-Some.ensures in
    let told = subst (λ (s : HeldSession _). Some c.in-Some.refusal ≡ refusal_of_run s.core.circuit s.core.clocks c.args.run.now) c.self.view_is here in
    refused_obeys g.M.Columns.cuts g.L.Lines.hear g.L.Lines.part g.M.Columns.columns g.M.Columns.states g.M.Columns.did old
    (Shared (family.Run c.args.run.now)) c.in-Some.refusal _ _ _ (λ column inside. sym told)

pub move_columns-done-requires-clause-shared : goal.move_columns-done-requires-clause-shared
move_columns-done-requires-clause-shared g c = c.requires.formed.1

pub move_columns-done-requires-clause-session : goal.move_columns-done-requires-clause-session
move_columns-done-requires-clause-session g c = c.is_well_formed.ensures

pub move_columns-done-requires-clause-counts : goal.move_columns-done-requires-clause-counts
move_columns-done-requires-clause-counts g c =
    let single : Settled = record { steps = 1; joined = false } in
    rw c.deref_mut.ensures.value
    (subst (λ (n : ℕ). c.fill_room.new.room.counts.items ≡ replicate n single) (sym c.make_ready.ensures.columns) c.in_ok-fill_room.ensures.counts)

pub move_columns-done-requires-clause-room : goal.move_columns-done-requires-clause-room
move_columns-done-requires-clause-room g c =
    let ready = c.in_ok-make_ready.ensures.readies in
    omega (
      arith,
      ap₂ (λ (columns width : ℕ). columns * width) c.make_ready.ensures.columns (ap (λ (s : SessionData). length s.watched) ready.build.used),
      c.in_ok-fill_room.ensures.room,
    )

pub move_columns-done-requires-clause-line : goal.move_columns-done-requires-clause-line
move_columns-done-requires-clause-line g c = omega (arith, c.make_ready.ensures.columns, c.row_bytes.ensures, c.in_ok-reserve.ensures.ok)

pub move_columns-done-requires-clause-knows : goal.move_columns-done-requires-clause-knows
move_columns-done-requires-clause-knows g c = λ shown.
    subst (g.O.Observer.knows c.args.onlooker.now)
    (sym (state-readied g.M.Columns.did c.take_room-room.new.self c.make_ready.new.self _ _ c.in_ok-make_ready.ensures.readies
    ∙ ap (λ (s : HeldSession _). s.core.state) c.take_room-room.ensures)) (c.requires.knows shown)

pub returns-clause-obeys : goal.returns-clause-obeys
returns-clause-obeys g c =
    let old = c.args.self.now in
    let taken = c.take_room-room.ensures in
    let mid = c.make_ready.new.self in
    let new = c.move_columns-done.new.self in
    let none : refusal_of_run c.self.inside.circuit c.self.inside.clocks.items c.args.run.now ≡ None =
    sym (rw (c.in_default.is, c.deref.ensures.value) at c.run_refusal.ensures) in
    let allowed = subst (λ (s : HeldSession _). refusal_of_run s.core.circuit s.core.clocks c.args.run.now ≡ None) c.self.view_is none in
    let after = g.L.Lines.heard c.move_columns-done.new.out in
    let moves = subst
    (λ (h : g.L.Lines.Heard). MovesInAll g.L.Lines.hear g.L.Lines.part g.M.Columns.columns g.M.Columns.states g.M.Columns.did c.args.run.now mid new h after
    c.move_columns-done.result) c.reserve.ensures.heard c.move_columns-done.ensures.moves in
    rw c.keep_room.ensures
    (run_in_all g.M.Columns.cuts g.L.Lines.hear g.L.Lines.part g.M.Columns.columns g.M.Columns.states g.M.Columns.did old c.args.run.now
    allowed mid _ _ (rw taken at c.in_ok-make_ready.ensures.readies) (rw taken at c.make_ready.ensures.columns)
    (rw taken at c.make_ready.ensures.states) new (g.L.Lines.heard c.args.out.now) after _ _ c.move_columns-done.result moves c.move_columns-done.ensures.cause
    (c.move_columns-done.ensures.refusals ∙ ap (λ (n : ℕ). refusals_sent n c.move_columns-done.result) c.reserve.ensures.refusals))

pub returns-clause-columns : goal.returns-clause-columns
returns-clause-columns g c =
    rw c.keep_room.ensures (c.move_columns-done.ensures.columns ∙ rw c.take_room-room.ensures at c.make_ready.ensures.columns)

pub returns-clause-seen : goal.returns-clause-seen
returns-clause-seen g c =
    on_ok-map _ _ c.move_columns-done.result
    (λ sees shown. sees-readied g.O.Observer.begin g.O.Observer.see g.O.Observer.rest g.M.Columns.did c.args.self.now c.make_ready.new.self _ _
    (rw c.take_room-room.ensures at c.in_ok-make_ready.ensures.readies) c.args.run.now _ _ (sees shown)) c.move_columns-done.ensures.seen

pub returns-clause-knows : goal.returns-clause-knows
returns-clause-knows g c = rw c.keep_room.ensures c.move_columns-done.ensures.knows

pub returns-clause-unseen : goal.returns-clause-unseen
returns-clause-unseen g c =
    unseen_sink c.args.onlooker.now c.move_columns-done.new.onlooker _ _ _ _ c.move_columns-done.result c.move_columns-done.ensures.cause
    (rw c.reserve.ensures.faults at c.move_columns-done.ensures.faults) (rw c.reserve.ensures.refusals at c.move_columns-done.ensures.refusals)

pub returns-in_err-fill_room-clause-obeys : goal.returns-in_err-fill_room-clause-obeys
returns-in_err-fill_room-clause-obeys g c =
    let stopped = err_from_is_err_and c.from_residual.result c.from_residual.ensures.1 in
    rw (stopped.1, stopped.2, c.take_room-room.ensures)
    (stopped_in_all g.M.Columns.cuts g.L.Lines.hear g.L.Lines.part g.M.Columns.columns g.M.Columns.states g.M.Columns.did c.args.self.now (Shared (family.Run c.args.run.now)) _ _ _)

pub returns-in_err-reserve-clause-obeys : goal.returns-in_err-reserve-clause-obeys
returns-in_err-reserve-clause-obeys g c =
    let stopped = err_from_is_err_and c.from_residual-in_err-reserve.result c.from_residual-in_err-reserve.ensures.1 in
    rw (stopped.1, stopped.2, c.take_room-room.ensures, c.reserve.ensures.heard, c.reserve.ensures.refusals)
    (stopped_in_all g.M.Columns.cuts g.L.Lines.hear g.L.Lines.part g.M.Columns.columns g.M.Columns.states g.M.Columns.did c.args.self.now (Shared (family.Run c.args.run.now)) _ _ _)

pub returns-in_err-make_ready-clause-obeys : goal.returns-in_err-make_ready-clause-obeys
returns-in_err-make_ready-clause-obeys g c =
    let stopped = err_from_is_err_and c.from_residual-in_err-make_ready.result c.from_residual-in_err-make_ready.ensures.1 in
    let old = c.args.self.now in
    let mid = c.make_ready.new.self in
    let fault = c.in_err-make_ready.field-0.0 in
    let none : refusal_of_run c.self.inside.circuit c.self.inside.clocks.items c.args.run.now ≡ None =
    sym (rw (c.in_default.is, c.deref.ensures.value) at c.run_refusal.ensures) in
    let allowed = subst (λ (s : HeldSession _). refusal_of_run s.core.circuit s.core.clocks c.args.run.now ≡ None) c.self.view_is none in
    let readies = subst
    (λ (s : HeldSession _). ReadiesBy g.M.Columns.cuts g.M.Columns.did s mid (g.A.Analyst.analysed c.args.analyst.now)
    (g.A.Analyst.analysed c.make_ready.new.analyst) (Err fault)) c.take_room-room.ensures c.in_err-make_ready.ensures.readies in
    let obeys = unready_in_all g.M.Columns.cuts g.L.Lines.hear g.L.Lines.part g.M.Columns.columns g.M.Columns.states
    g.M.Columns.did old c.args.run.now
    allowed mid (g.L.Lines.heard c.args.out.now) (g.A.Analyst.analysed c.args.analyst.now)
    (g.A.Analyst.analysed c.make_ready.new.analyst) (g.L.Lines.refusals c.args.out.now) fault readies in
    rw (stopped.1, stopped.2)
    (obeys_unheard g.M.Columns.cuts g.L.Lines.hear g.L.Lines.part g.M.Columns.columns g.M.Columns.states g.M.Columns.did old mid
    (Shared (family.Run c.args.run.now)) (g.L.Lines.heard c.args.out.now) (g.L.Lines.heard c.reserve.new.self)
    (g.A.Analyst.analysed c.args.analyst.now) (g.A.Analyst.analysed c.make_ready.new.analyst) (g.L.Lines.refusals c.args.out.now)
    (g.L.Lines.refusals c.reserve.new.self) (Err fault) c.reserve.ensures.heard c.reserve.ensures.refusals obeys)

pub returns-in_err-make_ready-clause-columns : goal.returns-in_err-make_ready-clause-columns
returns-in_err-make_ready-clause-columns g c = rw c.take_room-room.ensures at c.make_ready.ensures.columns
