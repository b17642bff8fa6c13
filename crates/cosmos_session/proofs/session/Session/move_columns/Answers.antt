-- What is seen of a step or a phase is the command's.
use Rattle.std.proofs.Common.{false}
use Rattle.settling.specs.declared.settling.Settled.{Settled}
use Rattle.session_meaning.proofs.BeatRowLemmas.{cycles_move}
use Rattle.session_meaning.proofs.ColumnLemmas.{counts_counted}
use Rattle.session_meaning.proofs.OutcomeLemmas.{on_ok, on_ok-map}
use Rattle.session_meaning.proofs.PassingLemmas.{known_at, sees_of, sees_one}
use Rattle.cosmos_session.proofs.session.Session.move_columns.Goals as goal

pub step_and_tell-requires-clause-counts : goal.step_and_tell-requires-clause-counts
step_and_tell-requires-clause-counts g c = c.requires.counts

pub step_and_tell-requires-clause-knows : goal.step_and_tell-requires-clause-knows
step_and_tell-requires-clause-knows g c = λ shown.
    known_at g.O.Observer.knows c.args.onlooker.now c.args.self.now.core c.requires.session.core (c.requires.knows shown)

pub settle_and_tell-requires-clause-counts : goal.settle_and_tell-requires-clause-counts
settle_and_tell-requires-clause-counts g c =
    let single : Settled = record { steps = 1; joined = false } in
    counts_counted (g.M.Columns.columns c.args.self.now.stage) single c.args.counts.now c.requires.counts

pub settle_and_tell-requires-clause-knows : goal.settle_and_tell-requires-clause-knows
settle_and_tell-requires-clause-knows g c = λ shown.
    known_at g.O.Observer.knows c.args.onlooker.now c.args.self.now.core c.requires.session.core (c.requires.knows shown)

pub run_cycles-requires-clause-counts : goal.run_cycles-requires-clause-counts
run_cycles-requires-clause-counts g c =
    let single : Settled = record { steps = 1; joined = false } in
    counts_counted (g.M.Columns.columns c.args.self.now.stage) single c.args.counts.now c.requires.counts

pub run_cycles-requires-clause-knows : goal.run_cycles-requires-clause-knows
run_cycles-requires-clause-knows g c = c.requires.knows

pub returns-in-Step-clause-moves : goal.returns-in-Step-clause-moves
returns-in-Step-clause-moves g c = rw c.in-Step.is c.step_and_tell.ensures.moves

pub returns-in-Step-clause-seen : goal.returns-in-Step-clause-seen
returns-in-Step-clause-seen g c =
    rw c.in-Step.is
    (on_ok _ c.step_and_tell.result
    (λ shown. sees_one g.O.Observer.begin g.O.Observer.see g.O.Observer.rest _ _ _ _ (c.step_and_tell.ensures.seen shown)))

pub returns-in-Step-clause-knows : goal.returns-in-Step-clause-knows
returns-in-Step-clause-knows g c = on_ok _ c.step_and_tell.result c.step_and_tell.ensures.knows

pub returns-in-Phase-clause-moves : goal.returns-in-Phase-clause-moves
returns-in-Phase-clause-moves g c = rw c.in-Phase.is c.settle_and_tell.ensures.moves

pub returns-in-Phase-clause-seen : goal.returns-in-Phase-clause-seen
returns-in-Phase-clause-seen g c =
    rw c.in-Phase.is
    (on_ok _ c.settle_and_tell.result
    (λ shown. sees_one g.O.Observer.begin g.O.Observer.see g.O.Observer.rest _ _ _ _ (c.settle_and_tell.ensures.seen shown)))

pub returns-in-Phase-clause-knows : goal.returns-in-Phase-clause-knows
returns-in-Phase-clause-knows g c = on_ok _ c.settle_and_tell.result c.settle_and_tell.ensures.knows

pub returns-in-Cycle-clause-moves : goal.returns-in-Cycle-clause-moves
returns-in-Cycle-clause-moves g c =
    rw c.in-Cycle.is
    (cycles_move g.L.Lines.hear g.L.Lines.part g.M.Columns.columns g.M.Columns.states g.M.Columns.did c.in-Cycle.times c.args.self.now c.run_cycles.new.self _ _
    c.run_cycles.result c.run_cycles.ensures.beats)

pub returns-in-Cycle-clause-seen : goal.returns-in-Cycle-clause-seen
returns-in-Cycle-clause-seen g c =
    rw c.in-Cycle.is
    (on_ok-map _ _ c.run_cycles.result
    (λ sees shown. sees_of g.O.Observer.begin g.O.Observer.see g.O.Observer.rest _ _ _ _ _ (sees shown)) c.run_cycles.ensures.seen)

pub returns-in-Cycle-clause-knows : goal.returns-in-Cycle-clause-knows
returns-in-Cycle-clause-knows g c = c.run_cycles.ensures.knows
