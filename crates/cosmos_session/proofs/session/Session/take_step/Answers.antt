-- The stage's step is each column's.
use Rattle.std.proofs.Common.{refl, sym, subst, rules}
use Rattle.switch_paths.specs.Graphs.{GraphData}
use Rattle.settling.specs.Passing.{SteppingThrough}
use Rattle.analysis_cache.specs.Keeping.{texts_of}
use Rattle.session_meaning.specs.Effects.{one_more}
use Rattle.session_meaning.specs.Passing.{SeesStates}
use Rattle.session_meaning.specs.Sessions.{HeldSession}
use Rattle.session_meaning.proofs.ColumnLemmas.{sounds_stepped}
use Rattle.session_meaning.proofs.PassingLemmas.{step_pass}
use Rattle.session_meaning.proofs.StayingLemmas.{core_moved, session_of}
use Rattle.cosmos_session.proofs.StageLemmas.{stage_moved, used_same}
use Rattle.cosmos_session.proofs.session.Session.take_step.Goals as goal

pub begin-requires : goal.begin-requires
begin-requires g c = c.requires.knows

pub step-requires-clause-fits : goal.step-requires-clause-fits
step-requires-clause-fits g c =
    subst (λ (graph : GraphData). g.M.Columns.fits (session_of c.self.invariant.0).stage graph) (sym c.graph.ensures.value)
    (subst (λ (s : HeldSession _). g.M.Columns.fits s.stage s.core.circuit.graph) (sym c.self.view_is) c.requires.fits)

pub step-requires-clause-knows : goal.step-requires-clause-knows
step-requires-clause-knows g c = λ shown.
    subst (λ (s : HeldSession _). g.O.Observer.knows c.begin.new.onlooker s.core.state) (sym c.self.view_is) (c.begin.ensures.knows shown)

pub invariant_of-self : goal.invariant_of-self
invariant_of-self g c =
    let session = session_of c.self.invariant.0 in
    let core = session.core in
    let stage = c.step.new.self in
    stage_moved g.M.Columns.columns g.M.Columns.states g.M.Columns.serves g.M.Columns.last (texts_of c.self.inside.kept) session stage
    c.saturating_add-self-inside.result c.self.invariant refl c.step.ensures.last c.step.ensures.columns
    (sounds_stepped core.circuit c.self.invariant.0.core.ready.netlist (g.M.Columns.states session.stage) (g.M.Columns.states stage) (g.M.Columns.columns session.stage)
    (g.M.Columns.columns stage) c.step.ensures.columns (rw c.graph.ensures.value at c.step.ensures.steps) c.self.invariant.0.sound)
    (rw c.graph.ensures.value at c.step.ensures.serves)

pub returns-clause-core : goal.returns-clause-core
returns-clause-core g c =
    let core = (session_of c.self.invariant.0).core in
    let next = g.M.Columns.states c.step.new.self 0 in
    let table = texts_of c.self.inside.kept in
    rw (← c.self.view_is)
    (core_moved core next next c.saturating_add-self-inside.result (one_more core.count) _ refl (search rules)
    (used_same _ _ table c.step.ensures.last))

pub returns-clause-steps : goal.returns-clause-steps
returns-clause-steps g c = rw (← c.self.view_is) (rw c.graph.ensures.value at c.step.ensures.steps)

pub returns-clause-columns : goal.returns-clause-columns
returns-clause-columns g c = rw (← c.self.view_is) c.step.ensures.columns

pub returns-clause-stage : goal.returns-clause-stage
returns-clause-stage g c = rw (← c.self.view_is) (rw c.graph.ensures.value at c.step.ensures.did)

pub returns-clause-seen : goal.returns-clause-seen
returns-clause-seen g c = λ shown.
    let start = c.args.self.now.core in
    let begun = g.O.Observer.seen c.begin.new.onlooker in
    let passed = g.O.Observer.seen c.step.new.onlooker in
    let next = g.M.Columns.states c.step.new.self 0 in
    let sees : SeesStates g.O.Observer.see (SteppingThrough start.circuit.graph 1 start.state) start.state next begun passed =
    subst (λ (s : HeldSession _). SeesStates g.O.Observer.see (SteppingThrough s.core.circuit.graph 1 s.core.state) s.core.state next
    begun passed) c.self.view_is ((rw c.graph.ensures.value at c.step.ensures.seen) shown) in
    step_pass g.O.Observer.begin g.O.Observer.see g.O.Observer.rest start.circuit.graph start.state next
    (g.O.Observer.seen c.args.onlooker.now) begun passed (g.O.Observer.seen c.rest.new.self) (c.begin.ensures.seen shown) sees c.rest.ensures.seen

pub returns-clause-knows : goal.returns-clause-knows
returns-clause-knows g c = λ shown. c.rest.ensures.knows _ (c.step.ensures.knows shown)
