-- The stage's phase is each column's.
use Rattle.std.proofs.Common.{ℕ, ◌≡◌, ◌≤◌, false, length, refl, sym, ap, subst, ◌∙◌, rules}
use Rattle.settling.specs.declared.settling.Settled.{Settled}
use Rattle.analysis_cache.specs.Keeping.{texts_of}
use Rattle.session_meaning.specs.Columns.{count_in}
use Rattle.session_meaning.specs.Effects.{one_more}
use Rattle.session_meaning.specs.Passing.{PhaseThrough, SeesStates}
use Rattle.session_meaning.specs.Sessions.{HeldSession}
use Rattle.session_meaning.proofs.ColumnLemmas.{sounds_settled}
use Rattle.session_meaning.proofs.PassingLemmas.{phase_pass}
use Rattle.session_meaning.proofs.StayingLemmas.{core_moved, session_of}
use Rattle.cosmos_session.proofs.StageLemmas.{stage_moved, used_same}
use Rattle.cosmos_session.proofs.session.Session.settle.Goals as goal

pub begin-requires : goal.begin-requires
begin-requires g c = c.requires.knows

pub settle-requires-clause-fits : goal.settle-requires-clause-fits
settle-requires-clause-fits g c =
    rw c.graph-graph.ensures.value
    (subst (λ (s : HeldSession _). g.M.Columns.fits s.stage s.core.circuit.graph) (sym c.self.view_is) c.requires.fits)

pub settle-requires-clause-counts : goal.settle-requires-clause-counts
settle-requires-clause-counts g c =
    subst (λ (s : HeldSession _). length c.args.counts.now ≡ g.M.Columns.columns s.stage) (sym c.self.view_is) c.requires.counts

pub settle-requires-clause-knows : goal.settle-requires-clause-knows
settle-requires-clause-knows g c = λ shown.
    subst (λ (s : HeldSession _). g.O.Observer.knows c.begin.new.onlooker s.core.state) (sym c.self.view_is) (c.begin.ensures.knows shown)

pub first_steps-requires : goal.first_steps-requires
first_steps-requires g c = subst (λ (n : ℕ). 1 ≤ n) (sym c.settle.ensures.counts) c.self.invariant.0.some

pub invariant_of-self : goal.invariant_of-self
invariant_of-self g c =
    let session = session_of c.self.invariant.0 in
    let core = session.core in
    let stage = c.settle.new.self in
    let none : Settled = record { steps = 0; joined = false } in
    let settles = (rw c.graph-graph.ensures.value at c.settle.ensures.settles) in
    stage_moved g.M.Columns.columns g.M.Columns.states g.M.Columns.serves g.M.Columns.last (texts_of c.self.inside.kept) session stage
    c.saturating_add-self-inside.result c.self.invariant refl c.settle.ensures.last c.settle.ensures.columns
    (sounds_settled core.circuit c.self.invariant.0.core.ready.netlist (g.M.Columns.states session.stage) (g.M.Columns.states stage) (g.M.Columns.columns session.stage)
    (g.M.Columns.columns stage) core.limit (count_in c.settle.new.counts) c.settle.ensures.columns (λ column inside. settles column none inside) c.self.invariant.0.sound)
    (rw c.graph-graph.ensures.value at c.settle.ensures.serves)

pub returns-clause-core : goal.returns-clause-core
returns-clause-core g c =
    let core = (session_of c.self.invariant.0).core in
    let next = g.M.Columns.states c.settle.new.self 0 in
    let table = texts_of c.self.inside.kept in
    rw (← c.self.view_is)
    (core_moved core next next c.saturating_add-self-inside.result (one_more core.count) _ refl (search rules)
    (used_same _ _ table c.settle.ensures.last))

pub returns-clause-settles : goal.returns-clause-settles
returns-clause-settles g c = rw (← c.self.view_is) (rw c.graph-graph.ensures.value at c.settle.ensures.settles)

pub returns-clause-fits : goal.returns-clause-fits
returns-clause-fits g c = rw c.graph-graph.ensures.value at c.settle.ensures.fits

pub returns-clause-columns : goal.returns-clause-columns
returns-clause-columns g c = rw (← c.self.view_is) c.settle.ensures.columns

pub returns-clause-stage : goal.returns-clause-stage
returns-clause-stage g c = rw (← c.self.view_is) (rw c.graph-graph.ensures.value at c.settle.ensures.did)

pub returns-clause-seen : goal.returns-clause-seen
returns-clause-seen g c = λ shown.
    let start = c.args.self.now.core in
    let begun = g.O.Observer.seen c.begin.new.onlooker in
    let passed = g.O.Observer.seen c.settle.new.onlooker in
    let next = g.M.Columns.states c.settle.new.self 0 in
    let none : Settled = record { steps = 0; joined = false } in
    let steps = (count_in c.settle.new.counts 0).steps in
    let sees : SeesStates g.O.Observer.see (PhaseThrough start.circuit.graph start.limit start.state steps) start.state next begun passed =
    subst (λ (s : HeldSession _). SeesStates g.O.Observer.see (PhaseThrough s.core.circuit.graph s.core.limit s.core.state steps) s.core.state
    next begun passed) c.self.view_is ((rw c.graph-graph.ensures.value at c.settle.ensures.seen) none shown) in
    phase_pass g.O.Observer.begin g.O.Observer.see g.O.Observer.rest start.circuit.graph start.limit start.state next steps
    (g.O.Observer.seen c.args.onlooker.now) begun passed (g.O.Observer.seen c.rest.new.self) (c.begin.ensures.seen shown) sees
    (c.rest.ensures.seen ∙ ap (g.O.Observer.rest passed) c.first_steps.ensures)

pub returns-clause-knows : goal.returns-clause-knows
returns-clause-knows g c = λ shown. c.rest.ensures.knows _ (c.settle.ensures.knows shown)
