-- The words grow, and the machine goes on with them, or leaves them.
use Rattle.std.proofs.Common.{◌≡◌, ◌+◌, ◌-◌, ℕ, List, length, ap, ap₂, sym, subst, ◌∙◌, arith}
use Rattle.switch_paths.specs.Graphs.{nodes}
use Rattle.word_columns.specs.Columns.{AreRailsIn}
use Rattle.channel_groups.specs.Changes.{undo}
use Rattle.group_text.specs.Texts.{GroupTextData}
use Rattle.group_analysis.specs.Using.{used_texts}
use Rattle.analysis_cache.specs.Keeping.{texts_of}
use Rattle.machine_laws.specs.Fitting.{Covers}
use Rattle.machine_laws.specs.Editing.{with_new_nodes}
use Rattle.column_machines.specs.Columns.{WordData, column_states, CoversInWords}
use Rattle.column_machines.specs.Editing.{AreKeptIn, GrowsWords}
use Rattle.column_machines.specs.Evaluating.{rooms}
use Rattle.column_machines.proofs.EditLemmas.{EditsWords-followed, GrowsWords-grown, IsWordMachine-followed}
use Rattle.column_machines.proofs.machine.WordMachine.edit.Goals.{After-grow_rails}
use Rattle.column_machines.proofs.machine.WordMachine.edit.Goals as goal

pub grow_rails-requires-clause-room : goal.grow_rails-requires-clause-room
grow_rails-requires-clause-room c =
    let hi = c.self.inside.hi in
    let lo = c.self.inside.lo in
    let long = ap (λ (d : WordData). length d.hi) c.self.view_is in
    let spare = ap (λ (d : WordData). d.spare) c.self.view_is in
    record {
      hi = omega (arith, c.requires.room, c.nodes.ensures, long, spare, hi.ok.0, hi.ok.1);
      lo = omega (arith, c.requires.room, c.nodes.ensures, long, spare, c.self.invariant.0.columns_are.counted, hi.ok.0, lo.ok.0, lo.ok.1);
    }

pub grow_rails-requires-clause-even : goal.grow_rails-requires-clause-even
grow_rails-requires-clause-even c = omega (arith, c.self.invariant.0.columns_are.counted, c.self.inside.hi.ok.0, c.self.inside.lo.ok.0)

-- the words that grew
grown : (c : After-grow_rails) →
    GrowsWords c.args.graph.now c.self.inside.columns c.self.inside.hi.items c.self.inside.lo.items c.grow_rails.new.rails.hi.items c.grow_rails.new.rails.lo.items
grown c =
    let i = c.self.inside in
    let same : c.nodes.result ≡ nodes c.args.graph.now = c.nodes.ensures in
    GrowsWords-grown c.args.graph.now i.columns i.hi.items i.lo.items c.grow_rails.new.rails.hi.items c.grow_rails.new.rails.lo.items c.self.invariant.0.few
    c.self.invariant.0.columns_are (omega (arith, c.grow_rails.ensures.highs, c.grow_rails.ensures.lows, c.grow_rails.new.rails.hi.ok.0, c.grow_rails.new.rails.lo.ok.0))
    (λ column state inside has.
    subst (λ (n : ℕ). AreRailsIn column c.grow_rails.new.rails.hi.items c.grow_rails.new.rails.lo.items (with_new_nodes state n)) same
    (c.grow_rails.ensures.states column state inside has))

-- they have as many nodes as the graph
long : (c : After-grow_rails) → length c.grow_rails.new.rails.hi.items ≡ length c.self.inside.hi.items + (nodes c.args.graph.now - length c.self.inside.hi.items)
long c = omega (arith, c.grow_rails.ensures.highs, c.nodes.ensures, c.grow_rails.new.rails.hi.ok.0, c.self.inside.hi.ok.0)

-- what the machine covers
covers_in : (c : After-grow_rails) → Covers (undo c.args.graph.now c.args.change.now) c.self.inside.machine
covers_in c = subst (λ (d : WordData). Covers (undo c.args.graph.now c.args.change.now) d.machine) (sym c.self.view_is) c.requires.covers.plain

pub follow_edit-requires-clause-covers : goal.follow_edit-requires-clause-covers
follow_edit-requires-clause-covers c = covers_in (goal.at.follow_edit-requires-clause-covers c).After-grow_rails

pub follow_edit-requires-clause-room : goal.follow_edit-requires-clause-room
follow_edit-requires-clause-room c =
    omega (arith, c.requires.room, ap (λ (d : WordData). length d.hi) c.self.view_is, ap (λ (d : WordData). d.spare) c.self.view_is, c.self.invariant.0.nodes)

pub follow_edit-requires-clause-counted : goal.follow_edit-requires-clause-counted
follow_edit-requires-clause-counted c = c.self.invariant.0.runs.counted

pub follow_edit-requires-clause-rails : goal.follow_edit-requires-clause-rails
follow_edit-requires-clause-rails c = c.self.invariant.1

pub joined-requires-clause-is : goal.joined-requires-clause-is
joined-requires-clause-is c =
    let at = (goal.at.joined-requires-clause-is c).After-grow_rails in
    let i = c.self.inside in
    let old : WordData = record { columns = i.columns; machine = i.machine; marks = i.agenda; hi = i.hi.items; lo = i.lo.items; spare = c.args.self.spare } in
    let covers : CoversInWords (undo c.args.graph.now c.args.change.now) old =
    subst (λ (d : WordData). CoversInWords (undo c.args.graph.now c.args.change.now) (record d { spare = c.args.self.spare })) (sym c.self.view_is) c.requires.covers in
    IsWordMachine-followed c.args.graph.now c.args.change.now c.requires.wired c.graphs_are_wired.ensures old c.self.invariant.0.runs.counted covers c.in-Ok.followed
    c.in-Ok.ensures.ok i.columns i.used i.hi.items i.lo.items c.grow_rails.new.rails.hi.items c.grow_rails.new.rails.lo.items (rooms i.workspace) c.self.invariant.0
    (long at) (grown at)

pub joined-requires-clause-even : goal.joined-requires-clause-even
joined-requires-clause-even c = c.in-Ok.ensures.ok.rails

pub returns-in-Ok-clause-edits : goal.returns-in-Ok-clause-edits
returns-in-Ok-clause-edits c =
    let at = (goal.at.returns-in-Ok-clause-edits c).After-grow_rails in
    let i = c.self.inside in
    let made = c.joined.ensures in
    let grows = grown at in
    rw (← c.self.view_is)
    (EditsWords-followed c.args.graph.now c.args.change.now c.requires.wired c.graphs_are_wired.ensures _ c.self.invariant.0.runs.counted
    (subst (CoversInWords (undo c.args.graph.now c.args.change.now)) (sym c.self.view_is) c.requires.covers) c.in-Ok.followed c.in-Ok.ensures.ok c.joined.result made.columns made.machine made.marks
    (λ column inside. ap₂ (column_states column) made.highs made.lows ∙ grows.each column inside))

pub use_last-requires : goal.use_last-requires
use_last-requires c =
    let last = c.in-Err.ensures.err ∙ ap (λ (d : WordData). d.machine.last) c.self.view_is in
    subst (λ (texts : List GroupTextData). AreKeptIn texts (texts_of c.args.kept.now)) (sym last) c.requires.last

pub returns-in-Err-clause-rails : goal.returns-in-Err-clause-rails
returns-in-Err-clause-rails c = rw (← c.self.view_is) (grown (goal.at.returns-in-Err-clause-rails c).After-grow_rails)

pub returns-in-Err-clause-gone : goal.returns-in-Err-clause-gone
returns-in-Err-clause-gone c =
    let last = c.in-Err.ensures.err ∙ ap (λ (d : WordData). d.machine.last) c.self.view_is in
    c.use_last.ensures.texts ∙ ap (λ (texts : List GroupTextData). used_texts texts (texts_of c.args.kept.now)) last
