-- The rails were made first, then the passes of both kinds over them.
use Rattle.std.proofs.Common.{◌≡◌, ◌<◌, rules, ◌*◌, ◌+◌, ◌++◌, length, replicate, true, false}
use Rattle.std.proofs.lemmas.List.Elements.{All-append}
use Rattle.ternary.specs.Tern.{may_one, may_zero}
use Rattle.switch_paths.specs.Graphs.{nodes}
use Rattle.node_elimination.specs.LevelSystem.{IsConstant}
use Rattle.node_elimination.specs.declared.inputs.Inputs.{Inputs}
use Rattle.node_elimination.specs.Inputs.{AreRails, ArePasses}
use Rattle.node_elimination.proofs.GrowthLemmas.{Extends-trans, AreFormulas-extends}
use Rattle.node_elimination.proofs.InputLemmas.{AreFormulas-rails, HaveInputs-made, ShowsState-made, AreGrown-made}
use Rattle.node_elimination.proofs.RailLemmas.{IsConstant-leaf, IsConstant-extends}
use Rattle.node_elimination.proofs.inputs.make_inputs.Given as given
use Rattle.node_elimination.proofs.inputs.make_inputs.Goals as goal

pub passes_of-requires-clause-falsehood : goal.passes_of-requires-clause-falsehood
passes_of-requires-clause-falsehood g c =
    IsConstant-extends false _ _ c.in_ok-falsehood.falsehood
    (Extends-trans _ _ _ c.in_ok-truth.ensures.extends c.in_ok-rails.ensures.extends)
    (IsConstant-leaf false _ c.in_ok-falsehood.falsehood c.in_ok-falsehood.ensures.made)

pub passes_of-requires-2-clause-formulas : goal.passes_of-requires-2-clause-formulas
passes_of-requires-2-clause-formulas g c =
    let hi = c.in_ok-rails.rails.hi.items in
    let lo = c.in_ok-rails.rails.lo.items in
    let a = c.rails_of_nodes.new.pool in
    rw (c.deref-3.ensures.value, c.deref-4.ensures.value)
    (AreFormulas-extends a _ (hi ++ lo) c.in_ok-closed.ensures.extends
    (All-append (λ id. id.place < length a) hi lo (AreFormulas-rails may_one _ _ _ a hi c.in_ok-rails.ensures.hi)
    (AreFormulas-rails may_zero _ _ _ a lo c.in_ok-rails.ensures.lo)))

pub passes_of-requires-2-clause-falsehood : goal.passes_of-requires-2-clause-falsehood
passes_of-requires-2-clause-falsehood g c =
    IsConstant-extends false _ _ c.in_ok-falsehood.falsehood
    (Extends-trans _ _ _ (Extends-trans _ _ _ c.in_ok-truth.ensures.extends c.in_ok-rails.ensures.extends)
    c.in_ok-closed.ensures.extends)
    (IsConstant-leaf false _ c.in_ok-falsehood.falsehood c.in_ok-falsehood.ensures.made)

-- what holds once all is made
module _ (g : given.Over) (c : goal.In_ok-vec g) where
  falsehood : IsConstant false c.passes_of-2.new.pool c.in_ok-falsehood.falsehood
  falsehood =
      IsConstant-extends false _ _ c.in_ok-falsehood.falsehood
      (Extends-trans _ _ _
      (Extends-trans _ _ _ (Extends-trans _ _ _ c.in_ok-truth.ensures.extends c.in_ok-rails.ensures.extends)
      c.in_ok-closed.ensures.extends)
      c.in_ok-live.ensures.extends)
      (IsConstant-leaf false _ c.in_ok-falsehood.falsehood c.in_ok-falsehood.ensures.made)

  truth : IsConstant true c.passes_of-2.new.pool c.in_ok-truth.truth
  truth =
      IsConstant-extends true _ _ c.in_ok-truth.truth
      (Extends-trans _ _ _ (Extends-trans _ _ _ c.in_ok-rails.ensures.extends c.in_ok-closed.ensures.extends)
      c.in_ok-live.ensures.extends)
      (IsConstant-leaf true _ c.in_ok-truth.truth c.in_ok-truth.ensures.made)

  hi : AreRails may_one (λ node. 2 * node) c.args.constants.now (nodes c.args.graph.now) c.rails_of_nodes.new.pool
      c.in_ok-rails.rails.hi.items
  hi = rw c.requires.constants at c.in_ok-rails.ensures.hi

  lo : AreRails may_zero (λ node. 2 * node + 1) c.args.constants.now (nodes c.args.graph.now) c.rails_of_nodes.new.pool
      c.in_ok-rails.rails.lo.items
  lo = rw c.requires.constants at c.in_ok-rails.ensures.lo

  closed : ArePasses c.args.graph.now true c.rails_of_nodes.new.pool c.in_ok-rails.rails.hi.items
      c.in_ok-rails.rails.lo.items
      (length c.args.graph.now.places) c.passes_of.new.pool c.in_ok-closed.closed.items
  closed = rw (c.deref.ensures.value, c.deref-2.ensures.value) at c.in_ok-closed.ensures.passes

  live : ArePasses c.args.graph.now false c.passes_of.new.pool c.in_ok-rails.rails.hi.items c.in_ok-rails.rails.lo.items
      (length c.args.graph.now.places) c.passes_of-2.new.pool c.in_ok-live.live.items
  live = rw (c.deref-3.ensures.value, c.deref-4.ensures.value) at c.in_ok-live.ensures.passes

  sure : c.in_ok-vec.field-0.items ≡ replicate (nodes c.args.graph.now) c.in_ok-truth.truth
  sure = rw (← c.nodes.ensures) (search rules)

  -- the record of all that was made
  abbrev made : Inputs
  made = record {
    falsehood = c.in_ok-falsehood.falsehood;
    truth = c.in_ok-truth.truth;
    hi = c.in_ok-rails.rails.hi;
    lo = c.in_ok-rails.rails.lo;
    closed = c.in_ok-closed.closed;
    live = c.in_ok-live.live;
    sure = c.in_ok-vec.field-0;
  }

pub returns-clause-inputs : goal.returns-clause-inputs
returns-clause-inputs g c =
    HaveInputs-made c.args.graph.now c.graphs_are_wired.ensures c.args.constants.now _ _ _
    (made g c) c.in_ok-closed.ensures.extends c.in_ok-live.ensures.extends
    (falsehood g c) (truth g c) (hi g c) (lo g c) (closed g c) (live g c) (sure g c)

pub returns-clause-shows : goal.returns-clause-shows
returns-clause-shows g c = λ state vars assignment.
    ShowsState-made c.args.graph.now c.graphs_are_wired.ensures c.args.constants.now _ _ _
    (made g c) c.in_ok-closed.ensures.extends c.in_ok-live.ensures.extends
    (falsehood g c) (truth g c) (hi g c) (lo g c) (closed g c) (live g c) (sure g c) state vars assignment

pub returns-clause-grown : goal.returns-clause-grown
returns-clause-grown g c = λ listed bound enough.
    AreGrown-made c.args.graph.now c.graphs_are_wired.ensures c.args.constants.now _ _ _
    (made g c) c.in_ok-closed.ensures.extends c.in_ok-live.ensures.extends
    (falsehood g c) (truth g c) (hi g c) (lo g c) (closed g c) (live g c) (sure g c) listed bound enough
