-- One place more.
use Rattle.std.proofs.Common.{arith}
use Rattle.switch_paths.proofs.PathLemmas.{switch_fits}
use Rattle.node_elimination.proofs.GrowthLemmas.{Extends-trans}
use Rattle.node_elimination.proofs.InputLemmas.{ArePasses-push, pass_steps, steps_within}
use Rattle.node_elimination.proofs.RailLemmas.{IsConstant-extends}
use Rattle.node_elimination.proofs.inputs.passes_of.Goals as goal

pub pass_of-requires-clause-falsehood : goal.pass_of-requires-clause-falsehood
pass_of-requires-clause-falsehood g c =
    IsConstant-extends _ _ _ c.args.falsehood c.loop-place.invariant.extends c.requires.falsehood

pub returns-in_err-pass-clause-few : goal.returns-in_err-pass-clause-few
returns-in_err-pass-clause-few g c =
    omega (arith, c.loop-place.invariant.few, c.pass_of.ensures.few, steps_within c.args.graph.now c.loop-place.place (omega arith))

pub returns-in_err-add_to-clause-few : goal.returns-in_err-add_to-clause-few
returns-in_err-add_to-clause-few g c =
    omega (arith, c.loop-place.invariant.few, c.pass_of.ensures.few, steps_within c.args.graph.now c.loop-place.place (omega arith))

pub loop-place-preserved : goal.loop-place-preserved
loop-place-preserved g c =
    let so_far = c.loop-place.invariant in
    let next = c.in_ok-pass.ensures in
    let graph = c.args.graph.now in
    let place = c.loop-place.place in
    record {
      extends = Extends-trans _ _ _ so_far.extends next.extends;
      passes = rw c.in_ok-add_to.ensures
          (ArePasses-push graph c.args.sure _ _ _ c.args.hi.now c.args.lo.now place c.loop-place.passes.items
          c.in_ok-pass.pass (omega arith)
          c.requires.formulas
          (λ switch stands.
          let fits = switch_fits graph c.graphs_are_wired.ensures place switch stands in
          (omega (arith, fits.gate, c.requires.hi), omega (arith, fits.gate, c.requires.lo)))
          so_far.extends next.extends so_far.passes next.pass);
      rises = omega (arith, so_far.rises, next.rises);
      few = omega (arith, so_far.few, next.few, pass_steps graph place (omega arith));
    }
