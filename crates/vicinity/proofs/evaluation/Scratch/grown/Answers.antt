-- Both sets are empty still, and the floor is at 0 throughout.
use Rattle.std.proofs.Common.{◌≡◌, ◌-◌, ◌≤◌, false, length, refl, sym, ap, subst, ◌∙◌, arith}
use Rattle.std.specs.Prelude.{slice_index}
use Rattle.vicinity.specs.NodeSets.{IsIn}
use Rattle.vicinity.specs.Evaluating.{ScratchData}
use Rattle.vicinity.proofs.GrowingLemmas.{default_more, filled_count}
use Rattle.vicinity.proofs.evaluation.Scratch.grown.Goals as goal

pub grown-requires : goal.grown-requires
grown-requires c = omega (arith, c.requires, ap (λ (room : ScratchData). room.nodes) c.self.view_is)

pub grown-requires-2 : goal.grown-requires-2
grown-requires-2 c = omega (arith, c.requires, ap (λ (room : ScratchData). room.nodes) c.self.view_is, c.self.invariant.lefts)

pub filled-requires : goal.filled-requires
filled-requires c = omega (arith, c.requires, ap (λ (room : ScratchData). room.nodes) c.self.view_is, c.self.invariant.floors)

pub filled-requires-2 : goal.filled-requires-2
filled-requires-2 c = omega (arith, c.requires, ap (λ (room : ScratchData). room.nodes) c.self.view_is, c.self.invariant.bests)

pub filled-requires-3 : goal.filled-requires-3
filled-requires-3 c = omega (arith, c.requires, ap (λ (room : ScratchData). room.nodes) c.self.view_is, c.self.invariant.ones)

pub filled-requires-4 : goal.filled-requires-4
filled-requires-4 c = omega (arith, c.requires, ap (λ (room : ScratchData). room.nodes) c.self.view_is, c.self.invariant.zeros)

pub invariant_of-result : goal.invariant_of-result
invariant_of-result c =
    let i = c.self.inside in
    let is = c.self.invariant in
    let count = c.args.nodes in
    let few : length i.awake.inside ≤ count = omega (arith, c.requires, ap (λ (room : ScratchData). room.nodes) c.self.view_is) in
    let awakes : length c.in_ok-awake.awake.inside ≡ count = ap length c.in_ok-awake.ensures.inside ∙ filled_count i.awake.inside false count few in
    let lefts : length c.in_ok-left.left.inside ≡ count =
    ap length c.in_ok-left.ensures.inside ∙ filled_count i.left.inside false count (omega (arith, few, is.lefts)) in
    record {
      awakes = refl;
      lefts = lefts ∙ sym awakes;
      floors = ap length c.in_ok-floor.ensures ∙ (filled_count i.floor.items 0 count (omega (arith, few, is.floors)) ∙ sym awakes);
      bests = ap length c.in_ok-best.ensures ∙ (filled_count i.best.items 0 count (omega (arith, few, is.bests)) ∙ sym awakes);
      ones = ap length c.in_ok-one.ensures ∙ (filled_count i.one.items 0 count (omega (arith, few, is.ones)) ∙ sym awakes);
      zeros = ap length c.in_ok-zero.ensures ∙ (filled_count i.zero.items 0 count (omega (arith, few, is.zeros)) ∙ sym awakes);
      nobody = λ node there.
          is.nobody node
          (sym (default_more i.awake.inside false (count - length i.awake.inside) node) ∙ subst (λ inside. IsIn inside node) c.in_ok-awake.ensures.inside there);
      none = λ node there.
          is.none node
          (sym (default_more i.left.inside false (count - length i.left.inside) node) ∙ subst (λ inside. IsIn inside node) c.in_ok-left.ensures.inside there);
      bottom = λ node.
          ap (λ entries. slice_index entries node) c.in_ok-floor.ensures
          ∙ (default_more i.floor.items 0 (count - length i.floor.items) node ∙ is.bottom node);
    }

pub returns : goal.returns
returns c =
    let i = c.self.inside in
    let few : length i.awake.inside ≤ c.args.nodes = omega (arith, c.requires, ap (λ (room : ScratchData). room.nodes) c.self.view_is) in
    ap length c.in_ok-awake.ensures.inside ∙ filled_count i.awake.inside false c.args.nodes few
