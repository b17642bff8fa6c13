-- A flood begins at its root and looks from one node more, until it has looked from all; what was flooded is a group.
use Rattle.std.proofs.Common.{◌≡◌, ℕ, ◌+◌, ◌<◌, List, [], ◌∷◌, length, nat_eq, sym, ap, subst, ◌∙◌, arith}
use Rattle.std.specs.Prelude.{slice_index}
use Rattle.std.proofs.lemmas.List.{append-nil}
use Rattle.indexmap.specs.IndexSet.{insert_key}
use Rattle.channel_groups.specs.Flood.{IsFlooding, IsPaid, IsSortedFrom}
use Rattle.channel_groups.specs.Listing.{places_of, others_at}
use Rattle.channel_groups.proofs.FloodLemmas.{IsFlooding-start, IsFlooding-visit, Sees-longer, count_within, paid_so_far, ticks-visit, IsGroup-flooded, Contains-root}
use Rattle.channel_groups.proofs.flood.group_at.Given.{Over}
use Rattle.channel_groups.proofs.flood.group_at.Goals.{After-as_slice}
use Rattle.channel_groups.proofs.flood.group_at.Goals as goal

pub loop-count-init : goal.loop-count-init
loop-count-init g c =
    let keys : c.insert.new.self.keys ≡ c.args.root ∷ [] =
    c.in_ok-insert.ensures.keys ∙ ap (λ old. insert_key nat_eq old c.args.root) c.new.ensures.empty in
    record {
      flooding =
          rw (keys, c.new-2.ensures.items) (IsFlooding-start c.args.graph.now c.args.root c.requires.root);
      within = omega arith;
      steps = omega arith;
    }

pub overflow_add-count : goal.overflow_add-count
overflow_add-count g c = omega (arith, c.loop-count-test.true, c.len.ensures.small)

pub loop-count-smaller : goal.loop-count-smaller
loop-count-smaller g c =
    let most = count_within c.args.graph.now c.args.root c.loop-count.count c.loop-count.flood.nodes.keys c.loop-count.flood.places.items
    c.loop-count.invariant.flooding c.as_slice-nodes.ensures.unique in
    omega (arith, most, c.loop-count-test.true, c.len.ensures.len)

pub loop-count-preserved : goal.loop-count-preserved
loop-count-preserved g c =
    let graph = c.args.graph.now in
    let found = c.loop-count.flood.nodes.keys in
    let count = c.loop-count.count in
    let so_far = c.loop-count.invariant in
    let sees = c.in_ok-visit.ensures.sees in
    let inside : count < length found = omega (arith, c.loop-count-test.true, c.len.ensures.len) in
    let node = slice_index c.as_slice-nodes.result.now count in
    let is : slice_index found count ≡ node = ap (λ (xs : List ℕ). slice_index xs count) (sym c.as_slice-nodes.ensures.keys) in
    record {
      flooding = IsFlooding-visit graph c.args.root count node found c.visit.new.flood.nodes.keys
          c.loop-count.flood.places.items c.visit.new.flood.places.items so_far.flooding inside is sees;
      within = omega (arith, inside, Sees-longer graph node _ found c.visit.new.flood.nodes.keys _ _ sees);
      steps =
          ticks-visit (others_at c.args.changed (places_of c.args.ends.now.firsts.items)) (others_at c.args.changed (places_of c.args.ends.now.seconds.items))
          found c.visit.new.flood.nodes.keys sees.grown.0 sees.grown.1 count node c.args.steps.now c.loop-count.steps c.visit.new.steps
          inside is so_far.steps c.in_ok-visit.ensures.steps;
    }

-- what was flooded
flooded : (g : Over) (c : After-as_slice g) →
    IsFlooding c.args.graph.now c.args.root (length c.loop-count.flood.nodes.keys) c.loop-count.flood.nodes.keys c.loop-count.flood.places.items
flooded g c =
    let found = c.loop-count.flood.nodes.keys in
    let all : c.loop-count.count ≡ length found = omega (arith, c.loop-count.invariant.within, c.loop-count-test.false, c.len.ensures.len) in
    subst (λ n. IsFlooding c.args.graph.now c.args.root n found c.loop-count.flood.places.items) all c.loop-count.invariant.flooding

-- and that its steps are paid for
paid : (g : Over) (c : After-as_slice g) → IsPaid c.args.graph.now c.args.root c.args.steps.now c.loop-count.steps
paid g c =
    paid_so_far c.args.graph.now c.args.root c.args.changed (places_of c.args.ends.now.firsts.items) (places_of c.args.ends.now.seconds.items)
    c.requires.firsts c.requires.seconds c.loop-count.flood.nodes.keys c.loop-count.flood.places.items c.loop-count.count c.loop-count.count
    c.loop-count.invariant.flooding c.len.ensures.unique c.loop-count.invariant.within c.args.steps.now c.loop-count.steps c.loop-count.invariant.steps

pub returns : goal.returns
returns g c =
    let graph = c.args.graph.now in
    let found = c.loop-count.flood.nodes.keys in
    let places = c.loop-count.flood.places.items in
    let group = c.in_ok-group.group in
    let begin = (goal.at.returns g c).After-as_slice in
    let flood = flooded g begin in
    let members : IsSortedFrom found group.members =
    subst (λ (xs : List ℕ). IsSortedFrom xs group.members) c.as_slice.ensures.keys c.in_ok-group.ensures.members in
    let switches : IsSortedFrom places group.switches =
    subst (λ (xs : List ℕ). IsSortedFrom xs group.switches) c.as_slice-2.ensures.value c.in_ok-group.ensures.switches in
    record {
      group = IsGroup-flooded graph c.args.root found places flood group members switches;
      root = Contains-root graph c.args.root found places flood group members;
      steps = paid g begin;
    }

pub returns-in_err-group-clause-steps : goal.returns-in_err-group-clause-steps
returns-in_err-group-clause-steps g c = paid g (goal.at.returns-in_err-group-clause-steps g c).After-as_slice

pub returns-in_err-visit-clause-steps : goal.returns-in_err-visit-clause-steps
returns-in_err-visit-clause-steps g c =
    let found = c.loop-count.flood.nodes.keys in
    let count = c.loop-count.count in
    let so_far = c.loop-count.invariant in
    let firsts = places_of c.args.ends.now.firsts.items in
    let seconds = places_of c.args.ends.now.seconds.items in
    let inside : count < length found = omega (arith, c.loop-count-test.true, c.len.ensures.len) in
    let is : slice_index found count ≡ slice_index c.as_slice-nodes.result.now count =
    ap (λ (xs : List ℕ). slice_index xs count) (sym c.as_slice-nodes.ensures.keys) in
    paid_so_far c.args.graph.now c.args.root c.args.changed firsts seconds c.requires.firsts c.requires.seconds found c.loop-count.flood.places.items
    count (count + 1) so_far.flooding c.as_slice-nodes.ensures.unique (omega (arith, inside)) c.args.steps.now c.visit.new.steps
    (ticks-visit (others_at c.args.changed firsts) (others_at c.args.changed seconds) found found [] (sym (append-nil found)) count
    (slice_index c.as_slice-nodes.result.now count) c.args.steps.now c.loop-count.steps c.visit.new.steps inside is so_far.steps c.visit.ensures.steps)
