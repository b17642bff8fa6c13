-- One place more; and all places at the node are listed.
use Rattle.std.proofs.Common.{◌≡◌, max, inl, inr, take, get_or, sym, ap, ◌∙◌, subst, arith}
use Rattle.std.specs.Prelude.{Contains}
use Rattle.std.proofs.lemmas.List.{take_more, take_all}
use Rattle.std.proofs.lemmas.List.Elements.{Contains-push_cases}
use Rattle.group_meaning.proofs.LinkLemmas.{Joins-sym}
use Rattle.vicinity.specs.Entries.{IsWay, own_strength}
use Rattle.vicinity.specs.Sources.{HasEdge}
use Rattle.vicinity.proofs.WayLemmas.{crosses_live, way_own, way_max, HasEdge-more}
use Rattle.vicinity.proofs.sources.source_at.Goals as goal

pub loop-place-init : goal.loop-place-init
loop-place-init g c =
    let level = c.level.ensures.value in
    let own = c.own_strength-own.ensures in
    record {
      way = λ positive.
          let (is, above) = c.above-entry.ensures.only positive in
          let same = is ∙ own in
          let from = way_own c.args.graph.now c.args.state.now c.args.pass c.args.node c.args.floor _ c.requires.inside level c.requires.floor
          (omega (arith, above, own)) (omega (arith, positive, is, own)) in
          subst (IsWay c.args.pass c.args.graph.now c.args.state.now c.args.node) (sym same) from;
      own = λ above.
          let same = own ∙ ap (own_strength c.args.pass _) level in
          omega (arith, c.above-entry.ensures.has (omega (arith, above, same)), same);
      edge = λ place there. absurd (omega (arith, there.1));
      steps = omega (arith, c.tick.ensures);
    }

pub loop-place-preserved : goal.loop-place-preserved
loop-place-preserved g c =
    let so_far = c.loop-place.invariant in
    let places = c.listed-place-items.result.now in
    let i = c.loop-place.place-index in
    let most : c.max-entry.result ≡ max c.loop-place.entry c.edge_at.result = omega (arith, c.max-entry.ensures) in
    record {
      steps = omega (arith, so_far.steps, c.tick-in-loop-place.ensures);
      way = way_max c.args.pass c.args.graph.now c.args.state.now c.args.node c.loop-place.entry c.edge_at.result c.max-entry.result most
          so_far.way c.edge_at.ensures.way;
      own = λ above. omega (arith, so_far.own above, most);
      edge = λ place there.
          elim (Contains-push_cases (take i places) (get_or places i 0) place (rw (take_more places i 0 c.loop-place-test.true) at there)) [
            | inl before ↦ HasEdge-more c.args.pass c.args.graph.now c.args.state.now c.args.node c.args.floor c.loop-place.entry c.max-entry.result place
                (omega (arith, most)) (so_far.edge place before)
            | inr same ↦ HasEdge-more c.args.pass c.args.graph.now c.args.state.now c.args.node c.args.floor c.edge_at.result c.max-entry.result place
                (omega (arith, most)) (subst (HasEdge c.args.pass c.args.graph.now c.args.state.now c.args.node c.args.floor c.edge_at.result) same c.edge_at.ensures.edge)
          ];
    }

pub returns-clause-sources : goal.returns-clause-sources
returns-clause-sources g c =
    let places = c.listed-place-items.result.now in
    let all = take_all c.loop-place.place-index places (omega arith) in
    record {
      own = c.loop-place.invariant.own;
      edge = λ place other switch stands joins input cross.
          let there = c.requires.lists place c.args.node other
          (record { switch = switch; at_place = stands; joins = Joins-sym switch other c.args.node joins; live = crosses_live c.args.pass _ cross }) in
          let listed : Contains (take c.loop-place.place-index places) place = rw (all, c.listed-place-items.ensures.value) there in
          c.loop-place.invariant.edge place listed other switch stands joins input cross;
    }
