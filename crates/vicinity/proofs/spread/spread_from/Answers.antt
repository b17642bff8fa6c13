-- All places at the node are listed.
use Rattle.std.proofs.Common.{ℕ, ◌∙◌, arith}
use Rattle.std.specs.Prelude.{Contains, slice_index}
use Rattle.std.proofs.lemmas.List.{take_all}
use Rattle.vicinity.specs.Spreading.{IsSpreadOver}
use Rattle.vicinity.proofs.SpreadLemmas.{spread_of}
use Rattle.vicinity.proofs.spread.spread_from.Goals as goal

pub spread_over-requires-clause-goes_on : goal.spread_over-requires-clause-goes_on
spread_over-requires-clause-goes_on g c =
    let raises = c.loop-place.invariant.raises in
    record {
      lefts = raises.left_count ∙ c.requires.goes_on.lefts;
      entries = raises.count ∙ c.requires.goes_on.entries;
      ways = raises.ways;
      within = raises.within;
    }

pub returns-clause-spread : goal.returns-clause-spread
returns-clause-spread g c =
    let by = c.args.by.now in
    let places = c.listed-place-items.result.now in
    let all = take_all c.loop-place.place-index places (omega arith) in
    let over : (place : ℕ) → Contains places place →
    IsSpreadOver by.pass by.graph.now by.state.now by.awake.now.inside by.floor.now c.loop-place.table c.args.node
    (slice_index c.args.table.now c.args.node) place =
    λ place there. c.loop-place.invariant.over place (rw all there) in
    spread_of by.pass by.graph.now by.state.now by.awake.now.inside by.lists.now by.floor.now c.loop-place.table c.args.node
    (slice_index c.args.table.now c.args.node) places c.requires.sweep.lists c.listed-place-items.ensures.value over
