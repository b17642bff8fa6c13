-- One entry more.
use Rattle.std.proofs.Common.{◌≡◌, ◌<◌, ◌∙◌, sym, Some, refl, arith, length}
use Rattle.std.specs.Prelude.{slice_get}
use Rattle.std.proofs.lemmas.Option.{slice_get_read, slice_get_within}
use Rattle.switch_paths.specs.Spread.{rail_of}
use Rattle.why_path.specs.Search.{list_at, IsSettled}
use Rattle.why_path.proofs.SearchLemmas.{settled_by, settled_more, list_at-read}
use Rattle.why_path.proofs.FoundLemmas.{Keeps-trans}
use Rattle.why_path.proofs.search.widen.Goals as goal

pub loop-from-preserved : goal.loop-from-preserved
loop-from-preserved c =
    let g = c.args.graph.now in
    let state = c.args.state.now in
    let best = c.args.best.now in
    let least = c.args.strength in
    let start = c.args.progress.now.found.items in
    let old = c.loop-from.progress.found.items in
    let new = c.try_hops.new.progress.found.items in
    let so_far = c.loop-from.invariant in
    let now = c.in_ok-try_hops.ensures in
    let from = c.loop-from.from in
    let entry = c.index-entry.result.now in
    let inside : from < length old = omega arith in
    let here : slice_get old from ≡ Some entry = slice_get_read old (length old) from entry refl inside c.index-entry.ensures in
    let list = c.index-ends-entry.result in
    let node_inside : entry.node < length c.args.ends.now = omega (arith, so_far.sound.inside from entry here, c.requires.ends) in
    let are : list_at c.args.ends.now entry.node ≡ c.deref.result.now =
    list_at-read c.args.ends.now entry.node list node_inside c.index-ends-entry.is ∙ sym c.deref.ensures.value in
    let settled : IsSettled g state best least new entry =
    settled_by (rail_of c.args.progress.now.one) g state best c.args.ends.now c.requires.switches entry
    (λ place near. now.passed entry here place (rw are at near)) in
    record {
      one = now.one ∙ so_far.one;
      kept = Keeps-trans start old new so_far.kept now.kept;
      sound = rw so_far.one at now.sound;
      below = settled_more g state best least old new now.kept from entry here so_far.below settled;
    }

pub returns-clause-settled : goal.returns-clause-settled
returns-clause-settled c = λ k entry at.
    c.loop-from.invariant.below k entry
    (omega (arith, slice_get_within c.loop-from.progress.found.items k entry at)) at
